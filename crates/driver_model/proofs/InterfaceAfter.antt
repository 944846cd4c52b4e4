-- Which interface of a protocol a handle has after one is removed: not that one, and each other as before.
use Rattle.std.proofs.Common.{◌≡◌, ℕ, Bool, true, false, not, cond, ◌&&◌, nat_eq, List, [], ◌∷◌, find, bytes_eq, Option, Some, None, option_map, refl, ap, ◌∙◌, if◌then◌else◌}
use Rattle.std.proofs.lemmas.Slice.Eq.{bytes_eq-Decides}
use Rattle.handle_db.specs.Database.{Database, IsSound, interface_of, interfaces_in, is_guid, is_handle, rise_from}
use Rattle.handle_db.specs.Removing.{removed, without_guid}
use Rattle.handle_db.specs.declared.handle_entry.HandleEntry.{HandleEntry}
use Rattle.handle_db.specs.declared.handle_entry.Interface.{Interface}
use Rattle.handle_db.proofs.HasAfter.{changed, find-changed, interfaces_left}
use Rattle.handle_db.proofs.OnlyOne.{find-none}
use Rattle.handle_db.proofs.Order.{rise_from-map}
use Rattle.handle_db.proofs.RemovalBack.{none_left, others}

-- ---- the interfaces of one handle

find_first : (guid other : List ℕ) (first : Interface) (rest : List Interface) (here : Bool) → bytes_eq guid other ≡ false → is_guid guid first ≡ here → find (is_guid other) (others guid rest) ≡ find (is_guid other) rest
    → find (is_guid other) (cond (not here) (first ∷ others guid rest) (others guid rest)) ≡ cond (is_guid other first) (Some first) (find (is_guid other) rest)
find_first guid other first rest true apart is later =
    let named : first.guid ≡ guid = (bytes_eq-Decides first.guid guid).0 is in
    let fails : is_guid other first ≡ false = rw named apart in
    rw fails later
find_first guid other first rest false apart is later = ap (cond (is_guid other first) (Some first)) later

find_same : (guid other : List ℕ) (interfaces : List Interface) → bytes_eq guid other ≡ false → find (is_guid other) (others guid interfaces) ≡ find (is_guid other) interfaces
find_same guid other [] apart = refl
find_same guid other (first ∷ rest) apart = find_first guid other first rest (is_guid guid first) apart refl (find_same guid other rest apart)

find_others : (guid other : List ℕ) (interfaces : List Interface) → find (is_guid other) (others guid interfaces) ≡ cond (bytes_eq guid other) None (find (is_guid other) interfaces)
find_others guid other interfaces = by_guid (bytes_eq guid other) refl
  where
    by_guid : (b : Bool) → bytes_eq guid other ≡ b → find (is_guid other) (others guid interfaces) ≡ cond b None (find (is_guid other) interfaces)
    by_guid true e =
        let same : guid ≡ other = (bytes_eq-Decides guid other).0 e in
        rw (← same) (find-none (is_guid guid) (others guid interfaces) (none_left guid interfaces))
    by_guid false e = find_same guid other interfaces e

-- ---- the handles

abbrev found_in : List ℕ → List Interface → Option (ℕ × ℕ)
found_in other interfaces = option_map (λ (one : Interface). (one.interface, one.owner)) (find (is_guid other) interfaces)

left_in : (guid other : List ℕ) (one : Option HandleEntry) → found_in other (interfaces_in (option_map (without_guid guid) one)) ≡ cond (bytes_eq guid other) None (found_in other (interfaces_in one))
left_in guid other None = either (bytes_eq guid other)
  where
    either : (b : Bool) → found_in other [] ≡ cond b None (found_in other [])
    either true = refl
    either false = refl
left_in guid other (Some entry) = ap (option_map (λ (one : Interface). (one.interface, one.owner))) (find_others guid other entry.interfaces) ∙ mapped (bytes_eq guid other)
  where
    mapped : (b : Bool) → option_map (λ (one : Interface). (one.interface, one.owner)) (cond b None (find (is_guid other) entry.interfaces)) ≡ cond b None (found_in other entry.interfaces)
    mapped true = refl
    mapped false = refl

kept_number : (handle : ℕ) (guid : List ℕ) (entry : HandleEntry) → (if is_handle handle entry then without_guid guid entry else entry).handle ≡ entry.handle
kept_number handle guid entry = elim (is_handle handle entry) as (λ b. (if b then without_guid guid entry else entry).handle ≡ entry.handle) [ true ↦ refl | false ↦ refl ]

pub removal-leaves : (handle : ℕ) (guid : List ℕ) (number : ℕ) (other : List ℕ) (db : Database) → IsSound db
    → interface_of number other (removed handle guid db) ≡ (if nat_eq handle number && bytes_eq guid other then None else interface_of number other db)
removal-leaves handle guid number other db sound =
    ap (found_in other) (interfaces_left number 1 (changed handle (without_guid guid) db.handles) rising)
    ∙ ap (λ (one : Option HandleEntry). found_in other (interfaces_in one)) (find-changed handle number (without_guid guid) (λ e. refl) db.handles)
    ∙ by_number (nat_eq handle number)
  where
    rising : rise_from 1 (changed handle (without_guid guid) db.handles) ≡ true
    rising = rise_from-map (λ (e : HandleEntry). if is_handle handle e then without_guid guid e else e) (kept_number handle guid) 1 db.handles ∙ sound.rising

    by_number : (b : Bool) → found_in other (interfaces_in (cond b (option_map (without_guid guid) (find (is_handle number) db.handles)) (find (is_handle number) db.handles)))
        ≡ cond (b && bytes_eq guid other) None (interface_of number other db)
    by_number true = left_in guid other (find (is_handle number) db.handles)
    by_number false = refl
