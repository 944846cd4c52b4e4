-- Taking an installation back.
use Rattle.std.proofs.Common.{◌≡◌, ◌<◌, ℕ, ◌+◌, ◌-◌, Bool, true, false, not, cond, nat_eq, List, [], ◌∷◌, ◌++◌, length, map, filter, find, bytes_eq, Some, None, is_ok, refl, ap, ◌∙◌, length-append, if◌then◌else◌, arith}
use Rattle.std.specs.List.{list_any, list_all, slice_get}
use Rattle.std.specs.Option.{option_map}
use Rattle.std.proofs.lemmas.Bool.{and_parts, both_ways, eqb-true, eq-eqb, ltb-true, ne_eqb}
use Rattle.std.proofs.lemmas.List.{append-nil, map-append, get_or_at}
use Rattle.std.proofs.lemmas.List.Elements.{filter-append}
use Rattle.std.proofs.lemmas.Option.{slice_get-get_or}
use Rattle.std.proofs.lemmas.Slice.Eq.{bytes_eq-Decides}
use Rattle.handle_db.specs.Database.{Database, IsSound, has_any, interfaces_in, interfaces_of, is_below, is_guid, is_handle, is_kept, rise_from}
use Rattle.handle_db.specs.Installing.{appended, install_answer, installed, new_entry, with_interface}
use Rattle.handle_db.specs.Removing.{without_guid, without_interface}
use Rattle.handle_db.specs.Undoing.{InstallingIsUndone, IsInstalledLast, last_guid}
use Rattle.handle_db.specs.declared.handle_entry.HandleEntry.{HandleEntry}
use Rattle.handle_db.specs.declared.handle_entry.Interface.{Interface}
use Rattle.handle_db.proofs.Keeping.{HasRoom, kept_parts, live_for_interface, room_for_interface}
use Rattle.handle_db.proofs.OnlyOne.{filter-none, find-after, map-changed-none}
use Rattle.handle_db.proofs.Order.{head_rises, none_below}
use Rattle.handle_db.proofs.RemovalBack.{found_among, found_there, others, without_none}

same_bytes : (guid : List ℕ) → bytes_eq guid guid ≡ true
same_bytes guid = (bytes_eq-Decides guid guid).1 refl

-- the last of some interfaces
pub last_pushed : (interfaces : List Interface) (new : Interface) → last_guid (interfaces ++ new ∷ []) ≡ Some new.guid
last_pushed interfaces new =
    let count : length (interfaces ++ new ∷ []) - 1 ≡ length interfaces = omega (arith, length-append interfaces (new ∷ [])) in
    let at : slice_get (interfaces ++ new ∷ []) (length interfaces) ≡ Some new =
    slice_get-get_or (interfaces ++ new ∷ []) (length interfaces) new (omega (arith, length-append interfaces (new ∷ [])))
    ∙ ap Some (get_or_at interfaces new [] new (length interfaces) refl) in
    ap (λ n. option_map (λ (one : Interface). one.guid) (slice_get (interfaces ++ new ∷ []) n)) count ∙ ap (option_map (λ (one : Interface). one.guid)) at

-- all but the last
pub others_pushed : (interfaces : List Interface) (new : Interface) → list_any (is_guid new.guid) interfaces ≡ false → others new.guid (interfaces ++ new ∷ []) ≡ interfaces
others_pushed interfaces new none =
    filter-append (λ (one : Interface). not (is_guid new.guid one)) interfaces (new ∷ [])
    ∙ rw (filter-none (is_guid new.guid) interfaces none, same_bytes new.guid) (append-nil interfaces)

-- ---- a new handle

pub none_at : (high : ℕ) (entries : List HandleEntry) → list_all (is_below high) entries ≡ true → list_any (is_handle high) entries ≡ false
none_at high [] below = refl
none_at high (entry ∷ entries) below =
    let parts = and_parts (is_below high entry) (list_all (is_below high) entries) below in
    let less : entry.handle < high = ltb-true entry.handle high parts.0 in
    rw (ne_eqb entry.handle high (λ same. omega arith), none_at high entries parts.1) refl

new_back : (new : Interface) (db : Database) → IsSound db → IsInstalledLast db.next new.guid true (installed None new db) × (without_interface db.next new.guid (db.handles ++ new_entry db.next new ∷ []) ≡ db.handles)
new_back new db sound =
    let none = none_at db.next db.handles sound.below in
    let here : nat_eq db.next db.next ≡ true = eq-eqb db.next db.next refl in
    let found : find (is_handle db.next) (db.handles ++ new_entry db.next new ∷ []) ≡ Some (new_entry db.next new) = find-after (is_handle db.next) db.handles (new_entry db.next new) [] none here in
    let its : interfaces_of db.next (installed None new db) ≡ new ∷ [] = ap interfaces_in found in
    let change : HandleEntry → HandleEntry = λ entry. if is_handle db.next entry then without_guid new.guid entry else entry in
    let nothing : filter has_any (map change (new_entry db.next new ∷ [])) ≡ [] = rw (here, same_bytes new.guid) refl in (
      record {
        last = ap last_guid its;
        alone = rw its refl;
        newest = λ _. refl;
      },
      ap (filter has_any) (map-append change db.handles (new_entry db.next new ∷ []))
          ∙ filter-append has_any (map change db.handles) (map change (new_entry db.next new ∷ []))
          ∙ ap (λ back. filter has_any (map change db.handles) ++ back) nothing ∙ append-nil (filter has_any (map change db.handles)) ∙ without_none db.next new.guid db.handles none sound.kept,
    )

-- ---- one more interface of a handle

module _ (handle : ℕ) (new : Interface) where
  -- the handle is the first
  here_back : (first : HandleEntry) (rest : List HandleEntry) → is_handle handle first ≡ true → list_any (is_handle handle) rest ≡ false → is_kept first ≡ true → list_all is_kept rest ≡ true
      → list_any (is_guid new.guid) first.interfaces ≡ false → without_interface handle new.guid (appended new first ∷ rest) ≡ first ∷ rest
  here_back first rest here none kept all apart =
      let same : without_guid new.guid (appended new first) ≡ first = ap (λ interfaces. record first { interfaces = interfaces }) (others_pushed first.interfaces new apart) in
      let changed : (if is_handle handle (appended new first) then without_guid new.guid (appended new first) else appended new first) ≡ first = rw here same in
      let others_left : List HandleEntry = without_interface handle new.guid rest in
      ap (λ (entry : HandleEntry). cond (has_any entry) (entry ∷ others_left) others_left) changed
      ∙ ap (λ some. cond some (first ∷ others_left) others_left) (kept_parts first kept).some
      ∙ ap (λ xs. first ∷ xs) (without_none handle new.guid rest none all)

  any_back : (here : Bool) (first : HandleEntry) (rest : List HandleEntry) → is_handle handle first ≡ here → rise_from (first.handle + 1) rest ≡ true → is_kept first ≡ true → list_all is_kept rest ≡ true
      → HasRoom (interfaces_in (cond here (Some first) (find (is_handle handle) rest))) new.guid
      → (HasRoom (interfaces_in (find (is_handle handle) rest)) new.guid → without_interface handle new.guid (with_interface handle new rest) ≡ rest)
      → without_interface handle new.guid (with_interface handle new (first ∷ rest)) ≡ first ∷ rest
  any_back true first rest is rise kept all room later =
      let named : first.handle ≡ handle = eqb-true first.handle handle is in
      let none : list_any (is_handle handle) rest ≡ false = none_below (first.handle + 1) handle rest rise (omega arith) in
      let pushed : with_interface handle new (first ∷ rest) ≡ appended new first ∷ rest = rw (is, map-changed-none (is_handle handle) (appended new) rest none) refl in
      ap (without_interface handle new.guid) pushed ∙ here_back first rest is none kept all room.none
  any_back false first rest is rise kept all room later =
      let pushed : with_interface handle new (first ∷ rest) ≡ first ∷ with_interface handle new rest = rw is refl in
      let left : without_interface handle new.guid (first ∷ with_interface handle new rest) ≡ first ∷ without_interface handle new.guid (with_interface handle new rest) = rw (is, (kept_parts first kept).some) refl in
      ap (without_interface handle new.guid) pushed ∙ left ∙ ap (λ xs. first ∷ xs) (later room)

  given_back : (low : ℕ) (entries : List HandleEntry) → rise_from low entries ≡ true → list_all is_kept entries ≡ true → HasRoom (interfaces_in (find (is_handle handle) entries)) new.guid
      → without_interface handle new.guid (with_interface handle new entries) ≡ entries
  given_back low [] rise all room = refl
  given_back low (first ∷ rest) rise all room =
      let parts = and_parts (is_kept first) (list_all is_kept rest) all in
      let above = head_rises low first rest rise in
      any_back (is_handle handle first) first rest refl above.1 parts.0 parts.1 room (λ more. given_back (first.handle + 1) rest above.1 parts.1 more)

  -- the handle with one more interface is found
  first_more : (here : Bool) (first : HandleEntry) (rest : List HandleEntry) → is_handle handle first ≡ here → find (is_handle handle) (with_interface handle new rest) ≡ option_map (appended new) (find (is_handle handle) rest)
      → find (is_handle handle) (with_interface handle new (first ∷ rest)) ≡ option_map (appended new) (cond here (Some first) (find (is_handle handle) rest))
  first_more true first rest is later = rw (is, is) refl
  first_more false first rest is later = rw (is, is) later

  found_more : (entries : List HandleEntry) → find (is_handle handle) (with_interface handle new entries) ≡ option_map (appended new) (find (is_handle handle) entries)
  found_more [] = refl
  found_more (first ∷ rest) = first_more (is_handle handle first) first rest refl (found_more rest)

  interface_back : (db : Database) → IsSound db → is_ok (install_answer (Some handle) new.guid db) ≡ true
      → IsInstalledLast handle new.guid false (installed (Some handle) new db) × (without_interface handle new.guid (with_interface handle new db.handles) ≡ db.handles)
  interface_back db sound ok =
      let room = room_for_interface handle new.guid db ok in
      let entry = found_there (is_handle handle) db.handles (live_for_interface handle new.guid db ok) in
      let its : interfaces_of handle (installed (Some handle) new db) ≡ entry.0.interfaces ++ new ∷ [] = ap interfaces_in (found_more db.handles ∙ ap (option_map (appended new)) entry.1) in
      let kept = kept_parts entry.0 (found_among is_kept (is_handle handle) db.handles entry.0 sound.kept entry.1) in
      let some : 0 < length entry.0.interfaces = ltb-true 0 (length entry.0.interfaces) kept.some in
      let more : nat_eq (length (entry.0.interfaces ++ new ∷ [])) 1 ≡ false = ne_eqb (length (entry.0.interfaces ++ new ∷ [])) 1 (λ one. omega (arith, length-append entry.0.interfaces (new ∷ []))) in (
        record {
          last = ap last_guid its ∙ last_pushed entry.0.interfaces new;
          alone = ap (λ (interfaces : List Interface). nat_eq (length interfaces) 1) its ∙ more;
          newest = λ made. absurd (both_ways false refl made);
        },
        given_back 1 db.handles sound.rising sound.kept room,
      )

pub installing_back : InstallingIsUndone
installing_back None new db sound ok =
    let back = new_back new db sound in
    (back.0, ap (λ (handles : List HandleEntry). record db { handles = handles }) back.1)
installing_back (Some handle) new db sound ok =
    let back = interface_back handle new db sound ok in
    (back.0, ap (λ (handles : List HandleEntry). record db { handles = handles }) back.1)
