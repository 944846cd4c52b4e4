-- Installing and removing interfaces leaves a database sound.
use Rattle.std.proofs.Common.{◌≡◌, ◌<◌, ◌≤◌, ℕ, suc, ◌+◌, Bool, true, false, not, cond, ◌&&◌, nat_le, nat_lt, List, [], ◌∷◌, ◌++◌, length, map, filter, find, bytes_eq, Some, None, is_ok, refl, sym, ◌∙◌, length-append, inl, inr, if◌then◌else◌, arith}
use Rattle.std.specs.List.{list_any, list_all}
use Rattle.std.proofs.lemmas.List.{length-map}
use Rattle.std.proofs.lemmas.List.Folds.{list_any-append, list_all-append}
use Rattle.std.proofs.lemmas.Bool.{and_parts, and_from, leb-true, le-leb, lt-ltb, leb-false, eqb-true, not-false, not-true, both_ways, cases_Bool}
use Rattle.std.proofs.lemmas.Slice.Eq.{bytes_eq-Decides}
use Rattle.fw_types.specs.declared.limits.TheConstants.{HANDLE_NUMBER_END, MOST_INTERFACES}
use Rattle.handle_db.specs.Database.{Database, IsSound, differ, has, has_any, interfaces_in, interfaces_of, is_below, is_guid, is_handle, is_kept, is_live, rise_from, unless}
use Rattle.handle_db.specs.Installing.{InstallingKeeps, appended, install_answer, installed, is_full, new_entry, with_interface}
use Rattle.handle_db.specs.OwnedInterfaces.{RemovingOwnedKeeps, goes_with, without_interfaces_of}
use Rattle.handle_db.specs.Removing.{RemovingKeeps, without_guid, without_interface}
use Rattle.handle_db.specs.declared.refusal.DbRefusal.{DbRefusal}
use Rattle.handle_db.specs.declared.refusal.DbRefusal.TheVariants.{BadHandle, Already, Full}
use Rattle.handle_db.specs.declared.handle_entry.HandleEntry.{HandleEntry}
use Rattle.handle_db.specs.declared.handle_entry.Interface.{Interface}
use Rattle.handle_db.proofs.OnlyOne.{or_parts, map-changed-none}
use Rattle.handle_db.proofs.Order.{below-map, below_more, list_all-filter, none_below, rise_from-filter, rise_from-map, rise_from-push, head_rises}

-- ---- the entry that is changed

pub bytes_eq-sym : (xs ys : List ℕ) → bytes_eq xs ys ≡ false → bytes_eq ys xs ≡ false
bytes_eq-sym xs ys h = elim (cases_Bool (bytes_eq ys xs)) [
  | inl same ↦ absurd (both_ways (bytes_eq xs ys) h ((bytes_eq-Decides xs ys).1 (sym ((bytes_eq-Decides ys xs).0 same))))
  | inr other ↦ other
]

-- one more protocol, which was not there
differ-push : (interfaces : List Interface) (new : Interface) → differ interfaces ≡ true → list_any (is_guid new.guid) interfaces ≡ false → differ (interfaces ++ new ∷ []) ≡ true
differ-push [] new apart none = refl
differ-push (first ∷ interfaces) new apart none =
    let parts = and_parts (not (list_any (is_guid first.guid) interfaces)) (differ interfaces) apart in
    let others = or_parts (is_guid new.guid first) (list_any (is_guid new.guid) interfaces) none in
    let one : is_guid first.guid new ≡ false = bytes_eq-sym first.guid new.guid others.0 in
    let none_more : list_any (is_guid first.guid) (interfaces ++ new ∷ []) ≡ false =
    list_any-append (is_guid first.guid) interfaces (new ∷ []) ∙ rw (not-true _ parts.0, one) refl in
    rw none_more (differ-push interfaces new parts.1 others.1)

pub any-filter : {X : Type 0} (p q : X → Bool) (xs : List X) → list_any q xs ≡ false → list_any q (filter p xs) ≡ false
any-filter p q [] none = refl
any-filter p q (x ∷ xs) none =
    let parts = or_parts (q x) (list_any q xs) none in
    let rest : list_any q (filter p xs) ≡ false = any-filter p q xs parts.1 in
    elim (p x) as (λ b. list_any q (cond b (x ∷ filter p xs) (filter p xs)) ≡ false) [ true ↦ rw (parts.0, rest) refl | false ↦ rest ]

differ-filter : (p : Interface → Bool) (interfaces : List Interface) → differ interfaces ≡ true → differ (filter p interfaces) ≡ true
differ-filter p [] apart = refl
differ-filter p (first ∷ interfaces) apart =
    let parts = and_parts (not (list_any (is_guid first.guid) interfaces)) (differ interfaces) apart in
    let none : list_any (is_guid first.guid) (filter p interfaces) ≡ false = any-filter p (is_guid first.guid) interfaces (not-true _ parts.0) in
    let rest : differ (filter p interfaces) ≡ true = differ-filter p interfaces parts.1 in
    elim (p first) as (λ b. differ (cond b (first ∷ filter p interfaces) (filter p interfaces)) ≡ true) [ true ↦ rw (none, rest) refl | false ↦ rest ]

length-filter-le : (p : Interface → Bool) (interfaces : List Interface) → length (filter p interfaces) ≤ length interfaces
length-filter-le p [] = omega arith
length-filter-le p (first ∷ interfaces) =
    let rest = length-filter-le p interfaces in
    elim (p first) as (λ b. length (cond b (first ∷ filter p interfaces) (filter p interfaces)) ≤ suc (length interfaces)) [ true ↦ omega arith | false ↦ omega arith ]

-- the parts of `is_kept`
pub record Kept (interfaces : List Interface) : Type 0 where
  pub some : nat_lt 0 (length interfaces) ≡ true
  pub few : length interfaces ≤ MOST_INTERFACES
  pub apart : differ interfaces ≡ true

pub kept_parts : (entry : HandleEntry) → is_kept entry ≡ true → Kept entry.interfaces
kept_parts entry kept =
    let parts = and_parts (has_any entry && nat_le (length entry.interfaces) MOST_INTERFACES) (differ entry.interfaces) kept in
    let limits = and_parts (has_any entry) (nat_le (length entry.interfaces) MOST_INTERFACES) parts.0 in
    record { some = limits.0; few = leb-true _ _ limits.1; apart = parts.1 }

pub kept_from : (entry : HandleEntry) → Kept entry.interfaces → is_kept entry ≡ true
kept_from entry kept =
    and_from (has_any entry && nat_le (length entry.interfaces) MOST_INTERFACES) (differ entry.interfaces)
    (and_from (has_any entry) (nat_le (length entry.interfaces) MOST_INTERFACES) kept.some (le-leb _ _ kept.few)) kept.apart

kept-appended : (entry : HandleEntry) (new : Interface) → is_kept entry ≡ true → list_any (is_guid new.guid) entry.interfaces ≡ false → length entry.interfaces < MOST_INTERFACES → is_kept (appended new entry) ≡ true
kept-appended entry new kept none room =
    let parts = kept_parts entry kept in
    let longer : length (entry.interfaces ++ new ∷ []) ≡ length entry.interfaces + 1 = length-append entry.interfaces (new ∷ []) in
    kept_from (appended new entry) (record {
      some = lt-ltb 0 _ (omega (arith, longer));
      few = omega (arith, longer);
      apart = differ-push entry.interfaces new parts.apart none;
    })

-- fewer interfaces, if some are left
kept-fewer : (p : Interface → Bool) (entry : HandleEntry) → is_kept entry ≡ true → nat_lt 0 (length (filter p entry.interfaces)) ≡ true → is_kept (record entry { interfaces = filter p entry.interfaces }) ≡ true
kept-fewer p entry kept some =
    let parts = kept_parts entry kept in
    kept_from (record entry { interfaces = filter p entry.interfaces }) (record {
      some = some;
      few = omega (arith, length-filter-le p entry.interfaces, parts.few);
      apart = differ-filter p entry.interfaces parts.apart;
    })

kept-without : (guid : List ℕ) (entry : HandleEntry) → is_kept entry ≡ true → has_any (without_guid guid entry) ≡ true → is_kept (without_guid guid entry) ≡ true
kept-without guid entry kept some = kept-fewer (λ (one : Interface). not (is_guid guid one)) entry kept some

-- ---- all entries

-- a handle that may have one more interface
pub record HasRoom (interfaces : List Interface) (guid : List ℕ) : Type 0 where
  pub none : list_any (is_guid guid) interfaces ≡ false
  pub room : length interfaces < MOST_INTERFACES

kept-with-more : (here : Bool) (handle : ℕ) (new : Interface) (entry : HandleEntry) (entries : List HandleEntry) → is_kept entry ≡ true → list_all is_kept entries ≡ true
    → HasRoom (interfaces_in (cond here (Some entry) (find (is_handle handle) entries))) new.guid
    → (here ≡ true → list_any (is_handle handle) entries ≡ false)
    → (HasRoom (interfaces_in (find (is_handle handle) entries)) new.guid → list_all is_kept (with_interface handle new entries) ≡ true)
    → list_all is_kept ((if here then appended new entry else entry) ∷ with_interface handle new entries) ≡ true
kept-with-more true handle new entry entries kept all room alone rest =
    let same : with_interface handle new entries ≡ entries = map-changed-none (is_handle handle) (appended new) entries (alone refl) in
    and_from (is_kept (appended new entry)) (list_all is_kept (with_interface handle new entries)) (kept-appended entry new kept room.none room.room) (rw same all)
kept-with-more false handle new entry entries kept all room alone rest =
    and_from (is_kept entry) (list_all is_kept (with_interface handle new entries)) kept (rest room)

kept-with : (low handle : ℕ) (new : Interface) (entries : List HandleEntry) → rise_from low entries ≡ true → list_all is_kept entries ≡ true → HasRoom (interfaces_in (find (is_handle handle) entries)) new.guid → list_all is_kept (with_interface handle new entries) ≡ true
kept-with low handle new [] rise all room = refl
kept-with low handle new (entry ∷ entries) rise all room =
    let parts = and_parts (is_kept entry) (list_all is_kept entries) all in
    let above = head_rises low entry entries rise in
    kept-with-more (is_handle handle entry) handle new entry entries parts.0 parts.1 room
    (λ here. let number : entry.handle ≡ handle = eqb-true entry.handle handle here in none_below (entry.handle + 1) handle entries above.1 (omega arith))
    (λ later. kept-with (entry.handle + 1) handle new entries above.1 parts.1 later)

kept-rest : (guid : List ℕ) (here some : Bool) (entry : HandleEntry) (rest : List HandleEntry) → is_kept entry ≡ true → list_all is_kept rest ≡ true
    → has_any (if here then without_guid guid entry else entry) ≡ some
    → list_all is_kept (cond some ((if here then without_guid guid entry else entry) ∷ rest) rest) ≡ true
kept-rest guid here false entry rest kept all is = all
kept-rest guid true true entry rest kept all is = and_from (is_kept (without_guid guid entry)) (list_all is_kept rest) (kept-without guid entry kept is) all
kept-rest guid false true entry rest kept all is = and_from (is_kept entry) (list_all is_kept rest) kept all

kept-without_interface : (handle : ℕ) (guid : List ℕ) (entries : List HandleEntry) → list_all is_kept entries ≡ true → list_all is_kept (without_interface handle guid entries) ≡ true
kept-without_interface handle guid [] all = refl
kept-without_interface handle guid (entry ∷ entries) all =
    let parts = and_parts (is_kept entry) (list_all is_kept entries) all in
    kept-rest guid (is_handle handle entry) (has_any (if is_handle handle entry then without_guid guid entry else entry)) entry (without_interface handle guid entries) parts.0 (kept-without_interface handle guid entries parts.1) refl

-- ---- the laws

first_passed : {T : Type 0} (test : Bool) (refusal : DbRefusal) (rest : List (Bool × DbRefusal)) (value : T) → is_ok (unless ((test, refusal) ∷ rest) value) ≡ true → (test ≡ false) × (is_ok (unless rest value) ≡ true)
first_passed true refusal rest value ok = absurd cc
first_passed false refusal rest value ok = (refl, ok)

-- if installing is not refused there is room
pub room_for_handle : (guid : List ℕ) (db : Database) → is_ok (install_answer None guid db) ≡ true → is_full db ≡ false
room_for_handle guid db ok = (first_passed (is_full db) Full [] db.next ok).0

-- if there is room it is not refused
pub accepted_new : (guid : List ℕ) (db : Database) → is_full db ≡ false → is_ok (install_answer None guid db) ≡ true
accepted_new guid db room = rw room refl

pub room_for_interface : (handle : ℕ) (guid : List ℕ) (db : Database) → is_ok (install_answer (Some handle) guid db) ≡ true → HasRoom (interfaces_of handle db) guid
room_for_interface handle guid db ok =
    let live = first_passed (not (is_live handle db)) BadHandle ((has handle guid db, Already) ∷ (nat_le MOST_INTERFACES (length (interfaces_of handle db)), Full) ∷ []) handle ok in
    let new = first_passed (has handle guid db) Already ((nat_le MOST_INTERFACES (length (interfaces_of handle db)), Full) ∷ []) handle live.1 in
    let room = first_passed (nat_le MOST_INTERFACES (length (interfaces_of handle db))) Full [] handle new.1 in
    record { none = new.0; room = leb-false MOST_INTERFACES (length (interfaces_of handle db)) room.0 }

-- and the handle is live
pub live_for_interface : (handle : ℕ) (guid : List ℕ) (db : Database) → is_ok (install_answer (Some handle) guid db) ≡ true → is_live handle db ≡ true
live_for_interface handle guid db ok =
    not-false (is_live handle db) (first_passed (not (is_live handle db)) BadHandle ((has handle guid db, Already) ∷ (nat_le MOST_INTERFACES (length (interfaces_of handle db)), Full) ∷ []) handle ok).0

installed-handle : (new : Interface) (db : Database) → IsSound db → is_full db ≡ false → IsSound (installed None new db)
installed-handle new db sound room =
    let parts = or_parts (nat_le db.limit (length db.handles)) (nat_le HANDLE_NUMBER_END db.next) room in
    let free : length db.handles < db.limit = leb-false db.limit (length db.handles) parts.0 in
    let low : db.next < HANDLE_NUMBER_END = leb-false HANDLE_NUMBER_END db.next parts.1 in
    let entry : HandleEntry = new_entry db.next new in
    let last : is_below (db.next + 1) entry ≡ true = lt-ltb db.next (db.next + 1) (omega arith) in
    record {
      rising = rise_from-push 1 db.handles entry sound.rising sound.below (omega (arith, sound.from));
      below = list_all-append (is_below (db.next + 1)) db.handles (entry ∷ []) ∙ rw (below_more db.next (db.next + 1) db.handles (omega arith) sound.below, last) refl;
      kept = list_all-append is_kept db.handles (entry ∷ []) ∙ rw sound.kept refl;
      few = omega (arith, length-append db.handles (entry ∷ []));
      from = omega arith;
      end = omega arith;
    }

installed-interface : (handle : ℕ) (new : Interface) (db : Database) → IsSound db → HasRoom (interfaces_of handle db) new.guid → IsSound (installed (Some handle) new db)
installed-interface handle new db sound room =
    let change : HandleEntry → HandleEntry = λ entry. if is_handle handle entry then appended new entry else entry in
    let same : (entry : HandleEntry) → (change entry).handle ≡ entry.handle = λ entry. elim (is_handle handle entry) as (λ b. (if b then appended new entry else entry).handle ≡ entry.handle) [ true ↦ refl | false ↦ refl ] in
    record {
      rising = rise_from-map change same 1 db.handles ∙ sound.rising;
      below = below-map change same db.next db.handles ∙ sound.below;
      kept = kept-with 1 handle new db.handles sound.rising sound.kept room;
      few = omega (arith, length-map db.handles change, sound.few);
      from = sound.from;
      end = sound.end;
    }

pub installing : InstallingKeeps
installing None new db sound ok = installed-handle new db sound (room_for_handle new.guid db ok)
installing (Some handle) new db sound ok = installed-interface handle new db sound (room_for_interface handle new.guid db ok)

pub length-filter_entries : (p : HandleEntry → Bool) (entries : List HandleEntry) → length (filter p entries) ≤ length entries
length-filter_entries p [] = omega arith
length-filter_entries p (first ∷ entries) =
    let rest = length-filter_entries p entries in
    elim (p first) as (λ b. length (cond b (first ∷ filter p entries) (filter p entries)) ≤ suc (length entries)) [ true ↦ omega arith | false ↦ omega arith ]

pub removing : RemovingKeeps
removing handle guid db sound =
    let change : HandleEntry → HandleEntry = λ entry. if is_handle handle entry then without_guid guid entry else entry in
    let same : (entry : HandleEntry) → (change entry).handle ≡ entry.handle = λ entry. elim (is_handle handle entry) as (λ b. (if b then without_guid guid entry else entry).handle ≡ entry.handle) [ true ↦ refl | false ↦ refl ] in
    record {
      rising = rise_from-filter has_any 1 (map change db.handles) (rise_from-map change same 1 db.handles ∙ sound.rising);
      below = list_all-filter has_any (is_below db.next) (map change db.handles) (below-map change same db.next db.handles ∙ sound.below);
      kept = kept-without_interface handle guid db.handles sound.kept;
      few = omega (arith, length-filter_entries has_any (map change db.handles), length-map db.handles change, sound.few);
      from = sound.from;
      end = sound.end;
    }

-- ---- the interfaces that are removed with an image

kept-without_owned : (image : ℕ) (own : List ℕ) (entries : List HandleEntry) → list_all is_kept entries ≡ true → list_all is_kept (filter has_any (map (without_interfaces_of image own) entries)) ≡ true
kept-without_owned image own [] all = refl
kept-without_owned image own (entry ∷ entries) all =
    let parts = and_parts (is_kept entry) (list_all is_kept entries) all in
    by_any (has_any (without_interfaces_of image own entry)) refl parts.0 (kept-without_owned image own entries parts.1)
  where
    rest : List HandleEntry
    rest = filter has_any (map (without_interfaces_of image own) entries)

    by_any : (any : Bool) → has_any (without_interfaces_of image own entry) ≡ any → is_kept entry ≡ true → list_all is_kept rest ≡ true → list_all is_kept (cond any (without_interfaces_of image own entry ∷ rest) rest) ≡ true
    by_any true is kept later =
        and_from (is_kept (without_interfaces_of image own entry)) (list_all is_kept rest)
        (kept-fewer (λ (one : Interface). not (goes_with image own entry.handle one)) entry kept is) later
    by_any false is kept later = later

pub removing_owned : RemovingOwnedKeeps
removing_owned image own db sound =
    let changed : List HandleEntry = map (without_interfaces_of image own) db.handles in
    record {
      rising = rise_from-filter has_any 1 changed (rise_from-map (without_interfaces_of image own) (λ entry. refl) 1 db.handles ∙ sound.rising);
      below = list_all-filter has_any (is_below db.next) changed (below-map (without_interfaces_of image own) (λ entry. refl) db.next db.handles ∙ sound.below);
      kept = kept-without_owned image own db.handles sound.kept;
      few = omega (arith, length-filter_entries has_any changed, length-map db.handles (without_interfaces_of image own), sound.few);
      from = sound.from;
      end = sound.end;
    }
