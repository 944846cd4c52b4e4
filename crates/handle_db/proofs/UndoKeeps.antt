-- Taking a change back leaves a database sound.
use Rattle.std.proofs.Common.{◌≡◌, ◌≢◌, ◌<◌, ◌≤◌, ℕ, zero, suc, ◌+◌, ◌-◌, Bool, true, false, not, cond, ◌&&◌, nat_eq, nat_le, nat_lt, List, [], ◌∷◌, length, find, get_or, set, Option, Some, None, Result, Ok, Err, is_err, refl, ap, sym, subst, ◌∙◌, if◌then◌else◌, inl, inr, arith}
use Rattle.std.specs.List.{insert, list_any, list_all, position_or_len, slice_get}
use Rattle.std.specs.Option.{option_map}
use Rattle.std.specs.Result.{OnErr, OnOk}
use Rattle.std.proofs.lemmas.Bool.{and_parts, and_from, both_ways, cases_Bool, cases_lt, eqb-true, eq-eqb, le-leb, le-ltb, lt-ltb, ltb-true, not-true, not_from_false}
use Rattle.std.proofs.lemmas.List.{length-map}
use Rattle.std.proofs.lemmas.List.Edits.{length-insert}
use Rattle.std.proofs.lemmas.List.Folds.{list_any_at}
use Rattle.std.proofs.lemmas.Option.{slice_get_within, get_or_from_slice_get}
use Rattle.std.proofs.lemmas.Slice.Eq.{bytes_eq-Decides}
use Rattle.fw_types.specs.declared.limits.TheConstants.{MOST_INTERFACES}
use Rattle.handle_db.specs.Database.{Database, IsSound, differ, interfaces_in, interfaces_of, is_below, is_guid, is_handle, is_kept, is_live, rise_from}
use Rattle.handle_db.specs.Installing.{new_entry}
use Rattle.handle_db.specs.Places.{IsPlaceOf, IsRoomFor}
use Rattle.handle_db.specs.Removing.{remove_answer, removed}
use Rattle.handle_db.specs.Undoing.{HasRoomFor, IsInstalledLast, UndoingInstallKeeps, UndoingRemoveKeeps, inserted, interface_again, last_guid, remove_undone, with_entry, with_back, with_interface_at}
use Rattle.handle_db.specs.declared.handle_entry.HandleEntry.{HandleEntry}
use Rattle.handle_db.specs.declared.handle_entry.Interface.{Interface}
use Rattle.handle_db.specs.declared.refusal.DbRefusal.{DbRefusal}
use Rattle.handle_db.specs.declared.refusal.Removed.{Removed}
use Rattle.handle_db.proofs.Keeping.{bytes_eq-sym, kept_from, kept_parts, removing}
use Rattle.handle_db.proofs.OnlyOne.{find-none, find-only, map-changed-none, or_parts, set-only}
use Rattle.handle_db.proofs.Order.{below-map, head_rises, nobody, none_below, only_at, rise_from-map}
use Rattle.handle_db.proofs.RemovalBack.{found_there, undone}

-- ---- an installation taken back

-- a protocol that an interface has is found
named_there : (guid : List ℕ) (interfaces : List Interface) (place : ℕ) (one : Option Interface) → slice_get interfaces place ≡ one → option_map (λ (i : Interface). i.guid) one ≡ Some guid
    → list_any (is_guid guid) interfaces ≡ true
named_there guid interfaces place None is named = absurd cc
named_there guid interfaces place (Some one) is named =
    let same : one.guid ≡ guid = cc in
    let passes : is_guid guid one ≡ true = (bytes_eq-Decides one.guid guid).1 same in
    list_any_at (is_guid guid) interfaces place one (slice_get_within interfaces place one is) (rw (get_or_from_slice_get interfaces place one one is) passes)

module _ (handle : ℕ) (guid : List ℕ) (made : Bool) (db : Database) (is : IsInstalledLast handle guid made db) where
  live_last : is_live handle db ≡ true
  live_last = elim (cases_Bool (is_live handle db)) [
    | inl live ↦ live
    | inr dead ↦ (let none : interfaces_of handle db ≡ [] = ap interfaces_in (find-none (is_handle handle) db.handles dead) in
        let no : None ≡ Some guid = sym (ap last_guid none) ∙ is.last in absurd cc)
  ]

  -- removing it is not refused, and the handle is removed exactly if it was made for it
  pub removal_there : (r : Removed) × (remove_answer handle guid db ≡ Ok r) × (r.gone ≡ made)
  removal_there =
      let interfaces : List Interface = interfaces_of handle db in
      let there = named_there guid interfaces (length interfaces - 1) (slice_get interfaces (length interfaces - 1)) refl is.last in
      let one = found_there (is_guid guid) interfaces there in (
        record { interface = one.0.interface; owner = one.0.owner; place = position_or_len (is_guid guid) interfaces; gone = nat_eq (length interfaces) 1 },
        rw (live_last, one.1) refl,
        is.alone,
      )

  -- and the handles are below its number, if it is removed
  below_handle : (entries : List HandleEntry) → list_all (is_below (handle + 1)) entries ≡ true → list_any (is_handle handle) entries ≡ false → list_all (is_below handle) entries ≡ true
  below_handle [] below none = refl
  below_handle (entry ∷ entries) below none =
      let parts = and_parts (is_below (handle + 1) entry) (list_all (is_below (handle + 1)) entries) below in
      let apart = or_parts (is_handle handle entry) (list_any (is_handle handle) entries) none in
      let less : entry.handle < handle + 1 = ltb-true entry.handle (handle + 1) parts.0 in
      let other : entry.handle ≢ handle = λ same. both_ways (is_handle handle entry) apart.0 (eq-eqb entry.handle handle same) in
      and_from (is_below handle entry) (list_all (is_below handle) entries) (lt-ltb entry.handle handle (omega arith)) (below_handle entries parts.1 apart.1)

pub undoing_install : UndoingInstallKeeps
undoing_install handle guid false db sound is = removing handle guid db sound
undoing_install handle guid true db sound is =
    let r = removal_there handle guid true db is in
    let left = removing handle guid db sound in
    let room = (undone handle guid r.0 db sound r.1).0 in
    let next : db.next ≡ handle + 1 = is.newest refl in
    let none : list_any (is_handle handle) (removed handle guid db).handles ≡ false = room.live ∙ ap not r.2 in
    let from : 0 < handle = elim (cases_lt 0 handle) [
      | inl some ↦ some
      | inr none_at ↦ absurd (both_ways (is_live handle db) (none_below 1 handle db.handles sound.rising (omega arith)) (live_last handle guid true db is))
    ] in
    record {
      rising = left.rising;
      below = below_handle handle guid true db is (removed handle guid db).handles (ap (λ n. list_all (is_below n) (removed handle guid db).handles) (sym next) ∙ left.below) none;
      kept = left.kept;
      few = left.few;
      from = from;
      end = omega (arith, sound.end);
    }

-- ---- a removal taken back: a handle among the others

with_rising : (low : ℕ) (new : HandleEntry) (entries : List HandleEntry) → rise_from low entries ≡ true → low ≤ new.handle → list_any (is_handle new.handle) entries ≡ false → rise_from low (with_entry new entries) ≡ true
with_rising low new [] rise le none = and_from (nat_le low new.handle) true (le-leb low new.handle le) refl
with_rising low new (entry ∷ entries) rise le none =
    let above = head_rises low entry entries rise in
    let apart = or_parts (is_handle new.handle entry) (list_any (is_handle new.handle) entries) none in
    let other : entry.handle ≢ new.handle = λ same. both_ways (is_handle new.handle entry) apart.0 (eq-eqb entry.handle new.handle same) in
    elim (cases_lt new.handle entry.handle) [
      | inl less ↦ rw (lt-ltb new.handle entry.handle less)
          (and_from (nat_le low new.handle) (nat_le (new.handle + 1) entry.handle && rise_from (entry.handle + 1) entries) (le-leb low new.handle le)
          (and_from (nat_le (new.handle + 1) entry.handle) (rise_from (entry.handle + 1) entries) (le-leb (new.handle + 1) entry.handle (omega arith)) above.1))
      | inr most ↦ rw (le-ltb new.handle entry.handle most)
          (and_from (nat_le low entry.handle) (rise_from (entry.handle + 1) (with_entry new entries)) (le-leb low entry.handle above.0)
          (with_rising (entry.handle + 1) new entries above.1 (omega arith) apart.1))
    ]

with_all : (holds : HandleEntry → Bool) (new : HandleEntry) (entries : List HandleEntry) → list_all holds entries ≡ true → holds new ≡ true → list_all holds (with_entry new entries) ≡ true
with_all holds new [] all one = and_from (holds new) true one refl
with_all holds new (entry ∷ entries) all one =
    let parts = and_parts (holds entry) (list_all holds entries) all in
    elim (nat_lt new.handle entry.handle) as (λ b. list_all holds (if b then new ∷ entry ∷ entries else entry ∷ with_entry new entries) ≡ true) [
      | true ↦ and_from (holds new) (list_all holds (entry ∷ entries)) one all
      | false ↦ and_from (holds entry) (list_all holds (with_entry new entries)) parts.0 (with_all holds new entries parts.1 one)
    ]

length-with_entry : (new : HandleEntry) (entries : List HandleEntry) → length (with_entry new entries) ≡ suc (length entries)
length-with_entry new [] = refl
length-with_entry new (entry ∷ entries) =
    elim (nat_lt new.handle entry.handle) as (λ b. length (if b then new ∷ entry ∷ entries else entry ∷ with_entry new entries) ≡ suc (suc (length entries))) [
      | true ↦ refl
      | false ↦ ap suc (length-with_entry new entries)
    ]

-- ---- an interface among the others

any_inserted : (test : Interface → Bool) (interfaces : List Interface) (place : ℕ) (one : Interface) → list_any test interfaces ≡ false → test one ≡ false → list_any test (insert interfaces place one) ≡ false
any_inserted test [] zero one none fails = rw fails refl
any_inserted test [] (suc place) one none fails = rw fails refl
any_inserted test (first ∷ rest) zero one none fails = rw fails none
any_inserted test (first ∷ rest) (suc place) one none fails =
    let parts = or_parts (test first) (list_any test rest) none in
    rw parts.0 (any_inserted test rest place one parts.1 fails)

differ_inserted : (interfaces : List Interface) (place : ℕ) (one : Interface) → differ interfaces ≡ true → list_any (is_guid one.guid) interfaces ≡ false → differ (insert interfaces place one) ≡ true
differ_inserted [] zero one apart none = refl
differ_inserted [] (suc place) one apart none = refl
differ_inserted (first ∷ rest) zero one apart none = and_from (not (list_any (is_guid one.guid) (first ∷ rest))) (differ (first ∷ rest)) (not_from_false (list_any (is_guid one.guid) (first ∷ rest)) none) apart
differ_inserted (first ∷ rest) (suc place) one apart none =
    let parts = and_parts (not (list_any (is_guid first.guid) rest)) (differ rest) apart in
    let others = or_parts (is_guid one.guid first) (list_any (is_guid one.guid) rest) none in
    let other : is_guid first.guid one ≡ false = bytes_eq-sym first.guid one.guid others.0 in
    and_from (not (list_any (is_guid first.guid) (insert rest place one))) (differ (insert rest place one))
    (not_from_false (list_any (is_guid first.guid) (insert rest place one)) (any_inserted (is_guid first.guid) rest place one (not-true _ parts.0) other))
    (differ_inserted rest place one parts.1 others.1)

-- what there is room for in a handle's interfaces
pub record HasPlace (place : ℕ) (guid : List ℕ) (had : List Interface) : Type 0 where
  pub none : list_any (is_guid guid) had ≡ false
  pub within : place ≤ length had
  pub room : length had < MOST_INTERFACES

kept_inserted : (place : ℕ) (one : Interface) (entry : HandleEntry) → is_kept entry ≡ true → HasPlace place one.guid entry.interfaces → is_kept (inserted place one entry) ≡ true
kept_inserted place one entry kept room =
    let parts = kept_parts entry kept in
    let longer : length (insert entry.interfaces place one) ≡ length entry.interfaces + 1 = length-insert entry.interfaces place one room.within in
    kept_from (inserted place one entry) (record {
      some = lt-ltb 0 (length (insert entry.interfaces place one)) (omega (arith, longer));
      few = omega (arith, longer, room.room);
      apart = differ_inserted entry.interfaces place one parts.apart room.none;
    })

module _ (handle place : ℕ) (one : Interface) where
  kept_first : (here : Bool) (first : HandleEntry) (rest : List HandleEntry) → is_handle handle first ≡ here → is_kept first ≡ true → list_all is_kept rest ≡ true
      → HasPlace place one.guid (interfaces_in (cond here (Some first) (find (is_handle handle) rest)))
      → (here ≡ true → list_any (is_handle handle) rest ≡ false)
      → (HasPlace place one.guid (interfaces_in (find (is_handle handle) rest)) → list_all is_kept (with_interface_at handle place one rest) ≡ true)
      → list_all is_kept (with_interface_at handle place one (first ∷ rest)) ≡ true
  kept_first true first rest is kept all room alone later =
      let same : with_interface_at handle place one rest ≡ rest = map-changed-none (is_handle handle) (inserted place one) rest (alone refl) in
      rw is (and_from (is_kept (inserted place one first)) (list_all is_kept (with_interface_at handle place one rest)) (kept_inserted place one first kept room) (rw same all))
  kept_first false first rest is kept all room alone later = rw is (and_from (is_kept first) (list_all is_kept (with_interface_at handle place one rest)) kept (later room))

  kept_all : (low : ℕ) (entries : List HandleEntry) → rise_from low entries ≡ true → list_all is_kept entries ≡ true → HasPlace place one.guid (interfaces_in (find (is_handle handle) entries))
      → list_all is_kept (with_interface_at handle place one entries) ≡ true
  kept_all low [] rise all room = refl
  kept_all low (first ∷ rest) rise all room =
      let parts = and_parts (is_kept first) (list_all is_kept rest) all in
      let above = head_rises low first rest rise in
      kept_first (is_handle handle first) first rest refl parts.0 parts.1 room
      (λ here. let named : first.handle ≡ handle = eqb-true first.handle handle here in none_below (first.handle + 1) handle rest above.1 (omega arith))
      (λ more. kept_all (first.handle + 1) rest above.1 parts.1 more)

-- ---- a removal taken back

undoing_by : (gone : Bool) (handle : ℕ) (guid : List ℕ) (r : Removed) (db : Database) → r.gone ≡ gone → IsSound db → HasRoomFor handle guid r db → IsSound (remove_undone handle guid r db)
undoing_by true handle guid r db gone sound room =
    let new : HandleEntry = new_entry handle (interface_again guid r) in
    let none : list_any (is_handle handle) db.handles ≡ false = room.live ∙ ap not gone in
    let fewer = room.handles gone in
    let sound_with : IsSound (record db { handles = with_entry new db.handles }) = record {
      rising = with_rising 1 new db.handles sound.rising (omega (arith, room.from)) none;
      below = with_all (is_below db.next) new db.handles sound.below (lt-ltb handle db.next room.old);
      kept = with_all is_kept new db.handles sound.kept refl;
      few = omega (arith, length-with_entry new db.handles);
      from = sound.from;
      end = sound.end;
    } in
    rw gone sound_with
undoing_by false handle guid r db gone sound room =
    let one : Interface = interface_again guid r in
    let change : HandleEntry → HandleEntry = λ entry. if is_handle handle entry then inserted r.place one entry else entry in
    let same : (entry : HandleEntry) → (change entry).handle ≡ entry.handle = λ entry. elim (is_handle handle entry) as (λ b. (if b then inserted r.place one entry else entry).handle ≡ entry.handle) [ true ↦ refl | false ↦ refl ] in
    let sound_with : IsSound (record db { handles = with_interface_at handle r.place one db.handles }) = record {
      rising = rise_from-map change same 1 db.handles ∙ sound.rising;
      below = below-map change same db.next db.handles ∙ sound.below;
      kept = kept_all handle r.place one 1 db.handles sound.rising sound.kept (record { none = room.lacks; within = room.place; room = room.few });
      few = omega (arith, length-map db.handles change, sound.few);
      from = sound.from;
      end = sound.end;
    } in
    rw gone sound_with

pub undoing_remove : UndoingRemoveKeeps
undoing_remove handle guid r db sound room = undoing_by r.gone handle guid r db refl sound room

-- ---- by places

-- a handle put in at the place that a search gives
pub with_entry_at : (new : HandleEntry) (entries : List HandleEntry) (place : ℕ) → IsRoomFor new.handle entries place → insert entries place new ≡ with_entry new entries
with_entry_at new [] zero room = refl
with_entry_at new [] (suc place) room = absurd (omega (arith, room.within))
with_entry_at new (entry ∷ entries) zero room =
    let less : new.handle < entry.handle = room.after 0 entry (omega arith) (omega arith) in
    rw (lt-ltb new.handle entry.handle less) refl
with_entry_at new (entry ∷ entries) (suc place) room =
    let more : entry.handle < new.handle = room.before 0 entry (omega arith) in
    let rest : IsRoomFor new.handle entries place = record {
      within = omega (arith, room.within);
      before = λ k other lt. room.before (suc k) other (omega arith);
      after = λ k other le h. room.after (suc k) other (omega arith) (omega arith);
    } in
    rw (le-ltb new.handle entry.handle (omega arith)) (ap (λ xs. entry ∷ xs) (with_entry_at new entries place rest))

-- the same, as the code finds the place
pub with_entry_found : (number : ℕ) (new : HandleEntry) (shown entries : List HandleEntry) (place : ℕ) → shown ≡ entries → number ≡ new.handle → list_any (is_handle new.handle) entries ≡ false
    → (list_any (is_handle number) shown ≡ false → IsRoomFor number shown place) → insert entries place new ≡ with_entry new entries
with_entry_found number new shown entries place same named none found =
    let absent : list_any (is_handle number) shown ≡ false = rw (same, named) none in
    let room : IsRoomFor number shown place = found absent in
    with_entry_at new entries place (rw (same, named) at room)

-- ---- as the code removes

-- the call is not refused, so the interface is removed
pub removed_last : {P : Type 0} (handle : ℕ) (guid : List ℕ) (made : Bool) (db : Database) (result : Result Removed DbRefusal) → IsInstalledLast handle guid made db → result ≡ remove_answer handle guid db → OnOk result P → P
removed_last handle guid made db (Ok r) is answer done = done
removed_last handle guid made db (Err refusal) is answer done = let there = removal_there handle guid made db is in let no : Err refusal ≡ Ok there.0 = answer ∙ there.1 in absurd cc

-- ---- as the code puts back

-- what a call says about an error, or about the other case, once the code has tested which it is
pub err_gives : {T E P : Type 0} (result : Result T E) (test : Bool) → test ≡ true → test ≡ is_err result → OnErr result P → P
err_gives (Ok value) test failed is gives = absurd (both_ways test is failed)
err_gives (Err error) test failed is gives = gives

pub ok_gives : {T E P : Type 0} (result : Result T E) (test : Bool) → test ≡ false → test ≡ is_err result → OnOk result P → P
ok_gives (Ok value) test went is gives = gives
ok_gives (Err error) test went is gives = absurd (both_ways test went is)

-- an interface is put in at the place of a handle that is there
pub record IsStaying (handle place : ℕ) (one : Interface) (entries : List HandleEntry) (at : ℕ) : Type 0 where
  pub within : (d : HandleEntry) → place ≤ length (get_or entries at d).interfaces
  pub put : (d : HandleEntry) → set entries at (inserted place one (get_or entries at d)) ≡ with_back (not (list_any (is_handle handle) entries)) handle place one entries

pub staying : (handle number place : ℕ) (one : Interface) (shown entries : List HandleEntry) (at : ℕ) → rise_from 1 entries ≡ true → place ≤ length (interfaces_in (find (is_handle handle) entries))
    → shown ≡ entries → number ≡ handle → IsPlaceOf number shown at → IsStaying handle place one entries at
staying handle number place one shown entries at rise room same named found =
    let is : IsPlaceOf handle entries at = rw (← named, ← same) found in
    let live : list_any (is_handle handle) entries ≡ true = list_any_at (is_handle handle) entries at nobody is.within (only_at handle entries at nobody rise is).passes in
    record {
      within = λ d. subst (λ (one : Option HandleEntry). place ≤ length (interfaces_in one)) (find-only (only_at handle entries at d rise is)) room;
      put = λ d. rw live (set-only (inserted place one) (only_at handle entries at d rise is));
    }

-- the handle was removed exactly if it is not there
pub gone_is : (handle : ℕ) (guid : List ℕ) (r : Removed) (db : Database) → HasRoomFor handle guid r db → not (list_any (is_handle handle) db.handles) ≡ r.gone
gone_is handle guid r db room = ap not room.live ∙ twice r.gone
  where
    twice : (b : Bool) → not (not b) ≡ b
    twice true = refl
    twice false = refl
