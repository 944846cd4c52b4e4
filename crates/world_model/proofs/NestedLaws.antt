-- The nested view, as single changes leave it.
use Rattle.std.proofs.Common.{◌≡◌, inl, inr, ℕ, suc, Bool, true, false, ◌&&◌, not, cond, nat_eq, nat_lt, bytes_eq, List, [], ◌∷◌, ◌++◌, length, map, filter, Option, Some, None, refl, sym, ap, ◌∙◌, subst, arith}
use Rattle.std.specs.Prelude.{if◌then◌else◌}
use Rattle.std.specs.List.{list_all, list_any}
use Rattle.std.proofs.lemmas.Bool.{and_cases, and_left, and_parts, and_right, both_ways, eqb-true}
use Rattle.std.proofs.lemmas.Bool.Decides.{nat_tests}
use Rattle.std.proofs.lemmas.Slice.Eq.{bytes_eq-Decides}
use Rattle.fw_types.specs.declared.attr.TheConstants.Attr.{ALL_BITS, BY_CHILD_CONTROLLER, WEAK_BITS}
use Rattle.handle_db.specs.declared.handle_entry.HandleEntry.{HandleEntry}
use Rattle.handle_db.specs.declared.handle_entry.Interface.{Interface}
use Rattle.handle_db.specs.Database.{Database, has, has_any, interfaces_in, is_guid, is_handle, is_live}
use Rattle.handle_db.specs.Installing.{appended}
use Rattle.handle_db.specs.Removing.{removed, without_guid}
use Rattle.open_records.specs.declared.open_record.KeyedRecord.{KeyedRecord}
use Rattle.open_records.specs.declared.open_record.Rec.{Rec}
use Rattle.open_records.specs.OpenRecords.{RecordTable, is_of, records_of}
use Rattle.open_records.specs.Adding.{added, entered}
use Rattle.open_records.specs.Laws.{is_same}
use Rattle.open_records.specs.Leaving.{cut, cut_on, is_meant, is_named, swept}
use Rattle.open_records.proofs.ListLemmas.{any_map}
use Rattle.open_records.proofs.LawProofs.{added_here, added_not_elsewhere, cut_here, cut_not_elsewhere, swept_everywhere}
use Rattle.world_model.specs.World.{Soft}
use Rattle.world_model.specs.Records.{with_records}
use Rattle.world_model.specs.Kept.{are_parties_live}
use Rattle.world_model.specs.Legal.{HandleNode, InterfaceNode, handle_view, interface_view, is_among, nested}
use Rattle.world_model.specs.NestedLaws.{AllLeavingInView, ChildLeavingInView, EnteringInView, InstallingInView, LeavingInView, NewHandleInView, RecordsChange, UninstallingInView, WeakDroppingInView, at_handle, at_interface, changed_records, everywhere, has_interfaces, unnamed_unless_there, unopened, with_interface_node, without, without_interface_node, without_protocol}
use Rattle.world_model.proofs.RecordParties.{parties_of}
use Rattle.world_model.proofs.KeepingImages.{none_next}
use Rattle.world_model.proofs.Databases.{bytes-swap}

-- ---- names of interfaces

same_guid : (one two : List ℕ) → bytes_eq one two ≡ true → one ≡ two
same_guid one two same = (bytes_eq-Decides one two).0 same

-- the same test read the other way
other-swap : (a b : ℕ) (one two : List ℕ) → (nat_eq a b && bytes_eq one two) ≡ false → (nat_eq b a && bytes_eq two one) ≡ false
other-swap a b one two other = elim (and_cases (nat_eq a b) (bytes_eq one two) other) [
  | inl numbers ↦ and_left (nat_eq b a) (bytes_eq two one) (grind (arith, nat_tests))
  | inr guids ↦ and_right (nat_eq b a) (bytes_eq two one) (bytes-swap one two false guids)
]

-- ---- records

-- the view with other records, of which each interface has what a change makes of its own
interfaces_changed : (keyed after : List KeyedRecord) (change : RecordsChange) → ((handle : ℕ) (guid : List ℕ) → records_of after handle guid ≡ change handle guid (records_of keyed handle guid))
    → (handle : ℕ) (interfaces : List Interface)
    → map (interface_view after handle) interfaces ≡ map (λ (i : InterfaceNode). record i { records = change handle i.guid i.records }) (map (interface_view keyed handle) interfaces)
interfaces_changed keyed after change same handle [] = refl
interfaces_changed keyed after change same handle (one ∷ interfaces) =
    let new : List Rec → InterfaceNode = λ records. record { guid = one.guid; interface = one.interface; owner = one.owner; records = records } in
    ap (λ (records : List Rec). new records ∷ map (interface_view after handle) interfaces) (same handle one.guid)
    ∙ ap (λ (others : List InterfaceNode). new (change handle one.guid (records_of keyed handle one.guid)) ∷ others) (interfaces_changed keyed after change same handle interfaces)

view_changed : (keyed after : List KeyedRecord) (change : RecordsChange) → ((handle : ℕ) (guid : List ℕ) → records_of after handle guid ≡ change handle guid (records_of keyed handle guid))
    → (entries : List HandleEntry) → map (handle_view after) entries ≡ changed_records change (map (handle_view keyed) entries)
view_changed keyed after change same [] = refl
view_changed keyed after change same (entry ∷ entries) =
    let new : List InterfaceNode → HandleNode = λ interfaces. record { handle = entry.handle; interfaces = interfaces } in
    ap (λ (interfaces : List InterfaceNode). new interfaces ∷ map (handle_view after) entries) (interfaces_changed keyed after change same entry.handle entry.interfaces)
    ∙ ap (λ (others : List HandleNode). new (map (λ (i : InterfaceNode). record i { records = change entry.handle i.guid i.records }) (map (interface_view keyed entry.handle) entry.interfaces)) ∷ others)
    (view_changed keyed after change same entries)

-- a change of one interface, from what it is there and elsewhere
by_interface : (keyed after : List KeyedRecord) (handle : ℕ) (guid : List ℕ) (change : List Rec → List Rec) → records_of after handle guid ≡ change (records_of keyed handle guid)
    → ((of : ℕ) (of_guid : List ℕ) → is_same handle guid of of_guid ≡ false → records_of after of of_guid ≡ records_of keyed of of_guid)
    → (of : ℕ) (of_guid : List ℕ) → records_of after of of_guid ≡ at_interface handle guid change of of_guid (records_of keyed of of_guid)
by_interface keyed after handle guid change here elsewhere of of_guid = by_test (is_same handle guid of of_guid) refl
  where
    by_test : (same : Bool) → is_same handle guid of of_guid ≡ same → records_of after of of_guid ≡ (if same then change (records_of keyed of of_guid) else records_of keyed of of_guid)
    by_test true same =
        let parts = and_parts (nat_eq handle of) (bytes_eq guid of_guid) same in
        subst (λ (h : ℕ). records_of after h of_guid ≡ change (records_of keyed h of_guid)) (eqb-true handle of parts.0)
        (subst (λ (g : List ℕ). records_of after handle g ≡ change (records_of keyed handle g)) (same_guid guid of_guid parts.1) here)
    by_test false other = elsewhere of of_guid other

pub entering : EnteringInView
entering soft handle guid agent controller attr kept =
    let after = (added handle guid agent controller attr soft.records).entries in
    view_changed soft.records.entries after (at_interface handle guid (entered agent controller attr))
    (by_interface soft.records.entries after handle guid (entered agent controller attr) (added_here soft.records kept.records.sound handle guid agent controller attr)
    (λ of of_guid other. added_not_elsewhere soft.records kept.records.sound handle guid agent controller attr of of_guid other))
    soft.database.handles

cutting : (soft : Soft) (handle : ℕ) (guid : List ℕ) (test : Rec → Bool) → nested (with_records (cut handle guid test soft.records) soft) ≡ changed_records (at_interface handle guid (without test)) (nested soft)
cutting soft handle guid test =
    let after = (cut handle guid test soft.records).entries in
    view_changed soft.records.entries after (at_interface handle guid (without test))
    (by_interface soft.records.entries after handle guid (without test) (cut_here soft.records handle guid test) (λ of of_guid other. cut_not_elsewhere soft.records handle guid test of of_guid other))
    soft.database.handles

pub leaving : LeavingInView
leaving soft handle guid agent controller = cutting soft handle guid (is_meant (Some agent) (Some controller) ALL_BITS)

pub weak_dropping : WeakDroppingInView
weak_dropping soft handle guid = cutting soft handle guid (is_meant None None WEAK_BITS)

-- ---- all interfaces of a handle

filter_none : {X : Type 0} (xs : List X) → filter (λ x. true) xs ≡ xs
filter_none [] = refl
filter_none (x ∷ xs) = ap (λ others. x ∷ others) (filter_none xs)

-- the records of an interface in a part of the table that is chosen by a test of the records
records_of-filter : (keep : KeyedRecord → Bool) (test : Rec → Bool) (handle : ℕ) (guid : List ℕ) (keyed : List KeyedRecord) → ((one : KeyedRecord) → is_of handle guid one ≡ true → keep one ≡ test one.rec)
    → records_of (filter keep keyed) handle guid ≡ filter test (records_of keyed handle guid)
records_of-filter keep test handle guid [] same = refl
records_of-filter keep test handle guid (one ∷ keyed) same =
    by_case (is_of handle guid one) (keep one) refl refl (records_of-filter keep test handle guid keyed same)
  where
    by_case : (mine kept : Bool) → is_of handle guid one ≡ mine → keep one ≡ kept → records_of (filter keep keyed) handle guid ≡ filter test (records_of keyed handle guid)
        → map (λ (other : KeyedRecord). other.rec) (filter (is_of handle guid) (cond kept (one ∷ filter keep keyed) (filter keep keyed)))
        ≡ filter test (map (λ (other : KeyedRecord). other.rec) (cond mine (one ∷ filter (is_of handle guid) keyed) (filter (is_of handle guid) keyed)))
    by_case true true mine kept later =
        let tested : test one.rec ≡ true = sym (same one mine) ∙ kept in
        rw (mine, tested) (ap (λ (others : List Rec). one.rec ∷ others) later)
    by_case true false mine kept later =
        let tested : test one.rec ≡ false = sym (same one mine) ∙ kept in
        rw tested later
    by_case false true mine kept later = rw mine later
    by_case false false mine kept later = later

by_handle : (keyed : List KeyedRecord) (handle : ℕ) (test : Rec → Bool) (of : ℕ) (of_guid : List ℕ)
    → records_of (filter (λ (one : KeyedRecord). not (nat_eq one.handle handle && test one.rec)) keyed) of of_guid ≡ at_handle handle (without test) of of_guid (records_of keyed of of_guid)
by_handle keyed handle test of of_guid = by_test (nat_eq handle of) refl
  where
    by_test : (same : Bool) → nat_eq handle of ≡ same
        → records_of (filter (λ (one : KeyedRecord). not (nat_eq one.handle handle && test one.rec)) keyed) of of_guid ≡ (if same then without test (records_of keyed of of_guid) else records_of keyed of of_guid)
    by_test true same =
        records_of-filter (λ (one : KeyedRecord). not (nat_eq one.handle handle && test one.rec)) (λ (rec : Rec). not (test rec)) of of_guid keyed
        (λ one mine.
        let parts = and_parts (nat_eq one.handle of) (bytes_eq one.guid of_guid) mine in
        let here : nat_eq one.handle handle ≡ true = grind (arith, nat_tests, parts.0, same) in
        rw here refl)
    by_test false other =
        records_of-filter (λ (one : KeyedRecord). not (nat_eq one.handle handle && test one.rec)) (λ (rec : Rec). true) of of_guid keyed
        (λ one mine.
        let parts = and_parts (nat_eq one.handle of) (bytes_eq one.guid of_guid) mine in
        let apart : nat_eq one.handle handle ≡ false = grind (arith, nat_tests, parts.0, other) in
        rw apart refl)
        ∙ filter_none (records_of keyed of of_guid)

cutting_on : (soft : Soft) (handle : ℕ) (test : Rec → Bool) → nested (with_records (cut_on handle test soft.records) soft) ≡ changed_records (at_handle handle (without test)) (nested soft)
cutting_on soft handle test =
    view_changed soft.records.entries (cut_on handle test soft.records).entries (at_handle handle (without test)) (by_handle soft.records.entries handle test) soft.database.handles

pub all_leaving : AllLeavingInView
all_leaving soft handle agent = cutting_on soft handle (is_meant (Some agent) None ALL_BITS)

pub child_leaving : ChildLeavingInView
child_leaving soft handle agent child = cutting_on soft handle (is_meant (Some agent) (Some child) BY_CHILD_CONTROLLER)

-- ---- installing

-- an interface that is not there has no records
no_records : (db : Database) (keyed : List KeyedRecord) (handle : ℕ) (guid : List ℕ) → list_all (are_parties_live db) keyed ≡ true → has handle guid db ≡ false → records_of keyed handle guid ≡ []
no_records db [] handle guid all none = refl
no_records db (one ∷ keyed) handle guid all none =
    let parts = and_parts (are_parties_live db one) (list_all (are_parties_live db) keyed) all in
    by_test (is_of handle guid one) refl (parties_of db one parts.0).interface (no_records db keyed handle guid parts.1 none)
  where
    by_test : (mine : Bool) → is_of handle guid one ≡ mine → has one.handle one.guid db ≡ true → records_of keyed handle guid ≡ []
        → map (λ (other : KeyedRecord). other.rec) (cond mine (one ∷ filter (is_of handle guid) keyed) (filter (is_of handle guid) keyed)) ≡ []
    by_test true mine there later =
        let parts = and_parts (nat_eq one.handle handle) (bytes_eq one.guid guid) mine in
        let here : has handle guid db ≡ true =
        subst (λ (h : ℕ). has h guid db ≡ true) (eqb-true one.handle handle parts.0) (subst (λ (g : List ℕ). has one.handle g db ≡ true) (same_guid one.guid guid parts.1) there) in
        absurd (both_ways (has handle guid db) none here)
    by_test false mine there later = later

map-append : {X Y : Type 0} (f : X → Y) (xs : List X) (y : X) → map f (xs ++ y ∷ []) ≡ map f xs ++ f y ∷ []
map-append f [] y = refl
map-append f (x ∷ xs) y = ap (λ others. f x ∷ others) (map-append f xs y)

pub new_handle : NewHandleInView
new_handle soft new kept =
    let keyed = soft.records.entries in
    let next = soft.database.next in
    let absent : has next new.guid soft.database ≡ false = ap (λ (found : Option HandleEntry). list_any (is_guid new.guid) (interfaces_in found)) (none_next next soft.database.handles kept.database.sound.below) in
    map-append (handle_view keyed) soft.database.handles (record { handle = next; interfaces = new ∷ [] })
    ∙ ap (λ (records : List Rec). nested soft ++ record { handle = next; interfaces = record { guid = new.guid; interface = new.interface; owner = new.owner; records = records } ∷ [] } ∷ [])
    (no_records soft.database keyed next new.guid kept.records.parties absent)

pub installing : InstallingInView
installing soft handle new kept absent = each soft.database.handles
  where
    each : (entries : List HandleEntry)
        → map (handle_view soft.records.entries) (map (λ (entry : HandleEntry). if is_handle handle entry then appended new entry else entry) entries)
        ≡ map (with_interface_node handle new) (map (handle_view soft.records.entries) entries)
    each [] = refl
    each (entry ∷ entries) = by_head (is_handle handle entry) refl (each entries)
      where
        by_head : (here : Bool) → is_handle handle entry ≡ here
            → map (handle_view soft.records.entries) (map (λ (entry : HandleEntry). if is_handle handle entry then appended new entry else entry) entries)
            ≡ map (with_interface_node handle new) (map (handle_view soft.records.entries) entries)
            → handle_view soft.records.entries (if here then appended new entry else entry) ∷ map (handle_view soft.records.entries) (map (λ (entry : HandleEntry). if is_handle handle entry then appended new entry else entry) entries)
            ≡ (if here then record (handle_view soft.records.entries entry) { interfaces = (handle_view soft.records.entries entry).interfaces ++ unopened new ∷ [] } else handle_view soft.records.entries entry)
            ∷ map (with_interface_node handle new) (map (handle_view soft.records.entries) entries)
        by_head true here later =
            let number : entry.handle ≡ handle = eqb-true entry.handle handle here in
            let none : records_of soft.records.entries entry.handle new.guid ≡ [] =
            ap (λ (h : ℕ). records_of soft.records.entries h new.guid) number ∙ no_records soft.database soft.records.entries handle new.guid kept.records.parties absent in
            let interfaces : map (interface_view soft.records.entries entry.handle) (entry.interfaces ++ new ∷ []) ≡ map (interface_view soft.records.entries entry.handle) entry.interfaces ++ unopened new ∷ [] =
            map-append (interface_view soft.records.entries entry.handle) entry.interfaces new
            ∙ ap (λ (records : List Rec). map (interface_view soft.records.entries entry.handle) entry.interfaces ++ record { guid = new.guid; interface = new.interface; owner = new.owner; records = records } ∷ []) none in
            ap (λ (is : List InterfaceNode). record { handle = entry.handle; interfaces = is } ∷ map (handle_view soft.records.entries) (map (λ (entry : HandleEntry). if is_handle handle entry then appended new entry else entry) entries)) interfaces
            ∙ ap (λ (others : List HandleNode). record { handle = entry.handle; interfaces = map (interface_view soft.records.entries entry.handle) entry.interfaces ++ unopened new ∷ [] } ∷ others) later
        by_head false here later = ap (λ (others : List HandleNode). handle_view soft.records.entries entry ∷ others) later

-- ---- uninstalling

map-filter : {X Y : Type 0} (f : X → Y) (p : X → Bool) (q : Y → Bool) (xs : List X) → ((x : X) → p x ≡ q (f x)) → map f (filter p xs) ≡ filter q (map f xs)
map-filter f p q [] same = refl
map-filter {X} {Y} f p q (x ∷ xs) same = by_head (p x) (q (f x)) (same x) (map-filter f p q xs same)
  where
    by_head : (here there : Bool) → here ≡ there → map f (filter p xs) ≡ filter q (map f xs) → map f (cond here (x ∷ filter p xs) (filter p xs)) ≡ cond there (f x ∷ filter q (map f xs)) (filter q (map f xs))
    by_head true true e later = ap (λ others. f x ∷ others) later
    by_head true false e later = absurd cc
    by_head false true e later = absurd cc
    by_head false false e later = later

length-map : {X Y : Type 0} (f : X → Y) (xs : List X) → length (map f xs) ≡ length xs
length-map f [] = refl
length-map f (x ∷ xs) = ap (λ n. suc n) (length-map f xs)

module _ (keyed : List KeyedRecord) (handle : ℕ) (guid : List ℕ) where
  abbrev after : List KeyedRecord
  after = filter (λ (one : KeyedRecord). not (is_of handle guid one && is_meant None None ALL_BITS one.rec)) keyed

  abbrev table : RecordTable
  table = record { entries = keyed; limit = 0 }

  -- another interface has its records still
  stays : (of : ℕ) (of_guid : List ℕ) → is_same handle guid of of_guid ≡ false → records_of after of of_guid ≡ records_of keyed of of_guid
  stays of of_guid other = cut_not_elsewhere table handle guid (is_meant None None ALL_BITS) of of_guid other

  -- the interfaces of the handle, of which one is removed
  same_handle : (of : ℕ) (interfaces : List Interface)
      → map (interface_view after of) (filter (λ (listed : Interface). not (is_guid guid listed)) interfaces) ≡ filter (λ (i : InterfaceNode). not (bytes_eq i.guid guid)) (map (interface_view keyed of) interfaces)
  same_handle of [] = refl
  same_handle of (one ∷ interfaces) = by_head (is_guid guid one) refl (same_handle of interfaces)
    where
      by_head : (here : Bool) → is_guid guid one ≡ here
          → map (interface_view after of) (filter (λ (listed : Interface). not (is_guid guid listed)) interfaces) ≡ filter (λ (i : InterfaceNode). not (bytes_eq i.guid guid)) (map (interface_view keyed of) interfaces)
          → map (interface_view after of) (cond (not here) (one ∷ filter (λ (listed : Interface). not (is_guid guid listed)) interfaces) (filter (λ (listed : Interface). not (is_guid guid listed)) interfaces))
          ≡ cond (not here) (interface_view keyed of one ∷ filter (λ (i : InterfaceNode). not (bytes_eq i.guid guid)) (map (interface_view keyed of) interfaces)) (filter (λ (i : InterfaceNode). not (bytes_eq i.guid guid)) (map (interface_view keyed of) interfaces))
      by_head true here later = later
      by_head false here later =
          let apart : is_same handle guid of one.guid ≡ false = and_right (nat_eq handle of) (bytes_eq guid one.guid) (bytes-swap one.guid guid false here) in
          let new : List Rec → InterfaceNode = λ records. record { guid = one.guid; interface = one.interface; owner = one.owner; records = records } in
          ap (λ (records : List Rec). new records ∷ map (interface_view after of) (filter (λ (listed : Interface). not (is_guid guid listed)) interfaces)) (stays of one.guid apart)
          ∙ ap (λ (others : List InterfaceNode). interface_view keyed of one ∷ others) later

  -- the interfaces of another handle
  other_handle : (of : ℕ) → nat_eq of handle ≡ false → (interfaces : List Interface) → map (interface_view after of) interfaces ≡ map (interface_view keyed of) interfaces
  other_handle of other [] = refl
  other_handle of other (one ∷ interfaces) =
      let apart : is_same handle guid of one.guid ≡ false = and_left (nat_eq handle of) (bytes_eq guid one.guid) (grind (arith, nat_tests, other)) in
      let new : List Rec → InterfaceNode = λ records. record { guid = one.guid; interface = one.interface; owner = one.owner; records = records } in
      ap (λ (records : List Rec). new records ∷ map (interface_view after of) interfaces) (stays of one.guid apart)
      ∙ ap (λ (others : List InterfaceNode). interface_view keyed of one ∷ others) (other_handle of other interfaces)

  abbrev change : HandleEntry → HandleEntry
  change entry = if is_handle handle entry then without_guid guid entry else entry

  one_handle : (entry : HandleEntry) → handle_view after (change entry) ≡ without_protocol handle guid (handle_view keyed entry)
  one_handle entry = by_test (is_handle handle entry) refl
    where
      by_test : (here : Bool) → is_handle handle entry ≡ here
          → handle_view after (if here then without_guid guid entry else entry)
          ≡ (if here then record { handle = entry.handle; interfaces = filter (λ (i : InterfaceNode). not (bytes_eq i.guid guid)) (map (interface_view keyed entry.handle) entry.interfaces) } else handle_view keyed entry)
      by_test true here = ap (λ (is : List InterfaceNode). record { handle = entry.handle; interfaces = is }) (same_handle entry.handle entry.interfaces)
      by_test false here = ap (λ (is : List InterfaceNode). record { handle = entry.handle; interfaces = is }) (other_handle entry.handle here entry.interfaces)

  all_handles : (entries : List HandleEntry) → map (handle_view after) (map change entries) ≡ map (without_protocol handle guid) (map (handle_view keyed) entries)
  all_handles [] = refl
  all_handles (entry ∷ entries) =
      ap (λ (one : HandleNode). one ∷ map (handle_view after) (map change entries)) (one_handle entry)
      ∙ ap (λ (others : List HandleNode). without_protocol handle guid (handle_view keyed entry) ∷ others) (all_handles entries)

  pub cut_view : (entries : List HandleEntry) → map (handle_view after) (filter has_any (map change entries)) ≡ without_interface_node handle guid (map (handle_view keyed) entries)
  cut_view entries =
      map-filter (handle_view after) has_any has_interfaces (map change entries) (λ entry. ap (nat_lt 0) (sym (length-map (interface_view after entry.handle) entry.interfaces)))
      ∙ ap (filter has_interfaces) (all_handles entries)

pub uninstalling : UninstallingInView
uninstalling soft handle guid = by_live (is_live handle (removed handle guid soft.database)) refl
  where
    by_live : (live : Bool) → is_live handle (removed handle guid soft.database) ≡ live
        → map (handle_view (if live then cut handle guid (is_meant None None ALL_BITS) soft.records else swept handle (cut handle guid (is_meant None None ALL_BITS) soft.records)).entries) (removed handle guid soft.database).handles
        ≡ unnamed_unless_there handle (without_interface_node handle guid (nested soft))
    by_live live is =
        let view = map (handle_view (cut handle guid (is_meant None None ALL_BITS) soft.records).entries) (removed handle guid soft.database).handles in
        let same : view ≡ without_interface_node handle guid (nested soft) = cut_view soft.records.entries handle guid soft.database.handles in
        let among : is_among view handle ≡ live =
        any_map (handle_view (cut handle guid (is_meant None None ALL_BITS) soft.records).entries) (λ (one : HandleNode). nat_eq one.handle handle) (removed handle guid soft.database).handles ∙ is in
        subst (λ (handles : List HandleNode). map (handle_view (if live then cut handle guid (is_meant None None ALL_BITS) soft.records else swept handle (cut handle guid (is_meant None None ALL_BITS) soft.records)).entries) (removed handle guid soft.database).handles ≡ unnamed_unless_there handle handles) same
        (rw among (by_case live))
      where
        by_case : (live : Bool)
            → map (handle_view (if live then cut handle guid (is_meant None None ALL_BITS) soft.records else swept handle (cut handle guid (is_meant None None ALL_BITS) soft.records)).entries) (removed handle guid soft.database).handles
            ≡ (if live then map (handle_view (cut handle guid (is_meant None None ALL_BITS) soft.records).entries) (removed handle guid soft.database).handles
            else changed_records (everywhere (without (is_named handle))) (map (handle_view (cut handle guid (is_meant None None ALL_BITS) soft.records).entries) (removed handle guid soft.database).handles))
        by_case true = refl
        by_case false =
            view_changed (cut handle guid (is_meant None None ALL_BITS) soft.records).entries (swept handle (cut handle guid (is_meant None None ALL_BITS) soft.records)).entries (everywhere (without (is_named handle)))
            (λ of of_guid. swept_everywhere (cut handle guid (is_meant None None ALL_BITS) soft.records) handle of of_guid) (removed handle guid soft.database).handles
