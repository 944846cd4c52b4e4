-- What open records name is there, as interfaces are installed and removed.
use Rattle.std.proofs.Common.{◌≡◌, inl, inr, ℕ, Bool, true, false, not, ◌&&◌, ◌||◌, cond, nat_eq, bytes_eq, List, [], ◌∷◌, ◌++◌, map, filter, find, Option, Some, None, refl, sym, ap, ◌∙◌, arith}
use Rattle.std.specs.Prelude.{is_some, option_map, if◌then◌else◌}
use Rattle.std.specs.List.{list_all, list_any}
use Rattle.std.proofs.lemmas.Bool.{and_from, and_parts, both_ways, cases_Bool, eqb-true, or_cases, or_left, or_parts, or_right, not-true}
use Rattle.std.proofs.lemmas.Bool.Decides.{nat_tests}
use Rattle.std.proofs.lemmas.List.Folds.{list_all-append, list_any-append}
use Rattle.handle_db.specs.declared.handle_entry.HandleEntry.{HandleEntry}
use Rattle.handle_db.specs.declared.handle_entry.Interface.{Interface}
use Rattle.handle_db.specs.Database.{Database, IsSound as DatabaseIsSound, has, has_any, interface_of, interfaces_of, is_guid, is_handle, is_kept as is_kept_entry, is_live}
use Rattle.handle_db.specs.Installing.{appended, installed, new_entry}
use Rattle.handle_db.specs.Removing.{removed, without_guid, without_interface}
use Rattle.handle_db.proofs.Keeping.{kept_parts}
use Rattle.open_records.specs.declared.open_record.KeyedRecord.{KeyedRecord}
use Rattle.open_records.specs.OpenRecords.{RecordTable, is_before, is_after, is_equal, is_kept, is_of, records_of}
use Rattle.open_records.specs.Adding.{added, first, raised, with_new, with_raised}
use Rattle.open_records.specs.Leaving.{cut, is_meant, is_named, swept}
use Rattle.open_records.proofs.RemovalLemmas.{cut_sound, filter_sound, swept_sound}
use Rattle.open_records.proofs.LawProofs.{kept_is_meant}
use Rattle.fw_types.specs.declared.attr.TheConstants.Attr.{ALL_BITS}
use Rattle.world_model.specs.Records.{is_none_or_live, records_removed}
use Rattle.world_model.specs.Kept.{AreRecordsKept, are_parties_live, has_interface, is_address}
use Rattle.world_model.proofs.Databases.{has-installed, has-removed}
use Rattle.world_model.proofs.Segments.{list_all-both, list_all-filter, list_all-filter_both, list_all-mono}

-- ---- what a handle has

find_any : {X : Type 0} (p : X → Bool) (xs : List X) → is_some (find p xs) ≡ list_any p xs
find_any p [] = refl
find_any p (x ∷ xs) = elim (p x) as (λ b. is_some (cond b (Some x) (find p xs)) ≡ (b || list_any p xs)) [ true ↦ refl | false ↦ find_any p xs ]

abbrev is_found : ℕ → ℕ → Option Interface → Bool
is_found address owner found = is_address address owner (option_map (λ (i : Interface). (i.interface, i.owner)) found)

found_some : (address owner : ℕ) (found : Option Interface) → is_found address owner found ≡ true → is_some found ≡ true
found_some address owner None is = absurd cc
found_some address owner (Some i) is = refl

found_itself : (i : Interface) → is_found i.interface i.owner (Some i) ≡ true
found_itself i =
    let one : nat_eq i.interface i.interface ≡ true = grind (arith, nat_tests) in
    let two : nat_eq i.owner i.owner ≡ true = grind (arith, nat_tests) in
    rw (one, two) refl

-- a handle has an interface that is found
pub has_from : (handle : ℕ) (guid : List ℕ) (db : Database) → is_some (interface_of handle guid db) ≡ true → has handle guid db ≡ true
has_from handle guid db some = sym (find_any (is_guid guid) (interfaces_of handle db)) ∙ by_found (find (is_guid guid) (interfaces_of handle db)) some
  where
    by_found : (found : Option Interface) → is_some {T = ℕ × ℕ} (option_map (λ (i : Interface). (i.interface, i.owner)) found) ≡ true → is_some found ≡ true
    by_found None some = absurd cc
    by_found (Some i) some = refl

-- a handle has a protocol that it has in another database, if each of its interfaces there stays
has_by : (handle : ℕ) (guid : List ℕ) (db after : Database)
    → ((address owner : ℕ) → has_interface db handle guid address owner ≡ true → has_interface after handle guid address owner ≡ true)
    → has handle guid db ≡ true → has handle guid after ≡ true
has_by handle guid db after stays there =
    by_found (find (is_guid guid) (interfaces_of handle db)) refl (find_any (is_guid guid) (interfaces_of handle db) ∙ there)
  where
    by_found : (found : Option Interface) → find (is_guid guid) (interfaces_of handle db) ≡ found → is_some found ≡ true → has handle guid after ≡ true
    by_found None is some = absurd cc
    by_found (Some i) is some =
        let before : has_interface db handle guid i.interface i.owner ≡ true = ap (is_found i.interface i.owner) is ∙ found_itself i in
        sym (find_any (is_guid guid) (interfaces_of handle after))
        ∙ found_some i.interface i.owner (find (is_guid guid) (interfaces_of handle after)) (stays i.interface i.owner before)

-- ---- which handles are live

any_changed : (number : ℕ) (change : HandleEntry → HandleEntry) (entries : List HandleEntry) → ((entry : HandleEntry) → (change entry).handle ≡ entry.handle) → list_any (is_handle number) (map change entries) ≡ list_any (is_handle number) entries
any_changed number change [] same = refl
any_changed number change (entry ∷ entries) same =
    ap (λ (handle : ℕ). nat_eq handle number || list_any (is_handle number) (map change entries)) (same entry)
    ∙ ap (λ b. is_handle number entry || b) (any_changed number change entries same)

same_handle : (here : Bool) (one two : HandleEntry) → one.handle ≡ two.handle → (if here then one else two).handle ≡ two.handle
same_handle true one two same = same
same_handle false one two same = refl

live-installed : (number : ℕ) (who : Option ℕ) (new : Interface) (db : Database) → is_live number db ≡ true → is_live number (installed who new db) ≡ true
live-installed number None new db live =
    list_any-append (is_handle number) db.handles (new_entry db.next new ∷ [])
    ∙ or_left (list_any (is_handle number) db.handles) (list_any (is_handle number) (new_entry db.next new ∷ [])) live
live-installed number (Some handle) new db live =
    any_changed number (λ (entry : HandleEntry). if is_handle handle entry then appended new entry else entry) db.handles
    (λ entry. same_handle (is_handle handle entry) (appended new entry) entry refl) ∙ live

live_without : (number handle : ℕ) (guid : List ℕ) (entries : List HandleEntry) → nat_eq number handle ≡ false → list_all has_any entries ≡ true → list_any (is_handle number) entries ≡ true
    → list_any (is_handle number) (without_interface handle guid entries) ≡ true
live_without number handle guid [] other all live = absurd cc
live_without number handle guid (entry ∷ entries) other all live =
    let one : HandleEntry = if is_handle handle entry then without_guid guid entry else entry in
    let rest = without_interface handle guid entries in
    let parts = and_parts (has_any entry) (list_all has_any entries) all in
    elim (or_cases (is_handle number entry) (list_any (is_handle number) entries) live) [
      | inl here ↦
          let apart : is_handle handle entry ≡ false = grind (arith, nat_tests, here, other) in
          rw (apart, parts.0, here) refl
      | inr later ↦
          let more = live_without number handle guid entries other parts.1 later in
          elim (has_any one) as (λ b. list_any (is_handle number) (cond b (one ∷ rest) rest) ≡ true) [ true ↦ or_right (is_handle number one) (list_any (is_handle number) rest) more | false ↦ more ]
    ]

live-removed : (number handle : ℕ) (guid : List ℕ) (db : Database) → DatabaseIsSound db → nat_eq number handle ≡ false → is_live number db ≡ true → is_live number (removed handle guid db) ≡ true
live-removed number handle guid db sound other live =
    live_without number handle guid db.handles other (list_all-mono is_kept_entry has_any db.handles (λ entry kept. (kept_parts entry kept).some) sound.kept) live

-- ---- what a record names

none_or : (zero live more : Bool) → (live ≡ true → more ≡ true) → (zero || live) ≡ true → (zero || more) ≡ true
none_or true live more stays is = refl
none_or false live more stays is = stays is

-- the parts of `are_parties_live`
pub record Names (db : Database) (one : KeyedRecord) : Type 0 where
  pub interface : has one.handle one.guid db ≡ true
  pub agent : is_live one.rec.agent db ≡ true
  pub controller : is_none_or_live one.rec.controller db ≡ true

pub parties_of : (db : Database) (one : KeyedRecord) → are_parties_live db one ≡ true → Names db one
parties_of db one is =
    let parts = and_parts (has one.handle one.guid db) (is_live one.rec.agent db && is_none_or_live one.rec.controller db) is in
    let live = and_parts (is_live one.rec.agent db) (is_none_or_live one.rec.controller db) parts.1 in
    record { interface = parts.0; agent = live.0; controller = live.1 }

parties_from : (db : Database) (one : KeyedRecord) → Names db one → are_parties_live db one ≡ true
parties_from db one names =
    and_from (has one.handle one.guid db) (is_live one.rec.agent db && is_none_or_live one.rec.controller db) names.interface
    (and_from (is_live one.rec.agent db) (is_none_or_live one.rec.controller db) names.agent names.controller)

-- fewer records
pub records-filter : (test : KeyedRecord → Bool) (db : Database) (table : RecordTable) → AreRecordsKept db table → AreRecordsKept db (record table { entries = filter test table.entries })
records-filter test db table opens =
    record { sound = filter_sound test table opens.sound; limit = opens.limit; parties = list_all-filter (are_parties_live db) test table.entries opens.parties }

-- ---- an interface that is installed

pub records-installed : (who : Option ℕ) (new : Interface) (db : Database) (table : RecordTable) → AreRecordsKept db table → AreRecordsKept (installed who new db) table
records-installed who new db table opens = record {
  sound = opens.sound;
  limit = opens.limit;
  parties =
      list_all-mono (are_parties_live db) (are_parties_live (installed who new db)) table.entries
      (λ one is.
      let names = parties_of db one is in
      parties_from (installed who new db) one (record {
        interface = has_by one.handle one.guid db (installed who new db) (λ address owner has. has-installed db who new one.handle one.guid address owner has) names.interface;
        agent = live-installed one.rec.agent who new db names.agent;
        controller =
            none_or (nat_eq one.rec.controller 0) (is_live one.rec.controller db) (is_live one.rec.controller (installed who new db))
            (λ live. live-installed one.rec.controller who new db live) names.controller;
      }))
      opens.parties;
}

-- ---- an interface that is removed

-- a record that stays is of another interface
of_other : (handle : ℕ) (guid : List ℕ) (one : KeyedRecord) → is_kept one ≡ true → not (is_of handle guid one && is_meant None None ALL_BITS one.rec) ≡ true → (bytes_eq one.guid guid && nat_eq one.handle handle) ≡ false
of_other handle guid one kept stays = by_tests (nat_eq one.handle handle) (bytes_eq one.guid guid) (is_meant None None ALL_BITS one.rec) (kept_is_meant one kept) stays
  where
    by_tests : (same_number same_guid meant : Bool) → not meant ≡ false → not ((same_number && same_guid) && meant) ≡ true → (same_guid && same_number) ≡ false
    by_tests true true true is stays = absurd cc
    by_tests true true false is stays = absurd cc
    by_tests true false meant is stays = refl
    by_tests false true meant is stays = refl
    by_tests false false meant is stays = refl

-- a live handle stays live, unless it is the one whose interface is removed
live_still : (number handle : ℕ) (guid : List ℕ) (db : Database) → DatabaseIsSound db → (nat_eq number handle ≡ true → is_live number (removed handle guid db) ≡ true) → is_live number db ≡ true → is_live number (removed handle guid db) ≡ true
live_still number handle guid db sound same live = elim (cases_Bool (nat_eq number handle)) [
  | inl here ↦ same here
  | inr other ↦ live-removed number handle guid db sound other live
]

-- what is known of a record that stays
abbrev stays_named : Database → Database → KeyedRecord → Bool
stays_named after db one = has one.handle one.guid after && are_parties_live db one

module _ (handle : ℕ) (guid : List ℕ) (db : Database) (table : RecordTable) (sound : DatabaseIsSound db) (opens : AreRecordsKept db table) where
  -- an interface's records are removed, and those that stay are of interfaces that are there
  left_named : list_all (stays_named (removed handle guid db) db) (cut handle guid (is_meant None None ALL_BITS) table).entries ≡ true
  left_named =
      list_all-filter_both (λ (one : KeyedRecord). are_parties_live db one && is_kept one) (λ (one : KeyedRecord). not (is_of handle guid one && is_meant None None ALL_BITS one.rec)) (stays_named (removed handle guid db) db) table.entries
      (λ one is stays.
      let parts = and_parts (are_parties_live db one) (is_kept one) is in
      let names = parties_of db one parts.0 in
      and_from (has one.handle one.guid (removed handle guid db)) (are_parties_live db one)
      (has_by one.handle one.guid db (removed handle guid db)
      (λ address owner has. has-removed db handle guid one.handle one.guid address owner (of_other handle guid one parts.1 stays) has) names.interface)
      parts.0)
      (list_all-both (are_parties_live db) is_kept (λ (one : KeyedRecord). are_parties_live db one && is_kept one) table.entries (λ one is kept. and_from (are_parties_live db one) (is_kept one) is kept) opens.parties opens.sound.kept)

  -- what a record names is there, if it does not name the handle once that is not live
  still_live : (one : KeyedRecord) → stays_named (removed handle guid db) db one ≡ true → (nat_eq one.rec.agent handle ≡ true → is_live one.rec.agent (removed handle guid db) ≡ true)
      → (nat_eq one.rec.controller handle ≡ true → is_live one.rec.controller (removed handle guid db) ≡ true) → are_parties_live (removed handle guid db) one ≡ true
  still_live one is agent controller =
      let parts = and_parts (has one.handle one.guid (removed handle guid db)) (are_parties_live db one) is in
      let names = parties_of db one parts.1 in
      parties_from (removed handle guid db) one (record {
        interface = parts.0;
        agent = live_still one.rec.agent handle guid db sound agent names.agent;
        controller =
            none_or (nat_eq one.rec.controller 0) (is_live one.rec.controller db) (is_live one.rec.controller (removed handle guid db))
            (λ live. live_still one.rec.controller handle guid db sound controller live) names.controller;
      })

  -- a number that is that of a live handle is live
  same_live : (number : ℕ) → is_live handle (removed handle guid db) ≡ true → nat_eq number handle ≡ true → is_live number (removed handle guid db) ≡ true
  same_live number live same = let is : number ≡ handle = eqb-true number handle same in ap (λ (n : ℕ). is_live n (removed handle guid db)) is ∙ live

  pub records-removed : AreRecordsKept (removed handle guid db) (records_removed handle guid (removed handle guid db) table)
  records-removed = by_live (is_live handle (removed handle guid db)) refl
    where
      by_live : (live : Bool) → is_live handle (removed handle guid db) ≡ live
          → AreRecordsKept (removed handle guid db) (if live then cut handle guid (is_meant None None ALL_BITS) table else swept handle (cut handle guid (is_meant None None ALL_BITS) table))
      by_live true live = record {
        sound = cut_sound handle guid (is_meant None None ALL_BITS) table opens.sound;
        limit = opens.limit;
        parties =
            list_all-mono (stays_named (removed handle guid db) db) (are_parties_live (removed handle guid db)) (cut handle guid (is_meant None None ALL_BITS) table).entries
            (λ one is. still_live one is (λ same. same_live one.rec.agent live same) (λ same. same_live one.rec.controller live same))
            left_named;
      }
      by_live false dead = record {
        sound = swept_sound handle (cut handle guid (is_meant None None ALL_BITS) table) (cut_sound handle guid (is_meant None None ALL_BITS) table opens.sound);
        limit = opens.limit;
        parties =
            list_all-filter_both (stays_named (removed handle guid db) db) (λ (one : KeyedRecord). not (is_named handle one.rec)) (are_parties_live (removed handle guid db)) (cut handle guid (is_meant None None ALL_BITS) table).entries
            (λ one is stays.
            let apart = or_parts (nat_eq one.rec.agent handle) (nat_eq one.rec.controller handle) (not-true (is_named handle one.rec) stays) in
            still_live one is (λ same. absurd (both_ways (nat_eq one.rec.agent handle) apart.0 same)) (λ same. absurd (both_ways (nat_eq one.rec.controller handle) apart.1 same)))
            left_named;
      }

-- ---- an open that is entered

all_mapped : {X : Type 0} (P : X → Bool) (change : X → X) (xs : List X) → ((x : X) → P (change x) ≡ P x) → list_all P (map change xs) ≡ list_all P xs
all_mapped P change [] same = refl
all_mapped P change (x ∷ xs) same = ap (λ b. b && list_all P (map change xs)) (same x) ∙ ap (λ b. P x && b) (all_mapped P change xs same)

parties_raised : (db : Database) (one : KeyedRecord) (here : Bool) → are_parties_live db (if here then record one { rec = raised one.rec } else one) ≡ are_parties_live db one
parties_raised db one true = refl
parties_raised db one false = refl

parties_new : (db : Database) (new : KeyedRecord) (held : List KeyedRecord) → list_all (are_parties_live db) held ≡ true → are_parties_live db new ≡ true → list_all (are_parties_live db) (with_new new held) ≡ true
parties_new db new held all one =
    let before = filter (is_before new.handle new.guid) held in
    let mine = filter (is_of new.handle new.guid) held in
    let behind = filter (is_after new.handle new.guid) held in
    let all_before : list_all (are_parties_live db) before ≡ true = list_all-filter (are_parties_live db) (is_before new.handle new.guid) held all in
    let all_mine : list_all (are_parties_live db) mine ≡ true = list_all-filter (are_parties_live db) (is_of new.handle new.guid) held all in
    let all_behind : list_all (are_parties_live db) behind ≡ true = list_all-filter (are_parties_live db) (is_after new.handle new.guid) held all in
    let rest : list_all (are_parties_live db) (mine ++ new ∷ behind) ≡ true =
    list_all-append (are_parties_live db) mine (new ∷ behind)
    ∙ and_from (list_all (are_parties_live db) mine) (list_all (are_parties_live db) (new ∷ behind)) all_mine (and_from (are_parties_live db new) (list_all (are_parties_live db) behind) one all_behind) in
    list_all-append (are_parties_live db) before (mine ++ new ∷ behind)
    ∙ and_from (list_all (are_parties_live db) before) (list_all (are_parties_live db) (mine ++ new ∷ behind)) all_before rest

pub parties-added : (handle : ℕ) (guid : List ℕ) (agent controller attr : ℕ) (db : Database) (table : RecordTable) → list_all (are_parties_live db) table.entries ≡ true
    → has handle guid db ≡ true → is_live agent db ≡ true → is_none_or_live controller db ≡ true → list_all (are_parties_live db) (added handle guid agent controller attr table).entries ≡ true
parties-added handle guid agent controller attr db table all there live none = by_equal (list_any (is_equal agent controller attr) (records_of table.entries handle guid))
  where
    by_equal : (equal : Bool) → list_all (are_parties_live db) (if equal then with_raised handle guid (is_equal agent controller attr) table.entries else with_new (record { handle = handle; guid = guid; rec = first agent controller attr }) table.entries) ≡ true
    by_equal true =
        all_mapped (are_parties_live db) (λ (one : KeyedRecord). if is_of handle guid one && is_equal agent controller attr one.rec then record one { rec = raised one.rec } else one) table.entries
        (λ one. parties_raised db one (is_of handle guid one && is_equal agent controller attr one.rec))
        ∙ all
    by_equal false =
        parties_new db (record { handle = handle; guid = guid; rec = first agent controller attr }) table.entries all
        (parties_from db (record { handle = handle; guid = guid; rec = first agent controller attr }) (record { interface = there; agent = live; controller = none }))
