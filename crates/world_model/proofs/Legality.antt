-- The open records are legal, and each is with its interface.
use Rattle.std.proofs.Common.{◌≡◌, inl, inr, ℕ, Bool, true, false, ◌&&◌, ◌||◌, cond, nat_eq, bytes_eq, List, [], ◌∷◌, map, filter, find, Some, get_or, refl, sym, ap, ◌∙◌, arith}
use Rattle.std.specs.List.{All, list_all, list_any}
use Rattle.std.proofs.lemmas.Bool.{and_from, both_ways, cases_Bool, eqb-true, or_cases, or_from, or_left, or_right}
use Rattle.std.proofs.lemmas.Bool.Decides.{nat_tests}
use Rattle.std.proofs.lemmas.List.Elements.{All-map}
use Rattle.std.proofs.lemmas.List.Folds.{list_all-map}
use Rattle.std.proofs.lemmas.Slice.Eq.{bytes_eq-Decides}
use Rattle.handle_db.specs.declared.handle_entry.HandleEntry.{HandleEntry}
use Rattle.handle_db.specs.declared.handle_entry.Interface.{Interface}
use Rattle.handle_db.specs.Database.{Database, interfaces_in, is_guid, is_handle, is_live}
use Rattle.open_records.specs.declared.open_record.KeyedRecord.{KeyedRecord}
use Rattle.open_records.specs.declared.open_record.Rec.{Rec}
use Rattle.open_records.specs.OpenRecords.{is_equal, is_of, records_of}
use Rattle.open_records.specs.Leaving.{is_named}
use Rattle.open_records.proofs.ListLemmas.{any_map}
use Rattle.open_records.proofs.LawProofs.{no_equal_records, one_holder}
use Rattle.open_records.proofs.Order.{of_itself}
use Rattle.world_model.specs.World.{Soft}
use Rattle.world_model.specs.Records.{is_none_or_live}
use Rattle.world_model.specs.Kept.{IsKept, are_parties_live}
use Rattle.world_model.specs.Legal.{DeadIsNotNamed, EveryoneIsLegal, IsLegalAt, HandleNode, NoneIsLost, InterfaceNode, handle_view, has_record, interface_view, is_among, names_live, nested}
use Rattle.world_model.proofs.RecordParties.{parties_of}
use Rattle.world_model.proofs.Segments.{list_all-both, list_all-filter, list_all-mono, list_any-none}

-- ---- legal

among_live : (soft : Soft) (number : ℕ) → is_among (nested soft) number ≡ is_live number soft.database
among_live soft number = any_map (handle_view soft.records.entries) (λ (one : HandleNode). nat_eq one.handle number) soft.database.handles

names_alive : (soft : Soft) (rec : Rec) → is_live rec.agent soft.database ≡ true → is_none_or_live rec.controller soft.database ≡ true → names_live (nested soft) rec ≡ true
names_alive soft rec agent controller =
    and_from (is_among (nested soft) rec.agent) (nat_eq rec.controller 0 || is_among (nested soft) rec.controller) (among_live soft rec.agent ∙ agent)
    (ap (λ b. nat_eq rec.controller 0 || b) (among_live soft rec.controller) ∙ controller)

all_alive : (soft : Soft) (handle : ℕ) (guid : List ℕ) → IsKept soft → list_all (names_live (nested soft)) (records_of soft.records.entries handle guid) ≡ true
all_alive soft handle guid kept =
    list_all-map (names_live (nested soft)) (λ (one : KeyedRecord). one.rec) (filter (is_of handle guid) soft.records.entries)
    ∙ list_all-filter (λ (one : KeyedRecord). names_live (nested soft) one.rec) (is_of handle guid) soft.records.entries
    (list_all-mono (are_parties_live soft.database) (λ (one : KeyedRecord). names_live (nested soft) one.rec) soft.records.entries
    (λ one is. let names = parties_of soft.database one is in names_alive soft one.rec names.agent names.controller) kept.records.parties)

legal_at : (soft : Soft) → IsKept soft → (handle : ℕ) (listed : Interface) → IsLegalAt (nested soft) (interface_view soft.records.entries handle listed)
legal_at soft kept handle listed = record {
  holder = one_holder soft.records kept.records.sound handle listed.guid;
  apart = no_equal_records soft.records kept.records.sound handle listed.guid;
  live = all_alive soft handle listed.guid kept;
}

each : {X : Type 0} (P : X → Type 0) (xs : List X) → ((x : X) → P x) → All P xs
each P xs holds k d within = holds (get_or xs k d)

pub everyone : EveryoneIsLegal
everyone soft kept =
    All-map (λ (one : HandleNode). All (IsLegalAt (nested soft)) one.interfaces) (handle_view soft.records.entries) soft.database.handles
    (each (λ (entry : HandleEntry). All (IsLegalAt (nested soft)) (handle_view soft.records.entries entry).interfaces) soft.database.handles
    (λ entry. All-map (IsLegalAt (nested soft)) (interface_view soft.records.entries entry.handle) entry.interfaces
    (each (λ (listed : Interface). IsLegalAt (nested soft) (interface_view soft.records.entries entry.handle listed)) entry.interfaces (λ listed. legal_at soft kept entry.handle listed))))

-- ---- none is lost

any_of_filter : (test : Rec → Bool) (p : KeyedRecord → Bool) (held : List KeyedRecord) → list_any test (map (λ (one : KeyedRecord). one.rec) (filter p held)) ≡ list_any (λ (one : KeyedRecord). p one && test one.rec) held
any_of_filter test p [] = refl
any_of_filter test p (one ∷ held) =
    elim (p one) as (λ b. list_any test (map (λ (other : KeyedRecord). other.rec) (cond b (one ∷ filter p held) (filter p held))) ≡ ((b && test one.rec) || list_any (λ (other : KeyedRecord). p other && test other.rec) held)) [
      | true ↦ ap (λ b. test one.rec || b) (any_of_filter test p held)
      | false ↦ any_of_filter test p held
    ]

any_more : {X : Type 0} (p q : X → Bool) (xs : List X) → ((x : X) → p x ≡ true → q x ≡ true) → list_any p xs ≡ true → list_any q xs ≡ true
any_more p q [] more some = absurd cc
any_more p q (x ∷ xs) more some = elim (or_cases (p x) (list_any p xs) some) [
  | inl here ↦ or_left (q x) (list_any q xs) (more x here)
  | inr later ↦ or_right (q x) (list_any q xs) (any_more p q xs more later)
]

-- if each element of a list has a relation to itself, each has it to an element of the list
all_among : {X : Type 0} (p : X → X → Bool) (all xs : List X) → ((x : X) → p x x ≡ true) → ((x : X) → list_any (p x) xs ≡ true → list_any (p x) all ≡ true) → list_all (λ x. list_any (p x) all) xs ≡ true
all_among p all [] itself more = refl
all_among p all (x ∷ xs) itself more =
    and_from (list_any (p x) all) (list_all (λ y. list_any (p y) all) xs) (more x (or_left (p x x) (list_any (p x) xs) (itself x)))
    (all_among p all xs itself (λ y later. more y (or_right (p y x) (list_any (p y) xs) later)))

-- whether a record is of the same interface and equal
abbrev is_same_open : KeyedRecord → KeyedRecord → Bool
is_same_open one other = is_of one.handle one.guid other && is_equal one.rec.agent one.rec.controller one.rec.attr other.rec

same_open : (one : KeyedRecord) → is_same_open one one ≡ true
same_open one =
    let agent : nat_eq one.rec.agent one.rec.agent ≡ true = grind (arith, nat_tests) in
    let controller : nat_eq one.rec.controller one.rec.controller ≡ true = grind (arith, nat_tests) in
    let attr : nat_eq one.rec.attr one.rec.attr ≡ true = grind (arith, nat_tests) in
    and_from (is_of one.handle one.guid one) (is_equal one.rec.agent one.rec.controller one.rec.attr one.rec) (of_itself one) (rw (agent, controller, attr) refl)

in_interfaces : (held : List KeyedRecord) (one : KeyedRecord) (handle : ℕ) (interfaces : List Interface) → handle ≡ one.handle
    → list_any (is_equal one.rec.agent one.rec.controller one.rec.attr) (records_of held one.handle one.guid) ≡ true → list_any (is_guid one.guid) interfaces ≡ true
    → list_any (λ (listed : InterfaceNode). bytes_eq listed.guid one.guid && list_any (is_equal one.rec.agent one.rec.controller one.rec.attr) listed.records) (map (interface_view held handle) interfaces) ≡ true
in_interfaces held one handle interfaces same member there =
    let test = is_equal one.rec.agent one.rec.controller one.rec.attr in
    any_map (interface_view held handle) (λ (listed : InterfaceNode). bytes_eq listed.guid one.guid && list_any test listed.records) interfaces
    ∙ any_more (is_guid one.guid) (λ (listed : Interface). bytes_eq listed.guid one.guid && list_any test (records_of held handle listed.guid)) interfaces
    (λ listed is.
    let guid : listed.guid ≡ one.guid = (bytes_eq-Decides listed.guid one.guid).0 is in
    and_from (bytes_eq listed.guid one.guid) (list_any test (records_of held handle listed.guid)) is
    (ap (λ (g : List ℕ). list_any test (records_of held handle g)) guid ∙ ap (λ (h : ℕ). list_any test (records_of held h one.guid)) same ∙ member))
    there

in_nodes : (held : List KeyedRecord) (one : KeyedRecord) (entries : List HandleEntry)
    → list_any (is_equal one.rec.agent one.rec.controller one.rec.attr) (records_of held one.handle one.guid) ≡ true
    → list_any (is_guid one.guid) (interfaces_in (find (is_handle one.handle) entries)) ≡ true → has_record (map (handle_view held) entries) one ≡ true
in_nodes held one [] member there = absurd cc
in_nodes held one (entry ∷ entries) member there = by_head (is_handle one.handle entry) refl (λ later. in_nodes held one entries member later) there
  where
    by_head : (here : Bool) → is_handle one.handle entry ≡ here
        → (list_any (is_guid one.guid) (interfaces_in (find (is_handle one.handle) entries)) ≡ true → has_record (map (handle_view held) entries) one ≡ true)
        → list_any (is_guid one.guid) (interfaces_in (cond here (Some entry) (find (is_handle one.handle) entries))) ≡ true
        → ((here && list_any (λ (listed : InterfaceNode). bytes_eq listed.guid one.guid && list_any (is_equal one.rec.agent one.rec.controller one.rec.attr) listed.records) (map (interface_view held entry.handle) entry.interfaces))
        || has_record (map (handle_view held) entries) one) ≡ true
    by_head true is later there =
        or_left (list_any (λ (listed : InterfaceNode). bytes_eq listed.guid one.guid && list_any (is_equal one.rec.agent one.rec.controller one.rec.attr) listed.records) (map (interface_view held entry.handle) entry.interfaces))
        (has_record (map (handle_view held) entries) one) (in_interfaces held one entry.handle entry.interfaces (eqb-true entry.handle one.handle is) member there)
    by_head false is later there = later there

pub none_lost : NoneIsLost
none_lost soft kept =
    let held = soft.records.entries in
    list_all-both (are_parties_live soft.database) (λ (one : KeyedRecord). list_any (is_same_open one) held) (has_record (nested soft)) held
    (λ one is member.
    in_nodes held one soft.database.handles
    (any_of_filter (is_equal one.rec.agent one.rec.controller one.rec.attr) (is_of one.handle one.guid) held ∙ member)
    (parties_of soft.database one is).interface)
    kept.records.parties (all_among is_same_open held held same_open (λ x some. some))

-- ---- handles that are not live

other_live : (number handle : ℕ) (db : Database) → is_live number db ≡ true → is_live handle db ≡ false → nat_eq number handle ≡ false
other_live number handle db live dead = elim (cases_Bool (nat_eq number handle)) [
  | inl same ↦ absurd (both_ways (is_live handle db) dead (ap (λ (n : ℕ). is_live n db) (sym (eqb-true number handle same)) ∙ live))
  | inr other ↦ other
]

other_none : (number handle : ℕ) (db : Database) → nat_eq handle 0 ≡ false → is_none_or_live number db ≡ true → is_live handle db ≡ false → nat_eq number handle ≡ false
other_none number handle db some none dead = elim (or_cases (nat_eq number 0) (is_live number db) none) [
  | inl zero ↦ grind (arith, nat_tests, zero, some)
  | inr live ↦ other_live number handle db live dead
]

pub dead_unnamed : DeadIsNotNamed
dead_unnamed soft handle kept some dead =
    list_any-none (are_parties_live soft.database) (λ (one : KeyedRecord). is_named handle one.rec) soft.records.entries
    (λ one is.
    let names = parties_of soft.database one is in
    or_from (nat_eq one.rec.agent handle) (nat_eq one.rec.controller handle) (other_live one.rec.agent handle soft.database names.agent dead)
    (other_none one.rec.controller handle soft.database some names.controller dead))
    kept.records.parties
