-- The children of a handle are live handles, each once; so there are no more than live handles.
use Rattle.std.proofs.Common.{◌≡◌, ◌≤◌, ℕ, suc, Bool, true, false, ◌&&◌, ◌||◌, not, cond, nat_eq, List, [], ◌∷◌, length, filter, map, refl, ap, ◌∙◌, arith}
use Rattle.std.specs.Prelude.{Option}
use Rattle.std.specs.List.{list_all, list_any}
use Rattle.std.proofs.lemmas.Bool.{and_from, and_parts, not-true, or_from, or_parts}
use Rattle.std.proofs.lemmas.Bool.Decides.{nat_tests}
use Rattle.std.proofs.lemmas.List.Folds.{list_all-append, list_all-map}
use Rattle.handle_db.specs.Database.{Database, is_handle, is_live, protocols_of}
use Rattle.handle_db.specs.declared.handle_entry.HandleEntry.{HandleEntry}
use Rattle.open_records.specs.OpenRecords.{is_of, records_of}
use Rattle.open_records.specs.Leaving.{fits}
use Rattle.open_records.specs.Managing.{child_numbers, children, is_child, once_each, records_on}
use Rattle.open_records.specs.declared.open_record.KeyedRecord.{KeyedRecord}
use Rattle.open_records.specs.declared.open_record.Rec.{Rec}
use Rattle.world_model.specs.Children.{ChildrenAreFew}
use Rattle.world_model.specs.Kept.{are_parties_live}
use Rattle.world_model.specs.Records.{is_none_or_live}
use Rattle.world_model.proofs.RecordParties.{parties_of}
use Rattle.world_model.proofs.Segments.{list_all-filter, list_all-mono}

-- ---- lists without repetition

-- the numbers of a list except for one
abbrev except : ℕ → List ℕ → List ℕ
except n numbers = filter (λ other. not (nat_eq n other)) numbers

abbrev is_distinct : List ℕ → Bool
is_distinct [] = true
is_distinct (n ∷ numbers) = not (list_any (nat_eq n) numbers) && is_distinct numbers

-- a number that is not in a list is not in a part of it
absent-filter : (n : ℕ) (p : ℕ → Bool) (numbers : List ℕ) → list_any (nat_eq n) numbers ≡ false → list_any (nat_eq n) (filter p numbers) ≡ false
absent-filter n p [] absent = refl
absent-filter n p (m ∷ numbers) absent =
    let parts = or_parts (nat_eq n m) (list_any (nat_eq n) numbers) absent in
    let rest = absent-filter n p numbers parts.1 in
    elim (p m) as (λ b. list_any (nat_eq n) (cond b (m ∷ filter p numbers) (filter p numbers)) ≡ false) [
      | true ↦ or_from (nat_eq n m) (list_any (nat_eq n) (filter p numbers)) parts.0 rest
      | false ↦ rest
    ]

distinct-filter : (p : ℕ → Bool) (numbers : List ℕ) → is_distinct numbers ≡ true → is_distinct (filter p numbers) ≡ true
distinct-filter p [] distinct = refl
distinct-filter p (n ∷ numbers) distinct =
    let parts = and_parts (not (list_any (nat_eq n) numbers)) (is_distinct numbers) distinct in
    let rest = distinct-filter p numbers parts.1 in
    let absent = absent-filter n p numbers (not-true (list_any (nat_eq n) numbers) parts.0) in
    elim (p n) as (λ b. is_distinct (cond b (n ∷ filter p numbers) (filter p numbers)) ≡ true) [
      | true ↦ and_from (not (list_any (nat_eq n) (filter p numbers))) (is_distinct (filter p numbers)) (ap not absent) rest
      | false ↦ rest
    ]

absent-except : (n : ℕ) (numbers : List ℕ) → list_any (nat_eq n) (except n numbers) ≡ false
absent-except n [] = refl
absent-except n (m ∷ numbers) = by_head (nat_eq n m) refl (absent-except n numbers)
  where
    by_head : (same : Bool) → nat_eq n m ≡ same → list_any (nat_eq n) (except n numbers) ≡ false → list_any (nat_eq n) (cond (not same) (m ∷ except n numbers) (except n numbers)) ≡ false
    by_head true is rest = rest
    by_head false is rest = or_from (nat_eq n m) (list_any (nat_eq n) (except n numbers)) is rest

distinct-once_each : (numbers : List ℕ) → is_distinct (once_each numbers) ≡ true
distinct-once_each [] = refl
distinct-once_each (n ∷ numbers) =
    and_from (not (list_any (nat_eq n) (except n (once_each numbers)))) (is_distinct (except n (once_each numbers)))
    (ap not (absent-except n (once_each numbers))) (distinct-filter (λ other. not (nat_eq n other)) (once_each numbers) (distinct-once_each numbers))

all-once_each : (p : ℕ → Bool) (numbers : List ℕ) → list_all p numbers ≡ true → list_all p (once_each numbers) ≡ true
all-once_each p [] all = refl
all-once_each p (n ∷ numbers) all =
    let parts = and_parts (p n) (list_all p numbers) all in
    and_from (p n) (list_all p (except n (once_each numbers))) parts.0 (list_all-filter p (λ other. not (nat_eq n other)) (once_each numbers) (all-once_each p numbers parts.1))

-- ---- as many as there are handles

length-except_absent : (n : ℕ) (numbers : List ℕ) → list_any (nat_eq n) numbers ≡ false → length (except n numbers) ≡ length numbers
length-except_absent n [] absent = refl
length-except_absent n (m ∷ numbers) absent =
    let parts = or_parts (nat_eq n m) (list_any (nat_eq n) numbers) absent in
    rw parts.0 (ap suc (length-except_absent n numbers parts.1))

length-except : (n : ℕ) (numbers : List ℕ) → is_distinct numbers ≡ true → length numbers ≤ suc (length (except n numbers))
length-except n [] distinct = omega arith
length-except n (m ∷ numbers) distinct =
    let parts = and_parts (not (list_any (nat_eq m) numbers)) (is_distinct numbers) distinct in
    by_head (nat_eq n m) refl (not-true (list_any (nat_eq m) numbers) parts.0) (length-except n numbers parts.1)
  where
    by_head : (same : Bool) → nat_eq n m ≡ same → list_any (nat_eq m) numbers ≡ false → length numbers ≤ suc (length (except n numbers))
        → suc (length numbers) ≤ suc (length (cond (not same) (m ∷ except n numbers) (except n numbers)))
    by_head true is absent rest =
        let equal : m ≡ n = grind (arith, nat_tests, is) in
        let whole : length (except n numbers) ≡ length numbers = length-except_absent n numbers (rw (← equal) absent) in
        omega (arith, whole)
    by_head false is absent rest = omega (arith, rest)

-- whether a number is that of one of the handles
abbrev is_number_of : List HandleEntry → ℕ → Bool
is_number_of entries number = list_any (is_handle number) entries

numbers-except : (entry : HandleEntry) (entries : List HandleEntry) (numbers : List ℕ) → list_all (is_number_of (entry ∷ entries)) numbers ≡ true
    → list_all (is_number_of entries) (except entry.handle numbers) ≡ true
numbers-except entry entries [] all = refl
numbers-except entry entries (number ∷ numbers) all =
    let parts = and_parts (is_number_of (entry ∷ entries) number) (list_all (is_number_of (entry ∷ entries)) numbers) all in
    by_head (nat_eq entry.handle number) parts.0 (numbers-except entry entries numbers parts.1)
  where
    by_head : (same : Bool) → (same || is_number_of entries number) ≡ true → list_all (is_number_of entries) (except entry.handle numbers) ≡ true
        → list_all (is_number_of entries) (cond (not same) (number ∷ except entry.handle numbers) (except entry.handle numbers)) ≡ true
    by_head true among rest = rest
    by_head false among rest = and_from (is_number_of entries number) (list_all (is_number_of entries) (except entry.handle numbers)) among rest

as_many_handles : (entries : List HandleEntry) (numbers : List ℕ) → is_distinct numbers ≡ true → list_all (is_number_of entries) numbers ≡ true → length numbers ≤ length entries
as_many_handles [] [] distinct all = omega arith
as_many_handles [] (number ∷ numbers) distinct all = absurd cc
as_many_handles (entry ∷ entries) numbers distinct all =
    let one = length-except entry.handle numbers distinct in
    let rest =
    as_many_handles entries (except entry.handle numbers) (distinct-filter (λ number. not (nat_eq entry.handle number)) numbers distinct) (numbers-except entry entries numbers all) in
    omega (arith, one, rest)

-- ---- children are live

module _ (db : Database) where
  abbrev has_live_controller : Rec → Bool
  has_live_controller rec = is_none_or_live rec.controller db

  of_interface : (keyed : List KeyedRecord) → list_all (are_parties_live db) keyed ≡ true → (handle : ℕ) (guid : List ℕ) → list_all has_live_controller (records_of keyed handle guid) ≡ true
  of_interface keyed all handle guid =
      list_all-map has_live_controller (λ (one : KeyedRecord). one.rec) (filter (is_of handle guid) keyed)
      ∙ list_all-filter (λ (one : KeyedRecord). has_live_controller one.rec) (is_of handle guid) keyed
      (list_all-mono (are_parties_live db) (λ (one : KeyedRecord). has_live_controller one.rec) keyed (λ one live. (parties_of db one live).controller) all)

  of_handle : (keyed : List KeyedRecord) → list_all (are_parties_live db) keyed ≡ true → (handle : ℕ) (protocols : List (List ℕ × ℕ × ℕ)) → list_all has_live_controller (records_on keyed handle protocols) ≡ true
  of_handle keyed all handle [] = refl
  of_handle keyed all handle (protocol ∷ protocols) =
      list_all-append has_live_controller (records_of keyed handle protocol.0) (records_on keyed handle protocols)
      ∙ and_from (list_all has_live_controller (records_of keyed handle protocol.0)) (list_all has_live_controller (records_on keyed handle protocols))
      (of_interface keyed all handle protocol.0) (of_handle keyed all handle protocols)

  child_is_live : (agent : Option ℕ) (rec : Rec) → is_child agent rec ≡ true → has_live_controller rec ≡ true → is_live rec.controller db ≡ true
  child_is_live agent rec child live =
      let some = and_parts (nat_eq rec.attr 0x08 && fits agent rec.agent) (not (nat_eq rec.controller 0)) child in
      by_zero (nat_eq rec.controller 0) some.1 live
    where
      by_zero : (zero : Bool) → not zero ≡ true → (zero || is_live rec.controller db) ≡ true → is_live rec.controller db ≡ true
      by_zero true some live = absurd cc
      by_zero false some live = live

  children_are_live : (agent : Option ℕ) (records : List Rec) → list_all has_live_controller records ≡ true → list_all (λ number. is_live number db) (child_numbers agent records) ≡ true
  children_are_live agent [] all = refl
  children_are_live agent (rec ∷ records) all =
      let parts = and_parts (has_live_controller rec) (list_all has_live_controller records) all in
      by_head (is_child agent rec) refl parts.0 (children_are_live agent records parts.1)
    where
      by_head : (here : Bool) → is_child agent rec ≡ here → has_live_controller rec ≡ true → list_all (λ number. is_live number db) (child_numbers agent records) ≡ true
          → list_all (λ number. is_live number db) (map (λ (rec : Rec). rec.controller) (cond here (rec ∷ filter (is_child agent) records) (filter (is_child agent) records))) ≡ true
      by_head true is live rest = and_from (is_live rec.controller db) (list_all (λ number. is_live number db) (child_numbers agent records)) (child_is_live agent rec is live) rest
      by_head false is live rest = rest

pub children_are_few : ChildrenAreFew
children_are_few soft handle agent kept =
    let records : List Rec = records_on soft.records.entries handle (protocols_of handle soft.database) in
    let numbers : List ℕ = children soft.records.entries soft.database handle agent in
    let live : list_all (λ number. is_live number soft.database) numbers ≡ true =
    all-once_each (λ number. is_live number soft.database) (child_numbers agent records)
    (children_are_live soft.database agent records (of_handle soft.database soft.records.entries kept.records.parties handle (protocols_of handle soft.database))) in
    let some : length numbers ≤ length soft.database.handles = as_many_handles soft.database.handles numbers (distinct-once_each (child_numbers agent records)) live in
    omega (arith, some, kept.database.sound.few, kept.database.limit)
