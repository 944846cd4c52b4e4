-- Interfaces that stay when others are installed and removed.
use Rattle.std.proofs.Common.{◌≡◌, inl, inr, ℕ, Bool, true, false, not, ◌&&◌, cond, nat_eq, nat_lt, bytes_eq, List, [], ◌∷◌, ◌++◌, length, map, filter, find, Option, Some, None, refl, sym, ap, ◌∙◌, arith}
use Rattle.std.specs.Prelude.{option_map, if◌then◌else◌}
use Rattle.std.specs.Option.{option_or}
use Rattle.std.proofs.lemmas.Bool.{and_cases, cases_Bool, both_ways}
use Rattle.std.proofs.lemmas.Bool.Decides.{nat_tests}
use Rattle.std.proofs.lemmas.List.Folds.{find-append}
use Rattle.std.proofs.lemmas.Slice.Eq.{bytes_eq-Decides}
use Rattle.handle_db.specs.declared.handle_entry.HandleEntry.{HandleEntry}
use Rattle.handle_db.specs.declared.handle_entry.Interface.{Interface}
use Rattle.handle_db.specs.Database.{Database, has_any, interfaces_in, is_guid, is_handle}
use Rattle.handle_db.specs.Installing.{appended, installed, new_entry}
use Rattle.handle_db.specs.Removing.{removed, without_guid, without_interface}
use Rattle.world_model.specs.Kept.{has_interface, is_address}

-- whether a handle is among entries with an interface of a protocol, of this address and owner
abbrev found_as : ℕ → ℕ → Option Interface → Bool
found_as address owner found = is_address address owner (option_map (λ (i : Interface). (i.interface, i.owner)) found)

abbrev listed_as : List ℕ → ℕ → ℕ → Option HandleEntry → Bool
listed_as guid address owner entry = found_as address owner (find (is_guid guid) (interfaces_in entry))

-- ---- installing

more_interfaces : (guid : List ℕ) (address owner : ℕ) (interfaces : List Interface) (new : Interface) → found_as address owner (find (is_guid guid) interfaces) ≡ true
    → found_as address owner (find (is_guid guid) (interfaces ++ new ∷ [])) ≡ true
more_interfaces guid address owner interfaces new has =
    ap (found_as address owner) (find-append (is_guid guid) interfaces (new ∷ [])) ∙ by_found (find (is_guid guid) interfaces) has
  where
    by_found : (found : Option Interface) → found_as address owner found ≡ true → found_as address owner (option_or found (find (is_guid guid) (new ∷ []))) ≡ true
    by_found None has = absurd cc
    by_found (Some i) has = has

more_entries : (handle : ℕ) (guid : List ℕ) (address owner : ℕ) (entries : List HandleEntry) (new : HandleEntry) → listed_as guid address owner (find (is_handle handle) entries) ≡ true
    → listed_as guid address owner (find (is_handle handle) (entries ++ new ∷ [])) ≡ true
more_entries handle guid address owner entries new has =
    ap (listed_as guid address owner) (find-append (is_handle handle) entries (new ∷ [])) ∙ by_found (find (is_handle handle) entries) has
  where
    by_found : (found : Option HandleEntry) → listed_as guid address owner found ≡ true → listed_as guid address owner (option_or found (find (is_handle handle) (new ∷ []))) ≡ true
    by_found None has = absurd cc
    by_found (Some i) has = has

appended_one : (guid : List ℕ) (address owner : ℕ) (entry : HandleEntry) (new : Interface) (here : Bool) → listed_as guid address owner (Some entry) ≡ true
    → listed_as guid address owner (Some (if here then appended new entry else entry)) ≡ true
appended_one guid address owner entry new true has = more_interfaces guid address owner entry.interfaces new has
appended_one guid address owner entry new false has = has

-- the handle of an entry that is changed or not
handle_if : (b : Bool) (one two : HandleEntry) → one.handle ≡ two.handle → (if b then one else two).handle ≡ two.handle
handle_if true one two same = same
handle_if false one two same = refl

found_appended : (handle changed : ℕ) (guid : List ℕ) (address owner : ℕ) (entries : List HandleEntry) (new : Interface) → listed_as guid address owner (find (is_handle handle) entries) ≡ true
    → listed_as guid address owner (find (is_handle handle) (map (λ (entry : HandleEntry). if is_handle changed entry then appended new entry else entry) entries)) ≡ true
found_appended handle changed guid address owner [] new has = has
found_appended handle changed guid address owner (entry ∷ entries) new has =
    let one : HandleEntry = if is_handle changed entry then appended new entry else entry in
    let same : is_handle handle one ≡ is_handle handle entry = ap (λ number. nat_eq number handle) (handle_if (is_handle changed entry) (appended new entry) entry refl) in
    ap (λ b. listed_as guid address owner (cond b (Some one) (find (is_handle handle) (map (λ (entry : HandleEntry). if is_handle changed entry then appended new entry else entry) entries)))) same
    ∙ by_head (is_handle handle entry) (λ later. found_appended handle changed guid address owner entries new later) has
  where
    by_head : (here : Bool)
        → (listed_as guid address owner (find (is_handle handle) entries) ≡ true
        → listed_as guid address owner (find (is_handle handle) (map (λ (entry : HandleEntry). if is_handle changed entry then appended new entry else entry) entries)) ≡ true)
        → listed_as guid address owner (cond here (Some entry) (find (is_handle handle) entries)) ≡ true
        → listed_as guid address owner (cond here (Some (if is_handle changed entry then appended new entry else entry)) (find (is_handle handle) (map (λ (entry : HandleEntry). if is_handle changed entry then appended new entry else entry) entries))) ≡ true
    by_head true later has = appended_one guid address owner entry new (is_handle changed entry) has
    by_head false later has = later has

pub has-installed : (db : Database) (who : Option ℕ) (new : Interface) (handle : ℕ) (guid : List ℕ) (address owner : ℕ) → has_interface db handle guid address owner ≡ true → has_interface (installed who new db) handle guid address owner ≡ true
has-installed db None new handle guid address owner has = more_entries handle guid address owner db.handles (new_entry db.next new) has
has-installed db (Some changed) new handle guid address owner has = found_appended handle changed guid address owner db.handles new has

-- a new handle has the interface
pub has-new : (db : Database) (new : Interface) → find (is_handle db.next) db.handles ≡ None → has_interface (installed None new db) db.next new.guid new.interface new.owner ≡ true
has-new db new none =
    let here : is_handle db.next (new_entry db.next new) ≡ true = grind (arith, nat_tests) in
    let same : is_guid new.guid new ≡ true = (bytes_eq-Decides new.guid new.guid).1 refl in
    let one : nat_eq new.interface new.interface ≡ true = grind (arith, nat_tests) in
    let two : nat_eq new.owner new.owner ≡ true = grind (arith, nat_tests) in
    let found : find (is_handle db.next) (db.handles ++ new_entry db.next new ∷ []) ≡ Some (new_entry db.next new) =
    find-append (is_handle db.next) db.handles (new_entry db.next new ∷ []) ∙ rw (none, here) refl in
    ap (listed_as new.guid new.interface new.owner) found ∙ rw (same, one, two) refl

-- ---- removing

-- the test of two protocols, read the other way
pub bytes-swap : (one two : List ℕ) (b : Bool) → bytes_eq one two ≡ b → bytes_eq two one ≡ b
bytes-swap one two true same = (bytes_eq-Decides two one).1 (sym ((bytes_eq-Decides one two).0 same))
bytes-swap one two false other = elim (cases_Bool (bytes_eq two one)) [
  | inl same ↦ absurd (both_ways (bytes_eq one two) other ((bytes_eq-Decides one two).1 (sym ((bytes_eq-Decides two one).0 same))))
  | inr apart ↦ apart
]

-- of two protocols an interface is of one
other_guid : (one two : List ℕ) (i : Interface) → bytes_eq one two ≡ false → is_guid one i ≡ true → is_guid two i ≡ false
other_guid one two i differ is = elim (cases_Bool (is_guid two i)) [
  | inl also ↦ absurd (both_ways (bytes_eq one two) differ ((bytes_eq-Decides one two).1 (sym ((bytes_eq-Decides i.guid one).0 is) ∙ (bytes_eq-Decides i.guid two).0 also)))
  | inr other ↦ other
]

find-others : (guid dropped : List ℕ) (interfaces : List Interface) → bytes_eq guid dropped ≡ false → find (is_guid guid) (filter (λ (i : Interface). not (is_guid dropped i)) interfaces) ≡ find (is_guid guid) interfaces
find-others guid dropped [] differ = refl
find-others guid dropped (i ∷ interfaces) differ = by_head (is_guid guid i) (is_guid dropped i) refl refl (find-others guid dropped interfaces differ)
  where
    by_head : (here there : Bool) → is_guid guid i ≡ here → is_guid dropped i ≡ there
        → find (is_guid guid) (filter (λ (i : Interface). not (is_guid dropped i)) interfaces) ≡ find (is_guid guid) interfaces
        → find (is_guid guid) (cond (not there) (i ∷ filter (λ (i : Interface). not (is_guid dropped i)) interfaces) (filter (λ (i : Interface). not (is_guid dropped i)) interfaces)) ≡ cond here (Some i) (find (is_guid guid) interfaces)
    by_head true true h t later = absurd (both_ways (is_guid dropped i) (other_guid guid dropped i differ h) t)
    by_head true false h t later = rw h refl
    by_head false true h t later = later
    by_head false false h t later = rw h later

-- an entry that lists an interface has one
some_listed : (guid : List ℕ) (address owner : ℕ) (entry : HandleEntry) → listed_as guid address owner (Some entry) ≡ true → has_any entry ≡ true
some_listed guid address owner entry has = by_list entry.interfaces has
  where
    by_list : (interfaces : List Interface) → found_as address owner (find (is_guid guid) interfaces) ≡ true → nat_lt 0 (length interfaces) ≡ true
    by_list [] has = absurd cc
    by_list (i ∷ interfaces) has = grind (arith, nat_tests)

kept_entry : (handle changed : ℕ) (guid dropped : List ℕ) (address owner : ℕ) (entry : HandleEntry) (here : Bool) → is_handle changed entry ≡ here → is_handle handle entry ≡ true → (bytes_eq guid dropped && nat_eq handle changed) ≡ false
    → listed_as guid address owner (Some entry) ≡ true → listed_as guid address owner (Some (if here then without_guid dropped entry else entry)) ≡ true
kept_entry handle changed guid dropped address owner entry true at is other has =
    let same : nat_eq handle changed ≡ true = grind (arith, nat_tests, at, is) in
    let differ : bytes_eq guid dropped ≡ false = elim (and_cases (bytes_eq guid dropped) (nat_eq handle changed) other) [ inl differ ↦ differ | inr apart ↦ absurd (both_ways (nat_eq handle changed) apart same) ] in
    ap (found_as address owner) (find-others guid dropped entry.interfaces differ) ∙ has
kept_entry handle changed guid dropped address owner entry false at is other has = has

found_removed : (handle changed : ℕ) (guid dropped : List ℕ) (address owner : ℕ) (entries : List HandleEntry) → (bytes_eq guid dropped && nat_eq handle changed) ≡ false
    → listed_as guid address owner (find (is_handle handle) entries) ≡ true → listed_as guid address owner (find (is_handle handle) (without_interface changed dropped entries)) ≡ true
found_removed handle changed guid dropped address owner [] other has = has
found_removed handle changed guid dropped address owner (entry ∷ entries) other has =
    by_head (is_handle handle entry) refl (λ later. found_removed handle changed guid dropped address owner entries other later) has
  where
    one : HandleEntry
    one = if is_handle changed entry then without_guid dropped entry else entry

    same : is_handle handle one ≡ is_handle handle entry
    same = ap (λ number. nat_eq number handle) (handle_if (is_handle changed entry) (without_guid dropped entry) entry refl)

    by_head : (here : Bool) → is_handle handle entry ≡ here
        → (listed_as guid address owner (find (is_handle handle) entries) ≡ true → listed_as guid address owner (find (is_handle handle) (without_interface changed dropped entries)) ≡ true)
        → listed_as guid address owner (cond here (Some entry) (find (is_handle handle) entries)) ≡ true
        → listed_as guid address owner (find (is_handle handle) (without_interface changed dropped (entry ∷ entries))) ≡ true
    by_head true is later has =
        let kept : listed_as guid address owner (Some one) ≡ true = kept_entry handle changed guid dropped address owner entry (is_handle changed entry) refl is other has in
        let any : has_any one ≡ true = some_listed guid address owner one kept in
        rw (any, same ∙ is) kept
    by_head false is later has =
        elim (has_any one) as (λ b. listed_as guid address owner (find (is_handle handle) (cond b (one ∷ without_interface changed dropped entries) (without_interface changed dropped entries))) ≡ true) [
          | true ↦ rw (same ∙ is) (later has)
          | false ↦ later has
        ]

pub has-removed : (db : Database) (changed : ℕ) (dropped : List ℕ) (handle : ℕ) (guid : List ℕ) (address owner : ℕ) → (bytes_eq guid dropped && nat_eq handle changed) ≡ false
    → has_interface db handle guid address owner ≡ true → has_interface (removed changed dropped db) handle guid address owner ≡ true
has-removed db changed dropped handle guid address owner other has = found_removed handle changed guid dropped address owner db.handles other has
