-- The index by protocol: its order, and what a look-up in it gives.
use Rattle.std.proofs.Common.{◌≡◌, ◌<◌, ℕ, Bool, true, false, not, cond, ◌&&◌, nat_eq, nat_le, nat_lt, List, filter, bytes_eq, refl, ap, sym, ◌∙◌, arith}
use Rattle.std.specs.BTreeSet.{BTreeSet, Updates, contains}
use Rattle.std.specs.BTreeMap.Range.{range_contains}
use Rattle.std.specs.declared.ops.Bound.TheVariants.{Included, Excluded}
use Rattle.std.specs.Cmp.Lexicographic.{slice_cmp}
use Rattle.std.specs.List.{list_any}
use Rattle.std.specs.Ordering.{is_eq, is_gt, is_le, nat_cmp, ordering_then}
use Rattle.std.specs.declared.cmp.Ordering.{Ordering}
use Rattle.std.specs.declared.cmp.Ordering.TheVariants.{Less, Equal, Greater}
use Rattle.std.proofs.lemmas.Bool.{eqb-true}
use Rattle.std.proofs.lemmas.Bool.Decides.{nat_tests}
use Rattle.std.proofs.lemmas.Map.Text.{is_eq-slice_cmp}
use Rattle.std.proofs.lemmas.Map.Views.{any-filter_same}
use Rattle.std.proofs.lemmas.Slice.Eq.{bytes_eq-Decides}
use Rattle.handle_db.specs.Database.{has_in}
use Rattle.handle_db.specs.ProtocolIndex.{Naming, naming_cmp}
use Rattle.handle_db.specs.declared.handle_entry.HandleEntry.{HandleEntry}
use Rattle.handle_db.proofs.HasAfter.{is_it}

-- ---- the order

-- an order by which two values are equal if a test says so
equal_by : (o : Ordering) → is_eq o ≡ true → o ≡ Equal
equal_by Less is = absurd cc
equal_by Equal is = refl
equal_by Greater is = absurd cc

pub same_guid : (guid : List ℕ) → slice_cmp nat_cmp guid guid ≡ Equal
same_guid guid = equal_by (slice_cmp nat_cmp guid guid) (is_eq-slice_cmp guid guid ∙ (bytes_eq-Decides guid guid).1 refl)

-- the namings of one protocol are ordered by their handles
pub by_handle : (guid : List ℕ) (a b : ℕ) → naming_cmp (guid, a) (guid, b) ≡ nat_cmp a b
by_handle guid a b = rw (same_guid guid) refl

-- handle 1 is not past the end of a part
pub forward : (guid : List ℕ) (a b : ℕ) → a ≡ 1 → 0 < b → is_gt (naming_cmp (guid, a) (guid, b)) ≡ false
forward guid a b first some = ap is_gt (by_handle guid a b) ∙ grind (arith, nat_tests, first, some)

-- the tests of an order and of equality agree
equal_then : (x y : Ordering) → is_eq (ordering_then x y) ≡ (is_eq x && is_eq y)
equal_then Less y = refl
equal_then Equal y = refl
equal_then Greater y = refl

is_eq-nat_cmp : (a b : ℕ) → is_eq (nat_cmp a b) ≡ nat_eq a b
is_eq-nat_cmp a b = grind (arith, nat_tests)

-- a naming is found if both its parts are equal
pub is_naming : (guid other : List ℕ) (handle number : ℕ) → is_eq (naming_cmp (guid, handle) (other, number)) ≡ (bytes_eq guid other && nat_eq handle number)
is_naming guid other handle number =
    equal_then (slice_cmp nat_cmp guid other) (nat_cmp handle number)
    ∙ ap (λ b. b && is_eq (nat_cmp handle number)) (is_eq-slice_cmp guid other) ∙ ap (λ b. bytes_eq guid other && b) (is_eq-nat_cmp handle number)

and_both : (x y : Bool) → (x && y) ≡ true → (x ≡ true) × (y ≡ true)
and_both true y is = (refl, is)
and_both false y is = absurd cc

pub same_naming : (guid other : List ℕ) (handle number : ℕ) → is_eq (naming_cmp (guid, handle) (other, number)) ≡ true → (guid ≡ other) × (handle ≡ number)
same_naming guid other handle number is =
    let parts = and_both (bytes_eq guid other) (nat_eq handle number) (sym (is_naming guid other handle number) ∙ is) in
    ((bytes_eq-Decides guid other).0 parts.0, eqb-true handle number parts.1)

-- ---- those that are kept

pub kept_contains : (entries : List HandleEntry) (before after : BTreeSet Naming) → after.keys ≡ filter (λ (one : Naming). has_in one.1 one.0 entries) before.keys
    → (guid : List ℕ) (handle : ℕ) → contains naming_cmp after (guid, handle) ≡ (has_in handle guid entries && contains naming_cmp before (guid, handle))
kept_contains entries before after kept guid handle =
    ap (list_any (λ (one : Naming). is_eq (naming_cmp (guid, handle) one))) kept
    ∙ any-filter_same (λ (one : Naming). is_eq (naming_cmp (guid, handle) one)) (λ (one : Naming). has_in one.1 one.0 entries) (has_in handle guid entries)
    (λ one is. let same = same_naming guid one.0 handle one.1 is in rw (same.0, same.1) refl) before.keys

-- ---- a naming put in or taken out

-- what is named is what a handle has
abbrev pub Names : BTreeSet Naming → List HandleEntry → Type 0
Names index entries = (guid : List ℕ) (handle : ℕ) → contains naming_cmp index (guid, handle) ≡ has_in handle guid entries

module _ (handle : ℕ) (guid : List ℕ) (value : Bool) (before after : BTreeSet Naming) (updates : Updates naming_cmp before after (guid, handle) value) where
  pub names_after : (old new : List HandleEntry) → Names before old → ((other : List ℕ) (number : ℕ) → has_in number other new ≡ cond (is_it handle guid number other) value (has_in number other old)) → Names after new
  names_after old new names change other number =
      updates.0 (other, number)
      ∙ ap (λ b. cond b value (contains naming_cmp before (other, number))) (is_naming guid other handle number)
      ∙ ap (cond (is_it handle guid number other) value) (names other number)
      ∙ sym (change other number)

-- a naming that was not there, put in and taken out again
pub names_again : (handle : ℕ) (guid : List ℕ) (before with_it after : BTreeSet Naming) (entries : List HandleEntry) → Updates naming_cmp before with_it (guid, handle) true → Updates naming_cmp with_it after (guid, handle) false
    → has_in handle guid entries ≡ false → Names before entries → Names after entries
names_again handle guid before with_it after entries put taken lacks names other number =
    taken.0 (other, number) ∙ ap (λ b. cond (is_eq (naming_cmp (guid, handle) (other, number))) false b) (put.0 (other, number)) ∙ by_naming (is_eq (naming_cmp (guid, handle) (other, number))) refl
  where
    by_naming : (b : Bool) → is_eq (naming_cmp (guid, handle) (other, number)) ≡ b
        → cond (is_eq (naming_cmp (guid, handle) (other, number))) false (cond (is_eq (naming_cmp (guid, handle) (other, number))) true (contains naming_cmp before (other, number))) ≡ has_in number other entries
    by_naming true e =
        let same = same_naming guid other handle number e in
        let lacking : has_in number other entries ≡ false = rw (← same.0, ← same.1) lacks in
        rw e (sym lacking)
    by_naming false e = rw e (names other number)

-- ---- what a look-up gives: the tests

-- whether a naming is of a protocol and of a handle below a number
pub in_part : (guid other : List ℕ) (next number : ℕ) → range_contains naming_cmp (Included (guid, 1)) (Excluded (guid, next)) (other, number) ≡ (bytes_eq guid other && (nat_le 1 number && nat_lt number next))
in_part guid other next number = by_order (slice_cmp nat_cmp guid other) ∙ ap (λ b. b && (nat_le 1 number && nat_lt number next)) (is_eq-slice_cmp guid other)
  where
    by_order : (o : Ordering) → (is_le (ordering_then o (nat_cmp 1 number)) && not (is_le (ordering_then o (nat_cmp next number)))) ≡ (is_eq o && (nat_le 1 number && nat_lt number next))
    by_order Less = refl
    by_order Equal = grind (arith, nat_tests)
    by_order Greater = refl
