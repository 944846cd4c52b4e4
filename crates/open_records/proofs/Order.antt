-- The order of two interfaces.
use Rattle.std.proofs.Common.{◌≡◌, ℕ, zero, suc, Bool, true, false, not, ◌&&◌, nat_eq, List, [], ◌∷◌, get_or, refl, sym, ap, ◌∙◌, bytes_eq, arith}
use Rattle.std.specs.List.{list_any}
use Rattle.std.specs.Cmp.{IsTotalOrder}
use Rattle.std.specs.Cmp.Lexicographic.{slice_cmp}
use Rattle.std.specs.declared.cmp.Ordering.{Ordering}
use Rattle.std.specs.declared.cmp.Ordering.TheVariants.{Less, Equal, Greater}
use Rattle.std.specs.Ordering.{nat_cmp, ordering_then, ordering_reverse, is_lt, is_eq, is_gt}
use Rattle.std.specs.List.Sorted.{IsPartitionedBy}
use Rattle.std.proofs.lemmas.Cmp.{upto, on_total, then_total, nat_cmp_total, nat_list_cmp_total}
use Rattle.std.proofs.lemmas.Map.Text.{is_eq-slice_cmp}
use Rattle.std.proofs.lemmas.Bool.{and_parts, not-true, both_ways, true_from_ne_false, eqb-true, eq-eqb}
use Rattle.std.proofs.lemmas.Slice.Eq.{bytes_eq-Decides}
use Rattle.std.proofs.lemmas.Bool.Decides.{nat_tests}
use Rattle.open_records.specs.Keyed.{interface_order, is_of, is_before, is_after, falls, no_pair, rise}
use Rattle.open_records.specs.declared.open_record.KeyedRecord.{KeyedRecord}
use Rattle.open_records.proofs.ListLemmas.{any_at}

abbrev pub key_order : ℕ × List ℕ → ℕ × List ℕ → Ordering
key_order x y = interface_order x.0 x.1 y.0 y.1

pub total : IsTotalOrder key_order
total = then_total (on_total (λ (key : ℕ × List ℕ). key.0) nat_cmp_total) (on_total (λ (key : ℕ × List ℕ). key.1) nat_list_cmp_total)

lt-reverse : (o : Ordering) → is_lt (ordering_reverse o) ≡ is_gt o
lt-reverse Less = refl
lt-reverse Equal = refl
lt-reverse Greater = refl

-- one comes before another exactly if the other comes after it
pub flipped : (x y : ℕ × List ℕ) → is_lt (key_order x y) ≡ is_gt (key_order y x)
flipped x y = ap is_lt (total.antisymm x y) ∙ lt-reverse (key_order y x)

pub before_is_after : (one new : KeyedRecord) → is_before one.handle one.guid new ≡ is_after new.handle new.guid one
before_is_after one new = flipped (new.handle, new.guid) (one.handle, one.guid)

-- if a record is not before an interface, no later record is
pub before_later : (handle : ℕ) (guid : List ℕ) (one later : KeyedRecord) → falls one later ≡ false → is_before handle guid one ≡ false → is_before handle guid later ≡ false
before_later handle guid one later rises fails =
    let up : is_gt (key_order (one.handle, one.guid) (later.handle, later.guid)) ≡ false = sym (flipped (later.handle, later.guid) (one.handle, one.guid)) ∙ rises in
    let from : is_gt (key_order (handle, guid) (one.handle, one.guid)) ≡ false = sym (flipped (one.handle, one.guid) (handle, guid)) ∙ fails in
    flipped (later.handle, later.guid) (handle, guid) ∙ upto total (handle, guid) (one.handle, one.guid) (later.handle, later.guid) from up

-- and if it is after the interface, so is each later record
pub after_later : (handle : ℕ) (guid : List ℕ) (one later : KeyedRecord) → falls one later ≡ false → is_after handle guid one ≡ true → is_after handle guid later ≡ true
after_later handle guid one later rises holds =
    let up : is_gt (key_order (one.handle, one.guid) (later.handle, later.guid)) ≡ false = sym (flipped (later.handle, later.guid) (one.handle, one.guid)) ∙ rises in
    true_from_ne_false (is_after handle guid later) (λ fails. both_ways (is_after handle guid one) (upto total (one.handle, one.guid) (later.handle, later.guid) (handle, guid) up fails) holds)

-- ---- the three cases of the order

pub eq-nat_cmp : (x y : ℕ) (o : Ordering) → is_eq (ordering_then (nat_cmp x y) o) ≡ (nat_eq x y && is_eq o)
eq-nat_cmp x y o = grind (arith, nat_tests)

pub of_is_eq : (handle : ℕ) (guid : List ℕ) (one : KeyedRecord) → is_of handle guid one ≡ is_eq (interface_order one.handle one.guid handle guid)
of_is_eq handle guid one =
    sym (eq-nat_cmp one.handle handle (slice_cmp nat_cmp one.guid guid) ∙ ap (λ b. nat_eq one.handle handle && b) (is_eq-slice_cmp one.guid guid))

pub record Stands (before here after : Bool) : Type 0 where
  pub order : Ordering
  pub lt : before ≡ is_lt order
  pub eq : here ≡ is_eq order
  pub gt : after ≡ is_gt order

pub stands : (handle : ℕ) (guid : List ℕ) (one : KeyedRecord) → Stands (is_before handle guid one) (is_of handle guid one) (is_after handle guid one)
stands handle guid one = record { order = interface_order one.handle one.guid handle guid; lt = refl; eq = of_is_eq handle guid one; gt = refl }

-- only one of them
first_not_here : (o : Ordering) (before here : Bool) → before ≡ is_lt o → here ≡ is_eq o → before ≡ true → here ≡ false
first_not_here Less before here lt eq holds = eq
first_not_here Equal before here lt eq holds = absurd (both_ways before lt holds)
first_not_here Greater before here lt eq holds = eq

here_not_last : (o : Ordering) (here after : Bool) → here ≡ is_eq o → after ≡ is_gt o → after ≡ true → here ≡ false
here_not_last Less here after eq gt holds = eq
here_not_last Equal here after eq gt holds = absurd (both_ways after gt holds)
here_not_last Greater here after eq gt holds = eq

first_not_last : (o : Ordering) (before after : Bool) → before ≡ is_lt o → after ≡ is_gt o → before ≡ true → after ≡ false
first_not_last Less before after lt gt holds = gt
first_not_last Equal before after lt gt holds = absurd (both_ways before lt holds)
first_not_last Greater before after lt gt holds = absurd (both_ways before lt holds)

last_not_first : (o : Ordering) (before after : Bool) → before ≡ is_lt o → after ≡ is_gt o → after ≡ true → before ≡ false
last_not_first Less before after lt gt holds = absurd (both_ways after gt holds)
last_not_first Equal before after lt gt holds = absurd (both_ways after gt holds)
last_not_first Greater before after lt gt holds = lt

here_not_after : (o : Ordering) (here after : Bool) → here ≡ is_eq o → after ≡ is_gt o → here ≡ true → after ≡ false
here_not_after Less here after eq gt holds = absurd (both_ways here eq holds)
here_not_after Equal here after eq gt holds = gt
here_not_after Greater here after eq gt holds = absurd (both_ways here eq holds)

module _ (handle : ℕ) (guid : List ℕ) (one : KeyedRecord) where
  pub before-not_here : is_before handle guid one ≡ true → is_of handle guid one ≡ false
  before-not_here holds = let s = stands handle guid one in first_not_here s.order (is_before handle guid one) (is_of handle guid one) s.lt s.eq holds

  pub after-not_here : is_after handle guid one ≡ true → is_of handle guid one ≡ false
  after-not_here holds = let s = stands handle guid one in here_not_last s.order (is_of handle guid one) (is_after handle guid one) s.eq s.gt holds

  pub before-not_after : is_before handle guid one ≡ true → is_after handle guid one ≡ false
  before-not_after holds = let s = stands handle guid one in first_not_last s.order (is_before handle guid one) (is_after handle guid one) s.lt s.gt holds

  pub after-not_before : is_after handle guid one ≡ true → is_before handle guid one ≡ false
  after-not_before holds = let s = stands handle guid one in last_not_first s.order (is_before handle guid one) (is_after handle guid one) s.lt s.gt holds

  pub here-not_after : is_of handle guid one ≡ true → is_after handle guid one ≡ false
  here-not_after holds = let s = stands handle guid one in here_not_after s.order (is_of handle guid one) (is_after handle guid one) s.eq s.gt holds

-- a record is of its own interface
pub of_itself : (one : KeyedRecord) → is_of one.handle one.guid one ≡ true
of_itself one = rw (eq-eqb one.handle one.handle refl, (bytes_eq-Decides one.guid one.guid).1 refl) refl

pub record SameInterface (handle : ℕ) (guid : List ℕ) (one : KeyedRecord) : Type 0 where
  pub same_handle : one.handle ≡ handle
  pub same_guid : one.guid ≡ guid

pub same_from_of : (handle : ℕ) (guid : List ℕ) (one : KeyedRecord) → is_of handle guid one ≡ true → SameInterface handle guid one
same_from_of handle guid one holds =
    let parts = and_parts (nat_eq one.handle handle) (bytes_eq one.guid guid) holds in
    record { same_handle = eqb-true one.handle handle parts.0; same_guid = (bytes_eq-Decides one.guid guid).0 parts.1 }

-- ---- the place at which a rising list parts

parted_at : (p : KeyedRecord → Bool) (one : KeyedRecord) (entries : List KeyedRecord) → list_any (falls one) entries ≡ false → ((one later : KeyedRecord) → falls one later ≡ false → p one ≡ false → p later ≡ false) → IsPartitionedBy p entries → IsPartitionedBy p (one ∷ entries)
parted_at p one entries none stays rest zero zero d order within holds = holds
parted_at p one entries none stays rest zero (suc j) d order within holds =
    true_from_ne_false (p one) (λ fails. both_ways (p (get_or entries j d)) (stays one (get_or entries j d) (any_at (falls one) entries j d (omega arith) none) fails) holds)
parted_at p one entries none stays rest (suc i) zero d order within holds = absurd (omega arith)
parted_at p one entries none stays rest (suc i) (suc j) d order within holds = rest i j d (omega arith) (omega arith) holds

pub parted : (p : KeyedRecord → Bool) (entries : List KeyedRecord) → rise entries ≡ true → ((one later : KeyedRecord) → falls one later ≡ false → p one ≡ false → p later ≡ false) → IsPartitionedBy p entries
parted p [] rising stays = λ i j d order within holds. absurd (omega arith)
parted p (one ∷ entries) rising stays =
    let parts = and_parts (not (list_any (falls one) entries)) (no_pair falls entries) rising in
    let rest = parted p entries parts.1 stays in
    λ i j d order within holds. parted_at p one entries (not-true _ parts.0) stays rest i j d order within holds
