-- Keys, each with a number: the place at which it was entered.
use Rattle.std.specs.Prelude.{◌≡◌, ℕ, true, List, Some, slice_get}
use Rattle.std.specs.declared.cmp.Ordering.{Ordering}
use Rattle.std.specs.declared.cmp.Ordering.TheVariants.{Equal}
use Rattle.std.specs.declared.ops.Bound.{Bound}
use Rattle.std.specs.BTreeMap as tree
use Rattle.std.specs.BTreeMap.Range.{range_contains}

-- keys that an order does not tell apart are the same
abbrev pub IsExact : {K : Type 0} → (K → K → Ordering) → Type 0
IsExact {K} cmp = (x y : K) → cmp x y ≡ Equal → x ≡ y

-- a key is not among some
abbrev pub IsAbsent : {K : Type 0} → K → List K → Type 0
IsAbsent key owners = (number : ℕ) → slice_get owners number ≡ Some key → ⊥

-- each key is there once
abbrev pub AreDistinct : {K : Type 0} → List K → Type 0
AreDistinct {K} owners = (key : K) (number other : ℕ) → slice_get owners number ≡ Some key → slice_get owners other ≡ Some key → number ≡ other

-- The map gives each key that was entered its number, and no other key one.
pub record IsNumbered {K : Type 0} (cmp : K → K → Ordering) (numbers : tree.BTreeMap K ℕ) (owners : List K) : Type 0 where
  pub given : (key : K) (number : ℕ) → tree.get cmp numbers key ≡ Some number → slice_get owners number ≡ Some key
  pub all : (key : K) (number : ℕ) → slice_get owners number ≡ Some key → tree.get cmp numbers key ≡ Some number

-- A list has each key that lies between two bounds.
pub record HasBetween {K : Type 0} (cmp : K → K → Ordering) (low high : Bound K) (owners keys : List K) : Type 0 where
  pub each : (key : K) (number : ℕ) → slice_get owners number ≡ Some key → range_contains cmp low high key ≡ true → (place : ℕ) × (slice_get keys place ≡ Some key)
