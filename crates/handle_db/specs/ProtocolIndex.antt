-- The index by protocol, by which the code finds the handles that have one.
use Rattle.std.specs.Prelude.{◌≡◌, ℕ, List, map}
use Rattle.std.specs.BTreeSet.{BTreeSet, contains, keys_between}
use Rattle.std.specs.Cmp.Lexicographic.{slice_cmp}
use Rattle.std.specs.Ordering.{nat_cmp, ordering_then}
use Rattle.std.specs.declared.cmp.Ordering.{Ordering}
use Rattle.std.specs.declared.ops.Bound.TheVariants.{Included, Excluded}
use Rattle.handle_db.specs.Database.{Database, IsSound, has}

-- a protocol and a handle that has it
abbrev pub Naming : Type 0
Naming = List ℕ × ℕ

-- by the bytes of the GUID in the order of its text form, then by the handle
abbrev pub naming_cmp : Naming → Naming → Ordering
naming_cmp x y = ordering_then (slice_cmp nat_cmp x.0 y.0) (nat_cmp x.1 y.1)

-- the handles below a number that are named with a protocol
abbrev pub named : List ℕ → (next : ℕ) → BTreeSet Naming → List ℕ
named guid next index = map (λ (one : Naming). one.1) (keys_between naming_cmp (Included (guid, 1)) (Excluded (guid, next)) index)

-- the index names exactly the handles that have each protocol
abbrev pub IsIndexOf : BTreeSet Naming → Database → Type 0
IsIndexOf index db = (guid : List ℕ) (handle : ℕ) → contains naming_cmp index (guid, handle) ≡ has handle guid db

-- what holds inside a database: it is sound, and its index names exactly the handles that have each protocol
pub record IsInside (index : BTreeSet Naming) (db : Database) : Type 0 where
  pub sound : IsSound db
  pub names : IsIndexOf index db
