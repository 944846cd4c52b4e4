-- Segments under keys, with a map from the addresses at which they begin to their keys, and what the code finds by address.
use Rattle.std.specs.Prelude.{◌≡◌, ℕ, ◌≤◌, Bool, true, false, nat_eq, List, Option, None, Some, Ok, filter_map, is_ok, is_some, option_map}
use Rattle.std.specs.BTreeMap as tree
use Rattle.std.specs.List.{list_all}
use Rattle.std.specs.Ordering.{nat_cmp}
use Rattle.slab.specs.Slab.{Slab, get, Updates}
use Rattle.guest_memory.specs.Segment.{has_bytes, with_bytes}
use Rattle.guest_memory.specs.GuestMemory.{holder, lie_from, beginning_at}
use Rattle.guest_memory.specs.declared.segment.Segment.{Segment}

-- ---- segments under keys

-- whether there is a number, and it is this one
abbrev pub is_number : ℕ → Option ℕ → Bool
is_number n None = false
is_number n (Some m) = nat_eq n m

-- the address at which the segment under a key begins
abbrev pub base_under : Slab Segment → ℕ → Option ℕ
base_under slots key = option_map (λ segment. segment.base) (get slots key)

-- the segments under the keys of entries, each of which has an address and a key
abbrev pub all_in : Slab Segment → List (ℕ × ℕ) → List Segment
all_in slots entries = filter_map (λ e. get slots e.1) entries

-- whether the segment under the key of each entry begins at the entry's address
abbrev pub all_stand : Slab Segment → List (ℕ × ℕ) → Bool
all_stand slots entries = list_all (λ e. is_number e.0 (base_under slots e.1)) entries

-- What holds of them: the map names each segment's key by its address and nothing else, and in the map's order
-- they lie in order and apart.
pub record IsFiled (slots : Slab Segment) (bases : tree.BTreeMap ℕ ℕ) : Type 0 where
  pub named : (base key : ℕ) → is_number key (tree.get nat_cmp bases base) ≡ is_number base (base_under slots key)
  pub stand : all_stand slots bases.entries ≡ true
  pub apart : lie_from 0 (all_in slots bases.entries) ≡ true

-- whether the segment under a key, if there is one, has all n bytes from an address on
abbrev pub has_under : Option Segment → ℕ → ℕ → Bool
has_under None at n = false
has_under (Some segment) at n = has_bytes segment at n

-- the segment under a key is the one of all that has all n bytes from an address on
pub record IsHolderKey (slots : Slab Segment) (entries : List (ℕ × ℕ)) (at n key : ℕ) : Type 0 where
  pub found : get slots key ≡ holder (all_in slots entries) at n
  pub has : has_under (get slots key) at n ≡ true

-- bytes were put in the segment under a key, from an address on, and nothing else has changed
abbrev pub PutsUnder : ℕ → ℕ → List ℕ → Slab Segment → Slab Segment → Type 0
PutsUnder key at bytes old new = Updates old new key (option_map (λ segment. with_bytes segment at bytes) (get old key))

-- ---- the last that begins at or below an address

-- no segment begins at an address or below it
abbrev pub NoneUpTo : ℕ → List Segment → Type 0
NoneUpTo at segments = (base : ℕ) → base ≤ at → is_ok (beginning_at segments base) ≡ false

-- the last segment that does
pub record IsLastUpTo (at : ℕ) (segments : List Segment) (last : Segment) : Type 0 where
  pub here : beginning_at segments last.base ≡ Ok last
  pub low : last.base ≤ at
  pub greatest : (base : ℕ) → base ≤ at → is_ok (beginning_at segments base) ≡ true → base ≤ last.base

-- the same for a map's keys
abbrev pub NoKeyUpTo : ℕ → tree.BTreeMap ℕ ℕ → Type 0
NoKeyUpTo at bases = (base : ℕ) → base ≤ at → tree.get nat_cmp bases base ≡ None

pub record IsLastKey (at : ℕ) (bases : tree.BTreeMap ℕ ℕ) (key : ℕ) : Type 0 where
  pub base : ℕ
  pub here : tree.get nat_cmp bases base ≡ Some key
  pub low : base ≤ at
  pub greatest : (other : ℕ) → other ≤ at → is_some (tree.get nat_cmp bases other) ≡ true → other ≤ base
