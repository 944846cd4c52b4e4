-- How the places of rows are kept: the last place of each key, and lists of places by the numbers of interfaces.
use Rattle.std.specs.Prelude.{◌≡◌, ℕ, ◌-◌, Bool, true, ◌&&◌, not, nat_eq, List, [], ◌∷◌, ◌++◌, length, map, take, Option, slice_index_or, if◌then◌else◌}
use Rattle.std.specs.declared.cmp.Ordering.{Ordering}
use Rattle.std.specs.Ordering.{nat_cmp, ordering_then}
use Rattle.std.specs.BTreeMap as tree
use Rattle.fw_types.specs.Attr.{has_bit_of}
use Rattle.fw_types.specs.declared.attr.TheConstants.Attr.{HOLDING_BITS, WEAK_BITS}
use Rattle.record_rows.specs.Index.{RowKey, is_other_on, is_key, is_key_named, is_key_on, is_strong_on, last_key, places_of}
use Rattle.record_rows.specs.declared.last_places.NotedKey.{NotedKey}
use Rattle.record_rows.specs.declared.interface_places.InterfacePlaces.{InterfacePlaces}

-- ---- the last place of each key

-- the order of keys
abbrev pub key_cmp : RowKey → RowKey → Ordering
key_cmp x y = ordering_then (ordering_then (ordering_then (nat_cmp x.0 y.0) (nat_cmp x.1 y.1)) (nat_cmp x.2 y.2)) (nat_cmp x.3 y.3)

abbrev pub keys_in : List NotedKey → List RowKey
keys_in rows = map (λ (row : NotedKey). row.key) rows

-- each row notes the place of the last row before it that has the same key; the rows come after those with keys `seen`
abbrev pub AreNoted : (seen : List RowKey) → List NotedKey → Type 0
AreNoted seen [] = Unit {0}
AreNoted seen (row ∷ rows) = (row.before ≡ last_key (is_key row.key) seen) × AreNoted (seen ++ row.key ∷ []) rows

-- The map gives each key the place of the last row that has it, and each row notes the last one before it.
pub record AreLast (last : tree.BTreeMap RowKey ℕ) (rows : List NotedKey) : Type 0 where
  pub each : (key : RowKey) → tree.get key_cmp last key ≡ last_key (is_key key) (keys_in rows)
  pub noted : AreNoted [] rows

-- a map that has another place, or none, for a key
pub record IsChangedAt (key : RowKey) (place : Option ℕ) (old new : tree.BTreeMap RowKey ℕ) : Type 0 where
  pub each : (other : RowKey) → tree.get key_cmp new other ≡ (if tree.is_at (key_cmp key) other then place else tree.get key_cmp old other)

-- ---- lists of places by number

-- the list of a number, which is empty if none is there
abbrev pub list_at : (number : ℕ) → List (List ℕ) → List ℕ
list_at number lists = slice_index_or lists number []

abbrev pub without_last : List ℕ → List ℕ
without_last places = take (length places - 1) places

pub record AreSame (old new : List (List ℕ)) : Type 0 where
  pub each : (number : ℕ) → list_at number new ≡ list_at number old

-- If it is chosen, the list of a number has one more place. The others are the same.
pub record IsLonger (chosen : Bool) (number place : ℕ) (old new : List (List ℕ)) : Type 0 where
  pub each : (other : ℕ) → list_at other new ≡ (if nat_eq number other && chosen then list_at other old ++ place ∷ [] else list_at other old)

-- If it is chosen, the list of a number has lost its last place. The others are the same.
pub record IsShorter (chosen : Bool) (number : ℕ) (old new : List (List ℕ)) : Type 0 where
  pub each : (other : ℕ) → list_at other new ≡ (if nat_eq number other && chosen then without_last (list_at other old) else list_at other old)

-- ---- the lists of handle numbers

-- The lists of a key's agent and of its controller have one more place. The others are the same.
pub record AreNamedLonger (key : RowKey) (place : ℕ) (old new : List (List ℕ)) : Type 0 where
  pub each : (name : ℕ) → list_at name new ≡ (if is_key_named name key then list_at name old ++ place ∷ [] else list_at name old)

-- The lists of a key's agent and of its controller have lost their last place. The others are the same.
pub record AreNamedShorter (key : RowKey) (old new : List (List ℕ)) : Type 0 where
  pub each : (name : ℕ) → list_at name new ≡ (if is_key_named name key then without_last (list_at name old) else list_at name old)

-- ---- the lists of interfaces

-- whether bits are not those of a weak record; whether they have BY_DRIVER or EXCLUSIVE
abbrev pub is_other : (bits : ℕ) → Bool
is_other bits = not (has_bit_of WEAK_BITS bits)

abbrev pub is_holding : (bits : ℕ) → Bool
is_holding bits = has_bit_of HOLDING_BITS bits

pub record EachIsLonger (key : RowKey) (place : ℕ) (old new : InterfacePlaces) : Type 0 where
  pub all : IsLonger true key.0 place old.all new.all
  pub others : IsLonger (is_other key.3) key.0 place old.others new.others
  pub strong : IsLonger (is_holding key.3) key.0 place old.strong new.strong

pub record EachIsShorter (key : RowKey) (old new : InterfacePlaces) : Type 0 where
  pub all : IsShorter true key.0 old.all new.all
  pub others : IsShorter (is_other key.3) key.0 old.others new.others
  pub strong : IsShorter (is_holding key.3) key.0 old.strong new.strong

pub record EachIsSame (old new : InterfacePlaces) : Type 0 where
  pub all : AreSame old.all new.all
  pub others : AreSame old.others new.others
  pub strong : AreSame old.strong new.strong

-- each number has the list of the places of its keys
pub record AreListed (test : (number : ℕ) → RowKey → Bool) (keys : List RowKey) (lists : List (List ℕ)) : Type 0 where
  pub each : (number : ℕ) → list_at number lists ≡ places_of (test number) keys

pub record IsIndexed (keys : List RowKey) (places : InterfacePlaces) (names : List (List ℕ)) : Type 0 where
  pub all : AreListed is_key_on keys places.all
  pub others : AreListed is_other_on keys places.others
  pub strong : AreListed is_strong_on keys places.strong
  pub named : AreListed is_key_named keys names
