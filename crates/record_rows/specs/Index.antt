-- The places of rows by what they are found by.
use Rattle.std.specs.Prelude.{ℕ, ◌+◌, Bool, ◌&&◌, ◌||◌, not, nat_eq, List, [], ◌∷◌, Option, Some, None, if◌then◌else◌}
use Rattle.fw_types.specs.Attr.{has_bit_of}
use Rattle.fw_types.specs.declared.attr.TheConstants.Attr.{HOLDING_BITS, WEAK_BITS}

-- The numbers of a row's interface, of its agent and of its controller, and the bits of its attribute.
abbrev pub RowKey : Type 0
RowKey = ℕ × ℕ × ℕ × ℕ

-- whether two keys are the same
abbrev pub is_key : RowKey → RowKey → Bool
is_key key other = nat_eq other.0 key.0 && nat_eq other.1 key.1 && nat_eq other.2 key.2 && nat_eq other.3 key.3

-- whether a key is that of a row on an interface; of one that is not weak; of one with BY_DRIVER or EXCLUSIVE
abbrev pub is_key_on : (interface : ℕ) → RowKey → Bool
is_key_on interface key = nat_eq key.0 interface

abbrev pub is_other_on : (interface : ℕ) → RowKey → Bool
is_other_on interface key = nat_eq key.0 interface && not (has_bit_of WEAK_BITS key.3)

abbrev pub is_strong_on : (interface : ℕ) → RowKey → Bool
is_strong_on interface key = nat_eq key.0 interface && has_bit_of HOLDING_BITS key.3

-- whether a key is that of a row that names a handle: as its agent or its controller
abbrev pub is_key_named : (name : ℕ) → RowKey → Bool
is_key_named name key = nat_eq key.1 name || nat_eq key.2 name

-- the places of the keys that pass a test, rising, of keys of which the first has this place
abbrev pub places_from : (place : ℕ) → (RowKey → Bool) → List RowKey → List ℕ
places_from place test [] = []
places_from place test (key ∷ keys) = if test key then place ∷ places_from (place + 1) test keys else places_from (place + 1) test keys

abbrev pub places_of : (RowKey → Bool) → List RowKey → List ℕ
places_of test keys = places_from 0 test keys

-- the place of the last key that passes a test, of keys of which the first has this place; or one from before
abbrev pub last_key_from : (place : ℕ) → (found : Option ℕ) → (RowKey → Bool) → List RowKey → Option ℕ
last_key_from place found test [] = found
last_key_from place found test (key ∷ keys) = last_key_from (place + 1) (if test key then Some place else found) test keys

abbrev pub last_key : (RowKey → Bool) → List RowKey → Option ℕ
last_key test keys = last_key_from 0 None test keys
