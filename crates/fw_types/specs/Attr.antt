-- How an interface may be opened (UEFI 2.8, 7.3: OpenProtocol, Attributes).
use Rattle.std.specs.Prelude.{ℕ, List, [], ◌∷◌, Bool, nat_eq, not}
use Rattle.std.specs.List.{list_any}
use Rattle.std.specs.Int.RustNames.{bit_and}

-- BY_HANDLE_PROTOCOL, GET_PROTOCOL, TEST_PROTOCOL, BY_CHILD_CONTROLLER, BY_DRIVER, EXCLUSIVE, and the
-- last two together
abbrev pub legal_attributes : List ℕ
legal_attributes = 0x01 ∷ 0x02 ∷ 0x04 ∷ 0x08 ∷ 0x10 ∷ 0x20 ∷ 0x30 ∷ []

-- whether an interface may be opened with these bits
abbrev pub is_legal : ℕ → Bool
is_legal bits = list_any (nat_eq bits) legal_attributes

-- whether bits have one of a mask
abbrev pub has_bit_of : (mask bits : ℕ) → Bool
has_bit_of mask bits = not (nat_eq (bit_and bits mask) 0)
