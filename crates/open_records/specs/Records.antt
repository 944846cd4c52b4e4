-- The open records of one interface (UEFI 2.8, 7.3: OpenProtocol): who has it open, and how.
use Rattle.std.specs.Prelude.{ℕ, Bool, true, ◌&&◌, ◌||◌, nat_eq, Option, Some, None}
use Rattle.fw_types.specs.Attr.{has_bit_of}
use Rattle.fw_types.specs.declared.attr.TheConstants.Attr.{BY_CHILD_CONTROLLER, HOLDING_BITS}
use Rattle.open_records.specs.declared.open_record.Meant.{Meant}
use Rattle.open_records.specs.declared.open_record.Rec.{Rec}

-- ---- one record

-- whether a record is of an agent for a controller with an attribute
abbrev pub is_equal : (agent controller attr : ℕ) → Rec → Bool
is_equal agent controller attr rec = nat_eq rec.agent agent && nat_eq rec.controller controller && nat_eq rec.attr attr

-- whether a record has BY_DRIVER or EXCLUSIVE
abbrev pub is_strong : Rec → Bool
is_strong rec = has_bit_of HOLDING_BITS rec.attr

-- whether a record has BY_CHILD_CONTROLLER
abbrev pub is_for_child : Rec → Bool
is_for_child rec = nat_eq rec.attr BY_CHILD_CONTROLLER

-- whether a number is the one that is given, if one is
abbrev pub fits : Option ℕ → ℕ → Bool
fits None number = true
fits (Some given) number = nat_eq number given

-- whether a record is of an agent, if one is given, and for a controller, if one is given, and has one of
-- some bits
abbrev pub is_meant : (agent controller : Option ℕ) (bits : ℕ) → Rec → Bool
is_meant agent controller bits rec = fits agent rec.agent && fits controller rec.controller && has_bit_of bits rec.attr

-- the same, in the form that the code is given
abbrev pub is_asked : Meant → Rec → Bool
is_asked meant rec = is_meant meant.agent meant.controller meant.bits rec

-- whether a record names a handle, as its agent or its controller
abbrev pub is_named : ℕ → Rec → Bool
is_named name rec = nat_eq rec.agent name || nat_eq rec.controller name

-- whether a record has one of some bits
abbrev pub has_bits : ℕ → Rec → Bool
has_bits bits rec = has_bit_of bits rec.attr

-- a record with another count
abbrev pub recounted : ℕ → Rec → Rec
recounted count rec = record rec { count = count }
