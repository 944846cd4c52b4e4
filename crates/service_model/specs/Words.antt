-- The language in which rows are written. A row is a list of lines: each looks at the arguments and at
-- the state, and either the row goes on with what the line found, or it stops.
use Rattle.std.specs.Prelude.{ℕ, Bool, false, ◌||◌, not, nat_eq, List, [], ◌∷◌, Option, Some, None, is_some, ok_or, Result, Ok, Err, if◌then◌else◌}
use Rattle.uuid.specs.Parts.{swap_fields}
use Rattle.fw_types.specs.declared.status.Status.{Status as StatusValue}
use Rattle.fw_types.specs.Attr.{is_legal}
use Rattle.fw_types.specs.declared.status.TheConstants.Status.{INVALID_PARAMETER, NOT_FOUND}
use Rattle.fw_types.specs.declared.event.Cause.TheVariants.{Memory}
use Rattle.guest_memory.specs.GuestMemory.{bytes_of, is_readable, is_writable_range, number_of}
use Rattle.handle_db.specs.Database.{interface_of, is_live}
use Rattle.service_thunks.specs.Arguments.{arguments}
use Rattle.world_model.specs.World.{State}
use Rattle.service_model.specs.declared.plan.Stop.{Stop}
use Rattle.service_model.specs.declared.plan.Stop.TheVariants.{Status, Trap}

-- a line that finds something, and the lines after it
infixl 10 ◌>>=◌
abbrev pub ◌>>=◌ : {A B : Type 0} → Result A Stop → (A → Result B Stop) → Result B Stop
(Ok found) >>= rest = rest found
(Err stop) >>= rest = Err stop

-- a line that finds nothing, and the lines after it
infixl 10 ◌>>◌
abbrev pub ◌>>◌ : {B : Type 0} → Result Unit Stop → Result B Stop → Result B Stop
(Ok done) >> rest = rest
(Err stop) >> rest = Err stop

-- a line for each number, up to the first that stops
abbrev pub each : (ℕ → Result Unit Stop) → List ℕ → Result Unit Stop
each line [] = Ok tt
each line (i ∷ rest) = line i >> each line rest

-- NULL is the address 0
abbrev pub null : ℕ → Bool
null at = nat_eq at 0

-- the service answers a status if a test holds
abbrev pub refuse_if : Bool → StatusValue → Result Unit Stop
refuse_if test status = if test then Err (Status status) else Ok tt

-- n bytes from an address on can be read, or written; otherwise the service traps
abbrev pub readable : ℕ → ℕ → State → Result Unit Stop
readable n at w = if is_readable w.soft.memory at n then Ok tt else Err (Trap Memory)

abbrev pub writable : ℕ → ℕ → State → Result Unit Stop
writable n at w = if is_writable_range w.soft.memory at n then Ok tt else Err (Trap Memory)

-- the number in the 8 bytes at an address
abbrev pub number : ℕ → State → Result ℕ Stop
number at w = ok_or (number_of w.soft.memory at 8) (Trap Memory)

-- the GUID in the 16 bytes at an address
abbrev pub guid : ℕ → State → Result (List ℕ) Stop
guid at w = if is_readable w.soft.memory at 16 then Ok (swap_fields (bytes_of w.soft.memory at 16)) else Err (Trap Memory)

-- the first n arguments of a caller, and 0 for the others of 16
abbrev pub slots : ℕ → ℕ → State → Result (List ℕ) Stop
slots n sp w = ok_or (arguments w.soft.memory sp n) (Trap Memory)

-- ---- handles and protocols

-- whether a number is that of no live handle; NULL is the number of none
abbrev pub dead : ℕ → State → Bool
dead handle w = null handle || not (is_live handle w.soft.database)

-- a live handle; otherwise the service answers a status
abbrev pub alive : ℕ → StatusValue → State → Result ℕ Stop
alive handle status w = if dead handle w then Err (Status status) else Ok handle

-- a live handle, or none for NULL; a dead one is refused
abbrev pub handle_or_none : ℕ → State → Result (Option ℕ) Stop
handle_or_none handle w =
    if null handle then Ok None
    else if dead handle w then Err (Status INVALID_PARAMETER)
    else Ok (Some handle)

-- a handle's interface of a protocol, and its owner
abbrev pub installed_interface : ℕ → List ℕ → State → Result (ℕ × ℕ) Stop
installed_interface handle name w = ok_or (interface_of handle name w.soft.database) (Status NOT_FOUND)

-- whether a handle has a protocol; a new handle has none
abbrev pub has_protocol : Option ℕ → List ℕ → State → Bool
has_protocol None name w = false
has_protocol (Some handle) name w = is_some (interface_of handle name w.soft.database)

-- bits with which an interface may be opened
abbrev pub legal : ℕ → Result ℕ Stop
legal bits = if is_legal bits then Ok bits else Err (Status INVALID_PARAMETER)
