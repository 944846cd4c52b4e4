-- What a service leaves as it was.
use Rattle.std.specs.Prelude.{◌≡◌, ◌≤◌, ℕ, Bool, true, false, nat_lt, Option, Result, Ok, Err, if◌then◌else◌}
use Rattle.fw_types.specs.Status.{is_error}
use Rattle.fw_types.specs.declared.event.Cause.{Cause}
use Rattle.fw_types.specs.declared.event.Cause.TheVariants.{Budget, Memory}
use Rattle.service_thunks.specs.declared.service.Service.{Service}
use Rattle.service_thunks.specs.declared.service.Service.TheVariants.{Attributes, ConnectController, DisconnectController, MemWrite, OpenProtocol, PciWrite, RaiseTpl, RestoreTpl, Uninstall, UninstallMultiple}
use Rattle.world_model.specs.World.{State, on_hard}
use Rattle.world_model.specs.Units.{units_spent}
use Rattle.world_model.specs.Fixed.{fixed_segments}
use Rattle.world_model.specs.Kept.{IsKept}
use Rattle.world_model.specs.Marks.{stacks}
use Rattle.service_model.specs.Words.{◌>>=◌, slots}
use Rattle.service_model.specs.BootServices.{fixed_price, row, served}
use Rattle.service_model.specs.Changes.{stored_if}
use Rattle.service_model.specs.declared.call.Caller.{Caller}
use Rattle.service_model.specs.declared.call.Served.{Served}
use Rattle.service_model.specs.declared.call.Served.TheVariants.{Again, Trap, Value}
use Rattle.service_model.specs.declared.plan.Stop.{Stop}

-- the state that a service leaves
abbrev pub left_by : Service → Caller → State → State
left_by s c w = (served s c w).1

-- the tables, lists of children and blocks of the firmware: the same ones are there, with their bytes
abbrev pub FixedStay : Type 0
FixedStay = (s : Service) (c : Caller) (w : State) → IsKept w.soft → fixed_segments (left_by s c w).soft.memory ≡ fixed_segments w.soft.memory

-- which levels have a stack
abbrev pub StacksStay : Type 0
StacksStay = (s : Service) (c : Caller) (w : State) → IsKept w.soft → stacks (left_by s c w).soft ≡ stacks w.soft

-- what holds of every soft part
abbrev pub KeptStays : Type 0
KeptStays = (s : Service) (c : Caller) (w : State) → IsKept w.soft → IsKept (left_by s c w).soft

-- the task priority level, except for the two services that set it
abbrev pub sets_tpl : Service → Bool
sets_tpl RaiseTpl = true
sets_tpl RestoreTpl = true
sets_tpl _ = false

abbrev pub TplStays : Type 0
TplStays = (s : Service) (c : Caller) (w : State) → sets_tpl s ≡ false → (left_by s c w).soft.tpl ≡ w.soft.tpl

-- the events, and all units except those that are spent
abbrev pub EventsStay : Type 0
EventsStay = (s : Service) (c : Caller) (w : State) → (left_by s c w).hard.events ≡ w.hard.events

abbrev pub UnitsNeverRise : Type 0
UnitsNeverRise = (s : Service) (c : Caller) (w : State) → (left_by s c w).hard.units ≤ w.hard.units

-- the board, except for the functions that write a device
abbrev pub writes_device : Service → Bool
writes_device MemWrite = true
writes_device PciWrite = true
writes_device Attributes = true
writes_device _ = false

abbrev pub BoardStays : Type 0
BoardStays = (s : Service) (c : Caller) (w : State) → writes_device s ≡ false → (left_by s c w).hard.board ≡ w.hard.board

-- the lines of the board and the option ROMs, and the bus lists
abbrev pub LinesStay : Type 0
LinesStay =
    (s : Service) (c : Caller) (w : State)
    → ((left_by s c w).hard.board.lines ≡ w.hard.board.lines) × (((left_by s c w).hard.roms ≡ w.hard.roms) × ((left_by s c w).soft.bus_lists ≡ w.soft.bus_lists))

-- a service that traps may have spent its price, and changes nothing else
abbrev pub TrapsChangeNothing : Type 0
TrapsChangeNothing =
    (s : Service) (c : Caller) (w : State) (cause : Cause) → (served s c w).0 ≡ Trap cause
    → ((left_by s c w).soft ≡ w.soft) × ((left_by s c w).hard.board ≡ w.hard.board)

-- ---- what a service costs, and why it traps

-- the price of a call, or why the argument that it depends on can't be read
abbrev pub price_of : Service → Caller → State → Result ℕ Stop
price_of s c w =
    if (row s).by_argument then (slots (row s).slots c.sp w >>= λ a. Ok ((row s).price a)) else Ok (fixed_price (row s))

-- `Budget` if the price is more than the units that are left, and otherwise `Memory`
abbrev pub cause_by : Result ℕ Stop → State → Cause
cause_by (Ok price) w = if nat_lt w.hard.units price then Budget else Memory
cause_by (Err stop) w = Memory

abbrev pub TrapsForItsCause : Type 0
TrapsForItsCause = (s : Service) (c : Caller) (w : State) (cause : Cause) → (served s c w).0 ≡ Trap cause → cause ≡ cause_by (price_of s c w) w

-- a service always traps if its price is more than what is left, or can't be read
abbrev pub ShortOfUnitsTraps : Type 0
ShortOfUnitsTraps =
    (s : Service) (c : Caller) (w : State) (price : ℕ) → price_of s c w ≡ Ok price → nat_lt w.hard.units price ≡ true → served s c w ≡ (Trap Budget, w)

abbrev pub UnreadablePriceTraps : Type 0
UnreadablePriceTraps = (s : Service) (c : Caller) (w : State) (stop : Stop) → price_of s c w ≡ Err stop → served s c w ≡ (Trap Memory, w)

-- ---- errors

-- what is left if a price was spent, and one number was stored or none
pub record StoresAtMostOne (known : Result ℕ Stop) (old new : State) : Type 0 where
  pub price : ℕ
  pub out : Option ℕ
  pub number : ℕ
  pub costs : known ≡ Ok price
  pub leaves : new ≡ stored_if out number (on_hard (units_spent price) old)

-- this holds if a service answers an error, which has bit 63 set
abbrev pub ErrorsChangeNothing : Type 0
ErrorsChangeNothing =
    (s : Service) (c : Caller) (w : State) (value : ℕ) → (served s c w).0 ≡ Value value → is_error (record { 0 = value }) ≡ true
    → StoresAtMostOne (price_of s c w) w (left_by s c w)

-- ---- going on

-- whether a service enters the driver model again
abbrev pub goes_on : Served → Bool
goes_on (Value value) = false
goes_on (Trap cause) = false
goes_on (Again reentry) = true

-- the services that may do so
abbrev pub may_go_on : Service → Bool
may_go_on ConnectController = true
may_go_on DisconnectController = true
may_go_on OpenProtocol = true
may_go_on Uninstall = true
may_go_on UninstallMultiple = true
may_go_on _ = false

-- no other one does
abbrev pub OthersEnd : Type 0
OthersEnd = (s : Service) (c : Caller) (w : State) → may_go_on s ≡ false → goes_on (served s c w).0 ≡ false
