-- The table of services: the boot services (UEFI 2.8, 'EFI Boot Services Table') and the functions of PCI I/O.
-- It also says how a service proceeds. Prices are this project's own.
use Rattle.std.specs.Prelude.{ℕ, ◌+◌, ◌-◌, ◌/◌, ◌%◌, ◌^◌, Bool, true, false, nat_lt, List, replicate, slice_index, Result, Ok, Err, if◌then◌else◌}
use Rattle.fw_types.specs.declared.limits.TheConstants.{MOST_BYTES}
use Rattle.fw_types.specs.declared.event.Cause.TheVariants.{Budget}
use Rattle.service_thunks.specs.Arguments.{most_arguments}
use Rattle.service_thunks.specs.declared.service.Service.{Service}
use Rattle.service_thunks.specs.declared.service.Service.TheVariants.{RaiseTpl, RestoreTpl, AllocatePool, FreePool, Install, Uninstall, HandleProtocol, LocateHandle, Stall, ConnectController, DisconnectController, OpenProtocol, CloseProtocol, OpenProtocolInformation, ProtocolsPerHandle, LocateHandleBuffer, LocateProtocol, InstallMultiple, UninstallMultiple, CopyMem, SetMem, MemRead, MemWrite, PciRead, PciWrite, GetLocation, Attributes, Unbuilt}
use Rattle.pci_model.specs.declared.space.Space.TheVariants.{Bar, Config}
use Rattle.world_model.specs.World.{State, on_hard}
use Rattle.world_model.specs.Units.{units_spent}
use Rattle.service_model.specs.Words.{◌>>=◌, slots}
use Rattle.service_model.specs.Rows.{allocate_pool, copy_mem, free_pool, raise_tpl, restore_tpl, set_mem, stall, unbuilt}
use Rattle.service_model.specs.Protocols.{close, handle_protocol, install, locate_handle, locate_handle_buffer, locate_protocol, open_protocol, open_protocol_information, protocols_per_handle, uninstall}
use Rattle.service_model.specs.Many.{first_pair, install_multiple, uninstall_multiple}
use Rattle.service_model.specs.Connecting.{connect_controller, disconnect_controller}
use Rattle.service_model.specs.PciIo.{attributes, get_location, read_device, transfer_price, write_device}
use Rattle.service_model.specs.Changes.{applied, stop_answered}
use Rattle.service_model.specs.declared.call.Caller.{Caller}
use Rattle.service_model.specs.declared.call.Served.{Served}
use Rattle.service_model.specs.declared.call.Served.TheVariants.{Trap}
use Rattle.service_model.specs.declared.plan.Change.{Change}
use Rattle.service_model.specs.declared.plan.Stop.{Stop}

-- ---- the table

-- a row: how many arguments the service has, its price, whether the price depends on an argument, and what the
-- service does
pub record Row : Type 0 where
  pub slots : ℕ
  pub price : List ℕ → ℕ
  pub by_argument : Bool
  pub rest : Caller → List ℕ → State → Result Change Stop

-- a row whose price is a number
abbrev pub fixed : ℕ → ℕ → (Caller → List ℕ → State → Result Change Stop) → Row
fixed slots price rest = record { slots = slots; price = λ a. price; by_argument = false; rest = rest }

-- a row whose price depends on an argument
abbrev pub priced : ℕ → (List ℕ → ℕ) → (Caller → List ℕ → State → Result Change Stop) → Row
priced slots price rest = record { slots = slots; price = price; by_argument = true; rest = rest }

-- a service that is not built: no argument is read
abbrev pub unbuilt_row : Row
unbuilt_row = fixed 0 1 (λ c a. unbuilt)

-- an argument, counted from 0: its 64 bits, or the lowest 32 or 8
abbrev pub arg : List ℕ → ℕ → ℕ
arg a k = slice_index a k

abbrev pub arg32 : List ℕ → ℕ → ℕ
arg32 a k = slice_index a k % 2 ^ 32

abbrev pub arg8 : List ℕ → ℕ → ℕ
arg8 a k = slice_index a k % 2 ^ 8

-- a number over another, rounded up
abbrev pub per : ℕ → ℕ → ℕ
per unit n = (n + (unit - 1)) / unit

-- one unit for the call, and one for each 64 bytes of a block that can be made
abbrev pub pool_price : ℕ → ℕ
pool_price size = if nat_lt MOST_BYTES size then 1 else 1 + per 64 size

abbrev pub row : Service → Row
row RaiseTpl = fixed 1 1 (λ c a. raise_tpl (arg a 0))
row RestoreTpl = fixed 1 1 (λ c a. restore_tpl (arg a 0))
row AllocatePool = priced 3 (λ a. pool_price (arg a 1)) (λ c a. allocate_pool (arg a 1) (arg a 2))
row FreePool = fixed 1 4 (λ c a. free_pool (arg a 0))
row Install = fixed 4 8 (λ c a. install c.image (arg a 0) (arg a 1) (arg32 a 2) (arg a 3))
row Uninstall = fixed 3 8 (λ c a. uninstall (arg a 0) (arg a 1) (arg a 2))
row HandleProtocol = fixed 3 8 (λ c a. handle_protocol (arg a 0) (arg a 1) (arg a 2))
row LocateHandle = fixed 5 16 (λ c a. locate_handle (arg32 a 0) (arg a 1) (arg a 3) (arg a 4))
row Stall = fixed 1 1 (λ c a. stall)
row ConnectController = fixed 4 1 (λ c a. connect_controller (arg a 0) (arg a 1) (arg a 2) (arg8 a 3))
row DisconnectController = fixed 3 1 (λ c a. disconnect_controller (arg a 0) (arg a 1) (arg a 2))
row OpenProtocol = fixed 6 8 (λ c a. open_protocol (arg a 0) (arg a 1) (arg a 2) (arg a 3) (arg a 4) (arg32 a 5))
row CloseProtocol = fixed 4 8 (λ c a. close (arg a 0) (arg a 1) (arg a 2) (arg a 3))
row OpenProtocolInformation = fixed 4 16 (λ c a. open_protocol_information (arg a 0) (arg a 1) (arg a 2) (arg a 3))
row ProtocolsPerHandle = fixed 3 16 (λ c a. protocols_per_handle (arg a 0) (arg a 1) (arg a 2))
row LocateHandleBuffer = fixed 5 16 (λ c a. locate_handle_buffer (arg32 a 0) (arg a 1) (arg a 3) (arg a 4))
row LocateProtocol = fixed 3 16 (λ c a. locate_protocol (arg a 0) (arg a 2))
row InstallMultiple = fixed 1 16 (λ c a. install_multiple c.image (arg a 0) (first_pair c.sp))
row UninstallMultiple = fixed 1 16 (λ c a. uninstall_multiple (arg a 0) (first_pair c.sp))
row CopyMem = priced 3 (λ a. 1 + per 8 (arg a 2)) (λ c a. copy_mem (arg a 0) (arg a 1) (arg a 2))
row SetMem = priced 3 (λ a. 1 + per 8 (arg a 1)) (λ c a. set_mem (arg a 0) (arg a 1) (arg8 a 2))
row Unbuilt = unbuilt_row
-- the functions of PCI I/O (UEFI 2.8, 14.4: EFI PCI I/O Protocol)
row MemRead = priced 6 (λ a. transfer_price (arg a 4)) (λ c a. read_device (arg a 0) (arg32 a 1) (Bar (arg8 a 2)) (arg a 3) (arg a 4) (arg a 5))
row MemWrite = priced 6 (λ a. transfer_price (arg a 4)) (λ c a. write_device (arg a 0) (arg32 a 1) (Bar (arg8 a 2)) (arg a 3) (arg a 4) (arg a 5))
row PciRead = priced 5 (λ a. transfer_price (arg a 3)) (λ c a. read_device (arg a 0) (arg32 a 1) Config (arg32 a 2) (arg a 3) (arg a 4))
row PciWrite = priced 5 (λ a. transfer_price (arg a 3)) (λ c a. write_device (arg a 0) (arg32 a 1) Config (arg32 a 2) (arg a 3) (arg a 4))
row GetLocation = fixed 5 4 (λ c a. get_location (arg a 0) (arg a 1) (arg a 2) (arg a 3) (arg a 4))
row Attributes = fixed 4 4 (λ c a. attributes (arg a 0) (arg32 a 1) (arg a 2) (arg a 3))

-- ---- how a service proceeds

-- a row's change is applied; if the row stops, the state stays as it is
abbrev pub end_of_row : State → Result Change Stop → Served × State
end_of_row w (Ok change) = applied change w
end_of_row w (Err stop) = stop_answered stop w

-- A price is spent before the work. If it is more than what is left, nothing is spent.
abbrev pub with_price : ℕ → (State → Result Change Stop) → State → Served × State
with_price price work w =
    if nat_lt w.hard.units price then (Trap Budget, w)
    else end_of_row (on_hard (units_spent price) w) (work (on_hard (units_spent price) w))

-- the arguments are read, and then the row's work is done
abbrev pub with_arguments : Row → Caller → State → Result Change Stop
with_arguments row c w = slots row.slots c.sp w >>= λ a. row.rest c a w

-- a price that depends on no argument is spent before the arguments are read
abbrev pub fixed_price : Row → ℕ
fixed_price row = row.price (replicate most_arguments 0)

abbrev pub priced_first : Row → Caller → State → Served × State
priced_first row c w = with_price (fixed_price row) (with_arguments row c) w

-- a price that depends on an argument is spent after they are read
abbrev pub priced_with : Row → Caller → State → Result (List ℕ) Stop → Served × State
priced_with row c w (Ok a) = with_price (row.price a) (row.rest c a) w
priced_with row c w (Err stop) = stop_answered stop w

abbrev pub priced_after : Row → Caller → State → Served × State
priced_after row c w = priced_with row c w (slots row.slots c.sp w)

-- what a call of a service answers, and the state that it leaves
abbrev pub served : Service → Caller → State → Served × State
served s c w = if (row s).by_argument then priced_after (row s) c w else priced_first (row s) c w

-- whether a service is one of the boot services, and no function of PCI I/O
abbrev pub is_boot_service : Service → Bool
is_boot_service RaiseTpl = true
is_boot_service RestoreTpl = true
is_boot_service AllocatePool = true
is_boot_service FreePool = true
is_boot_service Install = true
is_boot_service Uninstall = true
is_boot_service HandleProtocol = true
is_boot_service LocateHandle = true
is_boot_service Stall = true
is_boot_service ConnectController = true
is_boot_service DisconnectController = true
is_boot_service OpenProtocol = true
is_boot_service CloseProtocol = true
is_boot_service OpenProtocolInformation = true
is_boot_service ProtocolsPerHandle = true
is_boot_service LocateHandleBuffer = true
is_boot_service LocateProtocol = true
is_boot_service InstallMultiple = true
is_boot_service UninstallMultiple = true
is_boot_service CopyMem = true
is_boot_service SetMem = true
is_boot_service Unbuilt = true
is_boot_service MemRead = false
is_boot_service MemWrite = false
is_boot_service PciRead = false
is_boot_service PciWrite = false
is_boot_service GetLocation = false
is_boot_service Attributes = false
