-- What each function of PCI I/O does with its arguments (UEFI 2.8, 14.4: EFI PCI I/O Protocol).
use Rattle.std.specs.Prelude.{ℕ, ◌+◌, ◌-◌, ◌*◌, ◌/◌, ◌%◌, ◌^◌, min, Bool, ◌||◌, not, nat_eq, nat_lt, List, length, Option, Some, ok_or, Result, Ok, Err, if◌then◌else◌}
use Rattle.std.specs.Int.Bits.{bit_and, bit_or}
use Rattle.fw_types.specs.declared.status.TheConstants.Status.{INVALID_PARAMETER, SUCCESS, UNSUPPORTED}
use Rattle.pci_model.specs.BoardLines.{Location, location_of}
use Rattle.pci_model.specs.Devices.{config_read}
use Rattle.pci_model.specs.Spaces.{space_of}
use Rattle.pci_model.specs.declared.refusal.DevRefusal.{DevRefusal}
use Rattle.pci_model.specs.declared.space.Space.{Space}
use Rattle.world_model.specs.World.{State}
use Rattle.world_model.specs.BusChildren.{pci_at}
use Rattle.service_model.specs.Words.{◌>>=◌, ◌>>◌, null, readable, refuse_if, writable}
use Rattle.service_model.specs.declared.numbers.TheConstants.{ALL_ATTRIBUTES, ATTRIBUTES_ENABLE, ATTRIBUTES_GET, ATTRIBUTES_SET, ATTRIBUTES_SUPPORTED, COMMAND, LAST_BUILT_WIDTH, LAST_WIDTH, PRICED_ELEMENTS}
use Rattle.service_model.specs.declared.plan.Stop.{Stop}
use Rattle.service_model.specs.declared.plan.Stop.TheVariants.{Status}
use Rattle.service_model.specs.declared.plan.Change.{Change}
use Rattle.service_model.specs.declared.plan.Change.TheVariants.{ReadDevice, SetCommand, Store, StoreLocation, WriteDevice}
use Rattle.service_model.specs.declared.plan.Transfer.{Transfer}

-- the function of the child of the bus whose PCI I/O is at `This`
abbrev pub function_at : (this : ℕ) → State → Result ℕ Stop
function_at this w = ok_or (pci_at this w.soft) (Status INVALID_PARAMETER)

-- ---- Mem.Read, Mem.Write, Pci.Read and Pci.Write

-- four units for the call, and one for each element, up to a limit
abbrev pub transfer_price : (count : ℕ) → ℕ
transfer_price count = 4 + min count PRICED_ELEMENTS

-- How many bytes an element has, by its width (EFI_PCI_IO_PROTOCOL_WIDTH): 1, 2, 4 or 8. The widths after these
-- use one address or one element again and again. They are not built.
abbrev pub element_size : (width : ℕ) → Result ℕ Stop
element_size width =
    if nat_lt LAST_WIDTH width then Err (Status INVALID_PARAMETER)
    else if nat_lt LAST_BUILT_WIDTH width then Err (Status UNSUPPORTED)
    else Ok (2 ^ width)

-- the bytes of configuration space of a function, or of one of its BARs
abbrev pub device_space : (function : ℕ) → Space → State → Result (List ℕ) Stop
device_space function space w = ok_or (space_of w.hard.board function space) (Status UNSUPPORTED)

-- n bytes from an offset on lie in the configuration space of a function, or in one of its BARs
abbrev pub in_device : (function : ℕ) → Space → (at n : ℕ) → State → Result Unit Stop
in_device function space at n w = do
  bytes ← device_space function space w
  refuse_if (nat_lt (length bytes) (at + n)) UNSUPPORTED

abbrev pub transfer : (function : ℕ) → Space → (at n buffer : ℕ) → Transfer
transfer function space at n buffer = record { function = function; space = space; at = at; n = n; buffer = buffer }

-- elements of a device are read into a buffer
abbrev pub read_device : (this width : ℕ) → Space → (at count buffer : ℕ) → State → Result Change Stop
read_device this width space at count buffer w = do
  function ← function_at this w
  refuse_if (null buffer) INVALID_PARAMETER
  size ← element_size width
  writable (count * size) buffer w
  in_device function space at (count * size) w
  Ok (ReadDevice (transfer function space at (count * size) buffer))

-- or written from it
abbrev pub write_device : (this width : ℕ) → Space → (at count buffer : ℕ) → State → Result Change Stop
write_device this width space at count buffer w = do
  function ← function_at this w
  refuse_if (null buffer) INVALID_PARAMETER
  size ← element_size width
  readable (count * size) buffer w
  in_device function space at (count * size) w
  Ok (WriteDevice (transfer function space at (count * size) buffer))

-- ---- GetLocation

-- where a function is
abbrev pub location : (function : ℕ) → State → Result Location Stop
location function w = ok_or (location_of w.hard.board.lines function) (Status UNSUPPORTED)

-- the segment group is 0
abbrev pub get_location : (this segment bus device function : ℕ) → State → Result Change Stop
get_location this segment bus device function w = do
  number ← function_at this w
  refuse_if (null segment || null bus || null device || null function) INVALID_PARAMETER
  writable 8 segment w
  writable 8 bus w
  writable 8 device w
  writable 8 function w
  at ← location number w
  Ok (StoreLocation segment bus device function at)

-- ---- Attributes

-- what a device answers, or UNSUPPORTED
abbrev pub answered : {A : Type 0} → Result A DevRefusal → Result A Stop
answered (Ok value) = Ok value
answered (Err refusal) = Err (Status UNSUPPORTED)

-- the command register of a function (PCI Local Bus 3.0, 6.2.2)
abbrev pub command : (function : ℕ) → State → Result ℕ Stop
command function w = answered (config_read w.hard.board function COMMAND 2)

-- The attributes that a command register enables: its bit 0 is I/O, bit 1 memory and bit 2 bus master, and the
-- attributes of these are 0x100, 0x200 and 0x400.
abbrev pub attributes_in : (value : ℕ) → ℕ
attributes_in value = 0x100 * (value % 8)

-- the command register with other attributes
abbrev pub with_attributes : (bits value : ℕ) → ℕ
with_attributes bits value = 8 * (value / 8) + bits / 0x100 % 8

-- attributes that are set, or added to those that are there, or removed from them
abbrev pub attributes_after : (operation bits now : ℕ) → ℕ
attributes_after operation bits now =
    if nat_eq operation ATTRIBUTES_SET then bits
    else if nat_eq operation ATTRIBUTES_ENABLE then bit_or now bits
    else bit_and now (ALL_ATTRIBUTES - bits)

-- attributes are stored
abbrev pub store_attributes : (out : ℕ) → Result ℕ Stop → State → Result Change Stop
store_attributes out bits w = do
  refuse_if (null out) INVALID_PARAMETER
  writable 8 out w
  value ← bits
  Ok (Store (Some out) value SUCCESS)

-- attributes are changed, if all of them are supported
abbrev pub change_attributes : (function operation bits : ℕ) → State → Result Change Stop
change_attributes function operation bits w = do
  refuse_if (not (nat_eq (bit_and bits ALL_ATTRIBUTES) bits)) UNSUPPORTED
  value ← command function w
  Ok (SetCommand function (with_attributes (attributes_after operation bits (attributes_in value)) value))

abbrev pub attributes_now : (function : ℕ) → State → Result ℕ Stop
attributes_now function w = command function w >>= λ value. Ok (attributes_in value)

-- `bits` counts if attributes are changed, and `out` if they are stored
abbrev pub attributes_of : (function operation bits out : ℕ) → State → Result Change Stop
attributes_of function operation bits out w =
    if nat_eq operation ATTRIBUTES_GET then store_attributes out (attributes_now function w) w
    else if nat_eq operation ATTRIBUTES_SUPPORTED then store_attributes out (Ok ALL_ATTRIBUTES) w
    else change_attributes function operation bits w

abbrev pub attributes : (this operation bits out : ℕ) → State → Result Change Stop
attributes this operation bits out w = do
  function ← function_at this w
  refuse_if (nat_lt ATTRIBUTES_SUPPORTED operation) INVALID_PARAMETER
  attributes_of function operation bits out w
