-- Configuration space as a driver first sees it (PCI Local Bus 3.0, 6.1: Configuration Space Organization;
-- PCI-to-PCI Bridge Architecture 1.2, 3.2: PCI-to-PCI Bridge Configuration Space Header).
use Rattle.std.specs.Prelude.{ℕ, ◌+◌, ◌*◌, List, [], ◌∷◌, codes, map, replicate, Option, Some, None, is_some, if◌then◌else◌}
use Rattle.byteorder.specs.Endian.{little_bytes}
use Rattle.fw_types.specs.Layout.{Field, plain_bytes, put_all, uint8, uint16, uint32}
use Rattle.pci_model.specs.BoardLines.{ranges_at}
use Rattle.pci_model.specs.declared.numbers.TheConstants.{CONFIG_SIZE}
use Rattle.pci_model.specs.declared.line.BoardLine.{BoardLine}
use Rattle.pci_model.specs.declared.function.Function.{Function}
use Rattle.pci_model.specs.declared.function.BarRange.{BarRange}
use Rattle.pci_model.specs.DeviceState.{DeviceState}
use Rattle.pci_model.specs.declared.device.BarBytes.{BarBytes}

-- the vendor ID, the device ID, the class code (the programming interface first), and the header type: 1 for
-- a bridge, 0 for another function
abbrev pub header_fields : Function → List Field
header_fields function =
    uint16 0x00 (codes "Vendor ID") function.vendor
    ∷ uint16 0x02 (codes "Device ID") function.id
    ∷ plain_bytes 0x09 (codes "Class Code") (little_bytes 3 function.class)
    ∷ uint8 0x0E (codes "Header Type") (if is_some function.secondary then 1 else 0)
    ∷ []

-- a bridge's primary, secondary and subordinate bus: the bus that it is on, and twice the one below it
abbrev pub bus_fields : ℕ → Option ℕ → List Field
bus_fields primary None = []
bus_fields primary (Some secondary) =
    uint8 0x18 (codes "Primary Bus Number") primary
    ∷ uint8 0x19 (codes "Secondary Bus Number") secondary
    ∷ uint8 0x1A (codes "Subordinate Bus Number") secondary
    ∷ []

-- a BAR, with its address
abbrev pub bar_field : BarRange → Field
bar_field range = uint32 (0x10 + 4 * range.index) (codes "Base Address Register") range.address

-- the 256 bytes of configuration space of a function with these BARs at first: 0 except for the fields
abbrev pub first_config : Function → List BarRange → List ℕ
first_config function ranges =
    put_all (map bar_field ranges)
    (put_all (bus_fields function.location.0 function.secondary) (put_all (header_fields function) (replicate CONFIG_SIZE 0)))

-- the bytes of a BAR at first
abbrev pub first_bytes : BarRange → BarBytes
first_bytes range = record { index = range.index; bytes = replicate range.size 0 }

-- the device of a function at first, by the lines of its board
abbrev pub first_device : List BoardLine → Function → DeviceState
first_device lines function =
    let ranges = ranges_at lines function.location in
    record { config = first_config function ranges; bars = map first_bytes ranges }
