-- The tables of the firmware, whose addresses are fixed.
use Rattle.std.specs.Prelude.{ℕ, List, [], ◌∷◌, replicate, codes}
use Rattle.guest_memory.specs.declared.segment.Segment.{Segment}
use Rattle.guest_memory.specs.declared.segment.SegKind.TheVariants as kind
use Rattle.fw_types.specs.declared.image.TheConstants.{BOOT_SERVICE_DRIVER}
use Rattle.fw_types.specs.Layout.{Field, put_all, uint32, uint64}
use Rattle.service_thunks.specs.Tables.{boot_table, system_table}
use Rattle.guest_memory.specs.declared.address_map.TheConstants.{BOOT_TABLE, BUS_BINDING, BUS_START, BUS_STOP, BUS_SUPPORTED, FIRMWARE_IMAGE, SYSTEM_TABLE}
use Rattle.world_model.specs.Images.{BlockContents, block_bytes}
use Rattle.world_model.specs.Interfaces.{bus_driver, firmware}

-- UEFI 2.8, 11.1: EFI Driver Binding Protocol, of the PCI bus driver
abbrev pub binding_size : ℕ
binding_size = 48

abbrev pub bus_binding_fields : List Field
bus_binding_fields =
    uint64 0 (codes "Supported") BUS_SUPPORTED
    ∷ uint64 8 (codes "Start") BUS_START
    ∷ uint64 16 (codes "Stop") BUS_STOP
    ∷ uint32 24 (codes "Version") 10
    ∷ uint64 32 (codes "ImageHandle") firmware
    ∷ uint64 40 (codes "DriverBindingHandle") bus_driver
    ∷ []

unfoldable pub bus_binding : List ℕ
bus_binding = put_all bus_binding_fields (replicate binding_size 0)

-- what the firmware's own loaded image block says: no image loaded it, and it has no bytes of its own
abbrev pub firmware_contents : BlockContents
firmware_contents = record { parent = 0; device = 0; base = 0; size = 0; subsystem = BOOT_SERVICE_DRIVER }

abbrev pub table : ℕ → List ℕ → Segment
table base bytes = record { base = base; bytes = bytes; kind = kind.Table }

-- the tables, in order of address
abbrev pub tables : List Segment
tables =
    table SYSTEM_TABLE system_table
    ∷ table BOOT_TABLE boot_table
    ∷ table BUS_BINDING bus_binding
    ∷ table FIRMWARE_IMAGE (block_bytes firmware_contents)
    ∷ []
