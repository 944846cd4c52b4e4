-- The tables that the firmware shows to drivers, as bytes (UEFI 2.8, 4.3: EFI System Table).
use Rattle.std.specs.Prelude.{ℕ, ◌+◌, List, [], ◌∷◌, ◌++◌, map, replicate, codes}
use Rattle.fw_types.specs.Layout.{Field, put_all, uint32, uint64}
use Rattle.guest_memory.specs.declared.address_map.TheConstants.{BOOT_SERVICES, BOOT_TABLE, SYSTEM_TABLE}
use Rattle.service_thunks.specs.Services.{Row, boot_services}

-- revision 2.80
abbrev pub revision : ℕ
revision = 0x00020050

-- UEFI 2.8, 4.2: EFI Table Header. The CRC is not computed.
abbrev pub header_fields : ℕ → ℕ → List Field
header_fields signature size =
    uint64 0 (codes "Signature") signature
    ∷ uint32 8 (codes "Revision") revision
    ∷ uint32 12 (codes "HeaderSize") size
    ∷ uint32 16 (codes "CRC32") 0
    ∷ uint32 20 (codes "Reserved") 0
    ∷ []

-- the sizes of the two tables, in bytes
abbrev pub system_table_size : ℕ
system_table_size = 120

abbrev pub boot_table_size : ℕ
boot_table_size = 376

-- 'IBI SYST' and 'BOOTSERV', lowest byte first
abbrev pub system_signature : ℕ
system_signature = 0x5453595320494249

abbrev pub boot_signature : ℕ
boot_signature = 0x56524553544f4f42

-- The vendor is the empty string right after the table. There is no console, no runtime service and no
-- configuration table.
abbrev pub system_fields : List Field
system_fields =
    uint64 24 (codes "FirmwareVendor") (SYSTEM_TABLE + system_table_size)
    ∷ uint32 32 (codes "FirmwareRevision") 1
    ∷ uint64 40 (codes "ConsoleInHandle") 0
    ∷ uint64 48 (codes "ConIn") 0
    ∷ uint64 56 (codes "ConsoleOutHandle") 0
    ∷ uint64 64 (codes "ConOut") 0
    ∷ uint64 72 (codes "StandardErrorHandle") 0
    ∷ uint64 80 (codes "StdErr") 0
    ∷ uint64 88 (codes "RuntimeServices") 0
    ∷ uint64 96 (codes "BootServices") BOOT_TABLE
    ∷ uint64 104 (codes "NumberOfTableEntries") 0
    ∷ uint64 112 (codes "ConfigurationTable") 0
    ∷ []

-- each boot service's address
abbrev pub service_field : Row → Field
service_field entry = uint64 entry.offset entry.name (BOOT_SERVICES + entry.offset)

abbrev pub service_fields : List Row → List Field
service_fields rows = map service_field rows

-- the system table, and the 8 bytes after it, in which the vendor's string is empty
unfoldable pub system_table : List ℕ
system_table = put_all (header_fields system_signature system_table_size ++ system_fields) (replicate (system_table_size + 8) 0)

-- the boot services table: its header, and an address for each service
unfoldable pub boot_table : List ℕ
boot_table = put_all (header_fields boot_signature boot_table_size ++ service_fields boot_services) (replicate boot_table_size 0)
