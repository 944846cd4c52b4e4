-- Which service is at which address. The firmware's tables hold addresses at which no memory is
-- mapped; a native call to one of them asks for the service.
use Rattle.std.specs.Prelude.{◌≡◌, ℕ, ◌+◌, ◌%◌, Bool, true, false, ◌&&◌, ◌||◌, nat_eq, nat_le, List, [], ◌∷◌, ◌++◌, map, Option, Some, is_some, codes}
use Rattle.std.specs.Map.{lookup}
use Rattle.guest_memory.specs.declared.address_map.TheConstants.{BOOT_SERVICES, PCI_IO_FUNCTIONS}
use Rattle.service_thunks.specs.declared.service.Service.{Service}
use Rattle.service_thunks.specs.declared.service.Service.TheVariants.{RaiseTpl, RestoreTpl, AllocatePool, FreePool, Install, Uninstall, HandleProtocol, LocateHandle, Stall, ConnectController, DisconnectController, OpenProtocol, CloseProtocol, OpenProtocolInformation, ProtocolsPerHandle, LocateHandleBuffer, LocateProtocol, InstallMultiple, UninstallMultiple, CopyMem, SetMem, MemRead, MemWrite, PciRead, PciWrite, GetLocation, Attributes, Unbuilt}

-- an entry of a table of functions: its offset, its name in the standard, and what this firmware has there
pub record Row : Type 0 where
  pub offset : ℕ
  pub name : List ℕ
  pub service : Service

abbrev pub row : ℕ → List ℕ → Service → Row
row offset name service = record { offset = offset; name = name; service = service }

-- UEFI 2.8, 4.4: EFI Boot Services Table
abbrev pub boot_services : List Row
boot_services =
    row 24 (codes "RaiseTPL") RaiseTpl
    ∷ row 32 (codes "RestoreTPL") RestoreTpl
    ∷ row 40 (codes "AllocatePages") Unbuilt
    ∷ row 48 (codes "FreePages") Unbuilt
    ∷ row 56 (codes "GetMemoryMap") Unbuilt
    ∷ row 64 (codes "AllocatePool") AllocatePool
    ∷ row 72 (codes "FreePool") FreePool
    ∷ row 80 (codes "CreateEvent") Unbuilt
    ∷ row 88 (codes "SetTimer") Unbuilt
    ∷ row 96 (codes "WaitForEvent") Unbuilt
    ∷ row 104 (codes "SignalEvent") Unbuilt
    ∷ row 112 (codes "CloseEvent") Unbuilt
    ∷ row 120 (codes "CheckEvent") Unbuilt
    ∷ row 128 (codes "InstallProtocolInterface") Install
    ∷ row 136 (codes "ReinstallProtocolInterface") Unbuilt
    ∷ row 144 (codes "UninstallProtocolInterface") Uninstall
    ∷ row 152 (codes "HandleProtocol") HandleProtocol
    ∷ row 160 (codes "Reserved") Unbuilt
    ∷ row 168 (codes "RegisterProtocolNotify") Unbuilt
    ∷ row 176 (codes "LocateHandle") LocateHandle
    ∷ row 184 (codes "LocateDevicePath") Unbuilt
    ∷ row 192 (codes "InstallConfigurationTable") Unbuilt
    ∷ row 200 (codes "LoadImage") Unbuilt
    ∷ row 208 (codes "StartImage") Unbuilt
    ∷ row 216 (codes "Exit") Unbuilt
    ∷ row 224 (codes "UnloadImage") Unbuilt
    ∷ row 232 (codes "ExitBootServices") Unbuilt
    ∷ row 240 (codes "GetNextMonotonicCount") Unbuilt
    ∷ row 248 (codes "Stall") Stall
    ∷ row 256 (codes "SetWatchdogTimer") Unbuilt
    ∷ row 264 (codes "ConnectController") ConnectController
    ∷ row 272 (codes "DisconnectController") DisconnectController
    ∷ row 280 (codes "OpenProtocol") OpenProtocol
    ∷ row 288 (codes "CloseProtocol") CloseProtocol
    ∷ row 296 (codes "OpenProtocolInformation") OpenProtocolInformation
    ∷ row 304 (codes "ProtocolsPerHandle") ProtocolsPerHandle
    ∷ row 312 (codes "LocateHandleBuffer") LocateHandleBuffer
    ∷ row 320 (codes "LocateProtocol") LocateProtocol
    ∷ row 328 (codes "InstallMultipleProtocolInterfaces") InstallMultiple
    ∷ row 336 (codes "UninstallMultipleProtocolInterfaces") UninstallMultiple
    ∷ row 344 (codes "CalculateCrc32") Unbuilt
    ∷ row 352 (codes "CopyMem") CopyMem
    ∷ row 360 (codes "SetMem") SetMem
    ∷ row 368 (codes "CreateEventEx") Unbuilt
    ∷ []

-- UEFI 2.8, 14.4: EFI PCI I/O Protocol
abbrev pub pci_io_functions : List Row
pci_io_functions =
    row 0 (codes "PollMem") Unbuilt
    ∷ row 8 (codes "PollIo") Unbuilt
    ∷ row 16 (codes "Mem.Read") MemRead
    ∷ row 24 (codes "Mem.Write") MemWrite
    ∷ row 32 (codes "Io.Read") Unbuilt
    ∷ row 40 (codes "Io.Write") Unbuilt
    ∷ row 48 (codes "Pci.Read") PciRead
    ∷ row 56 (codes "Pci.Write") PciWrite
    ∷ row 64 (codes "CopyMem") Unbuilt
    ∷ row 72 (codes "Map") Unbuilt
    ∷ row 80 (codes "Unmap") Unbuilt
    ∷ row 88 (codes "AllocateBuffer") Unbuilt
    ∷ row 96 (codes "FreeBuffer") Unbuilt
    ∷ row 104 (codes "Flush") Unbuilt
    ∷ row 112 (codes "GetLocation") GetLocation
    ∷ row 120 (codes "Attributes") Attributes
    ∷ row 128 (codes "GetBarAttributes") Unbuilt
    ∷ row 136 (codes "SetBarAttributes") Unbuilt
    ∷ []

-- each service of a table with its address, which is so many bytes from a base as the entry's offset says
abbrev pub with_addresses : ℕ → List Row → List (ℕ × Service)
with_addresses base rows = map (λ (entry : Row). (base + entry.offset, entry.service)) rows

-- every address that has a service
abbrev pub addresses : List (ℕ × Service)
addresses = with_addresses BOOT_SERVICES boot_services ++ with_addresses PCI_IO_FUNCTIONS pci_io_functions

-- the service at an address
unfoldable pub service_of : ℕ → Option Service
service_of at = lookup (nat_eq at) addresses

-- whether this firmware has the service
abbrev pub is_built : Service → Bool
is_built Unbuilt = false
is_built _ = true

-- ---- laws of the table

-- a service that this firmware has is at one address
abbrev pub OneAddress : Type 0
OneAddress = (a b : ℕ) (s : Service) → is_built s ≡ true → service_of a ≡ Some s → service_of b ≡ Some s → a ≡ b

-- there is a service at each multiple of 8 from offset 24 to 368 of the boot services, and from 0 to 136
-- of PCI I/O, and nowhere else
abbrev pub is_service_address : ℕ → Bool
is_service_address at =
    nat_eq (at % 8) 0 && (nat_le (BOOT_SERVICES + 24) at && nat_le at (BOOT_SERVICES + 368) || nat_le PCI_IO_FUNCTIONS at && nat_le at (PCI_IO_FUNCTIONS + 136))

abbrev pub ServiceAddresses : Type 0
ServiceAddresses = (at : ℕ) → is_some (service_of at) ≡ is_service_address at
