-- What holds of every soft part between changes.
use Rattle.std.specs.Prelude.{◌≡◌, ℕ, ◌+◌, ◌-◌, ◌*◌, ◌%◌, ◌^◌, ◌≤◌, ◌<◌, max, Bool, true, false, not, ◌&&◌, ◌||◌, nat_eq, nat_le, nat_lt, List, [], ◌∷◌, length, map, take, Option, Some, None, is_some}
use Rattle.std.specs.List.{list_all, list_any}
use Rattle.fw_types.specs.Guid.{known_guid}
use Rattle.fw_types.specs.declared.guid.Known.TheVariants.{LoadedImage as LoadedImageProtocol, DriverBinding, PciIo}
use Rattle.guest_memory.specs.declared.segment.Segment.{Segment}
use Rattle.guest_memory.specs.declared.segment.SegKind.{SegKind}
use Rattle.guest_memory.specs.declared.segment.SegKind.TheVariants.{Image, Pool, Firmware, Stack, Table}
use Rattle.guest_memory.specs.Segment.{has_bytes}
use Rattle.guest_memory.specs.GuestMemory.{image_with, is_of, lie_from, is_readable, is_writable_range}
use Rattle.handle_db.specs.Database.{Database, IsSound, interface_of}
use Rattle.open_records.specs.OpenRecords.{IsSound as RecordsAreSound, RecordTable}
use Rattle.fw_types.specs.declared.limits.TheConstants.{MOST_HANDLES, MOST_LEVELS, MOST_RECORDS, MOST_THUNKS}
use Rattle.guest_memory.specs.declared.address_map.TheConstants.{BLOCK_END, BUS_BINDING, CHILD_LISTS, FIRMWARE_IMAGE, FIRST_BLOCK, FIRST_IMAGE, IMAGE_END, LIST_ROOM, STACKS, STACK_SIZE, SYSTEM_TABLE, TABLES_END}
use Rattle.world_model.specs.declared.bus_child.BusChild.{BusChild}
use Rattle.world_model.specs.declared.image.LoadedImage.{LoadedImage}
use Rattle.world_model.specs.declared.thunk.Thunk.{Thunk}
use Rattle.world_model.specs.World.{Soft, bases}
use Rattle.world_model.specs.BusChildren.{is_child, pci_io_of}
use Rattle.world_model.specs.Images.{block_size}
use Rattle.world_model.specs.Interfaces.{bus_driver, firmware}
pub use Rattle.open_records.specs.Parties.{are_parties_live}
use Rattle.world_model.specs.Stacks.{has_list, has_stack}
use Rattle.world_model.specs.Tables.{tables}

-- ---- the places of segments

-- whether an address is one of those that lie a step apart after a beginning, one for each level
abbrev pub is_of_level : ℕ → ℕ → ℕ → Bool
is_of_level beginning step at =
    nat_le (beginning + step) at && nat_le at (beginning + step * MOST_LEVELS) && nat_eq ((at - beginning) % step) 0

-- whether a segment of a kind, at an address and of so many bytes, lies in the region of its kind: a table
-- at an address of its own or as a list of children, a stack at that of its level, an image before the
-- next image, and a block before the next block
abbrev pub is_in_region : ℕ → ℕ → SegKind → ℕ → ℕ → Bool
is_in_region next_image next_block Table base size =
    nat_le SYSTEM_TABLE base && nat_le (base + max 1 size) TABLES_END
    || is_of_level CHILD_LISTS LIST_ROOM base && nat_le size LIST_ROOM
is_in_region next_image next_block Stack base size = is_of_level STACKS STACK_SIZE base && nat_eq size STACK_SIZE
is_in_region next_image next_block Image base size = nat_le FIRST_IMAGE base && nat_lt 0 size && nat_le (base + size) next_image
is_in_region next_image next_block Pool base size = nat_le FIRST_BLOCK base && nat_le (base + max 1 size) next_block
is_in_region next_image next_block Firmware base size = nat_le FIRST_BLOCK base && nat_le (base + max 1 size) next_block

abbrev pub is_placed : ℕ → ℕ → Segment → Bool
is_placed next_image next_block segment = is_in_region next_image next_block segment.kind segment.base (length segment.bytes)

-- ---- images

abbrev pub bases_of : List LoadedImage → List ℕ
bases_of images = map (λ (image : LoadedImage). image.base) images

-- whether handles, addresses and blocks of images rise strictly, from the first ones on and up to the
-- next ones
abbrev pub images_rise : ℕ → ℕ → ℕ → List LoadedImage → ℕ → ℕ → ℕ → Bool
images_rise handle base block [] next_handle next_image next_block =
    nat_le handle next_handle && nat_le base next_image && nat_le block next_block
images_rise handle base block (image ∷ images) next_handle next_image next_block =
    nat_le handle image.handle && nat_le base image.base && nat_le block image.block
    && images_rise (image.handle + 1) (image.base + 1) (image.block + 1) images next_handle next_image next_block

-- whether an image's entry lies in its segment
abbrev pub has_entry : List Segment → LoadedImage → Bool
has_entry segments image =
    list_any (λ (segment : Segment). nat_eq segment.base image.base && is_of Image segment && has_bytes segment image.entry 1) segments

-- whether its loaded image block is there
abbrev pub has_block : List Segment → LoadedImage → Bool
has_block segments image =
    list_any (λ (segment : Segment). nat_eq segment.base image.block && is_of Pool segment && nat_eq (length segment.bytes) block_size) segments

abbrev pub is_address : ℕ → ℕ → Option (ℕ × ℕ) → Bool
is_address address owner None = false
is_address address owner (Some found) = nat_eq found.0 address && nat_eq found.1 owner

-- whether a handle has an interface of a protocol, with this address and owner
abbrev pub has_interface : Database → ℕ → List ℕ → ℕ → ℕ → Bool
has_interface db handle guid address owner = is_address address owner (interface_of handle guid db)

-- whether an image's handle has its loaded image block as interface
abbrev pub is_installed : Database → LoadedImage → Bool
is_installed db image = has_interface db image.handle (known_guid LoadedImageProtocol) image.block firmware

-- ---- thunks

-- whether an image has the bytes that a thunk enters
abbrev pub enters_image : List Segment → Thunk → Bool
enters_image segments thunk = is_some (image_with segments thunk.entry)

-- whether numbers of thunks rise strictly, from the first one on and up to the next one
abbrev pub numbers_rise : ℕ → List Thunk → ℕ → Bool
numbers_rise number [] next = nat_le number next
numbers_rise number (thunk ∷ thunks) next = nat_le number thunk.number && numbers_rise (thunk.number + 1) thunks next

-- ---- children of the bus

-- whether a handle has PCI I/O of the firmware
abbrev pub has_pci_io : (handle : ℕ) → Database → Bool
has_pci_io handle db = has_interface db handle (known_guid PciIo) (pci_io_of handle db) firmware

-- whether a child has PCI I/O of the firmware at its address
abbrev pub is_child_there : Database → BusChild → Bool
is_child_there db child = has_interface db child.handle (known_guid PciIo) child.pci_io firmware

-- whether a child's function is of a board with so many
abbrev pub is_on_board : (functions : ℕ) → BusChild → Bool
is_on_board functions child = nat_lt child.function functions

-- whether no two children are one handle
abbrev pub are_apart : List BusChild → Bool
are_apart [] = true
are_apart (child ∷ children) = not (list_any (is_child child.handle) children) && are_apart children

-- ---- the parts
--
-- Each part is about only the fields that it needs, so a change that leaves those fields leaves the part.

-- memory: no two segments meet, and each lies in the region of its kind; the firmware's tables are there with
-- their bytes; a level has a list of children only if it has a stack
pub record IsMemoryKept (memory : List Segment) (next_image next_block : ℕ) : Type 0 where
  pub apart : lie_from 0 memory ≡ true
  pub placed : list_all (is_placed next_image next_block) memory ≡ true
  pub tables : take 4 memory ≡ tables
  pub lists : (level : ℕ) → level ≤ MOST_LEVELS → has_list level memory ≡ true → has_stack level memory ≡ true

-- images: the segments of their kind are theirs, one each; the entry point of each lies in its segment,
-- and its loaded image block is there; handles, addresses and blocks rise up to the next ones
pub record AreImagesKept (memory : List Segment) (images : List LoadedImage) (next_handle next_image next_block : ℕ) : Type 0 where
  pub segments : bases Image memory ≡ bases_of images
  pub entry_points : list_all (has_entry memory) images ≡ true
  pub blocks : list_all (has_block memory) images ≡ true
  pub rising : images_rise 3 FIRST_IMAGE FIRST_BLOCK images next_handle next_image next_block ≡ true

-- the database: it is sound, and has the interfaces of the firmware, of the bus driver and of all images
pub record IsDatabaseKept (database : Database) (images : List LoadedImage) : Type 0 where
  pub sound : IsSound database
  pub limit : database.limit ≡ MOST_HANDLES
  pub firmware_there : has_interface database firmware (known_guid LoadedImageProtocol) FIRMWARE_IMAGE firmware ≡ true
  pub bus_driver_there : has_interface database bus_driver (known_guid DriverBinding) BUS_BINDING firmware ≡ true
  pub installed : list_all (is_installed database) images ≡ true

-- thunks: each enters an image, and no two have one number
pub record AreThunksKept (memory : List Segment) (thunks : List Thunk) (next_thunk : ℕ) : Type 0 where
  pub targets : list_all (enters_image memory) thunks ≡ true
  pub numbers : numbers_rise 0 thunks next_thunk ≡ true

-- open records: they are sound, and name interfaces and handles that are there
pub record AreRecordsKept (database : Database) (records : RecordTable) : Type 0 where
  pub sound : RecordsAreSound records
  pub limit : records.limit ≡ MOST_RECORDS
  pub parties : list_all (are_parties_live database) records.entries ≡ true

-- children of the bus: each has PCI I/O of the firmware at its address, and a function of the board, which has
-- a bus list for each; no two are one handle
pub record AreChildrenKept (database : Database) (children : List BusChild) (bus_lists : List (Option (List ℕ))) : Type 0 where
  pub installed : list_all (is_child_there database) children ≡ true
  pub functions : list_all (is_on_board (length bus_lists)) children ≡ true
  pub apart : are_apart children ≡ true

-- the next addresses and the next number are within their ranges
pub record AreRangesKept (next_image next_block next_thunk : ℕ) : Type 0 where
  pub images : next_image ≤ IMAGE_END
  pub blocks : next_block ≤ BLOCK_END
  pub thunks : next_thunk ≤ MOST_THUNKS

-- ---- all of it

pub record IsKept (soft : Soft) : Type 0 where
  pub memory : IsMemoryKept soft.memory soft.next_image soft.next_block
  pub images : AreImagesKept soft.memory soft.images soft.database.next soft.next_image soft.next_block
  pub database : IsDatabaseKept soft.database soft.images
  pub thunks : AreThunksKept soft.memory soft.thunks soft.next_thunk
  pub records : AreRecordsKept soft.database soft.records
  pub children : AreChildrenKept soft.database soft.bus_children soft.bus_lists
  pub ranges : AreRangesKept soft.next_image soft.next_block soft.next_thunk

-- ---- how large a range is

-- a range of more than 2^63 bytes can be neither read nor written: no segment has so many
abbrev pub RangesAreSmall : Type 0
RangesAreSmall =
    (soft : Soft) (at n : ℕ) → IsKept soft → 2 ^ 63 < n → (is_readable soft.memory at n ≡ false) × (is_writable_range soft.memory at n ≡ false)
