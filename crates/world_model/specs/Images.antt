-- Images: their addresses, and what the world knows of them.
use Rattle.std.specs.Prelude.{ℕ, ◌+◌, ◌-◌, ◌*◌, ◌/◌, Bool, ◌||◌, not, nat_eq, nat_lt, List, [], ◌∷◌, ◌++◌, length, filter, find, Option, Some, None, is_some, option_map, replicate, codes, Result, Ok, Err, if◌then◌else◌}
use Rattle.fw_types.specs.Guid.{known_guid}
use Rattle.fw_types.specs.declared.image.TheConstants.{RUNTIME_DRIVER}
use Rattle.fw_types.specs.declared.guid.Known.TheVariants.{LoadedImage as LoadedImageProtocol}
use Rattle.guest_memory.specs.declared.segment.Segment.{Segment}
use Rattle.guest_memory.specs.declared.segment.SegKind.TheVariants as kind
use Rattle.guest_memory.specs.GuestMemory.{beginning_at, image_with, is_full, mapped, unmapped}
use Rattle.handle_db.specs.Installing.{is_full as is_database_full, installed}
use Rattle.handle_db.specs.Removing.{removed}
use Rattle.fw_types.specs.Layout.{Field, put_all, uint32, uint64}
use Rattle.guest_memory.specs.declared.address_map.TheConstants.{IMAGE_END, IMAGE_STEP, SYSTEM_TABLE}
use Rattle.world_model.specs.declared.fault.WorldFault.{WorldFault}
use Rattle.world_model.specs.declared.fault.WorldFault.TheVariants.{Full, NotThere}
use Rattle.world_model.specs.declared.image.LoadedImage.{LoadedImage}
use Rattle.world_model.specs.World.{Soft}
use Rattle.world_model.specs.Records.{records_removed}
use Rattle.world_model.specs.Blocks.{block_segment, is_block_full, block_room}
use Rattle.world_model.specs.Interfaces.{firmware, interface}
use Rattle.world_model.specs.Thunks.{without_thunks}

-- ---- the loaded image block: UEFI 2.8, 9.1: EFI Loaded Image Protocol

-- how many bytes it has
abbrev pub block_size : ℕ
block_size = 96

-- EFI_LOADED_IMAGE_PROTOCOL_REVISION
abbrev pub block_revision : ℕ
block_revision = 0x1000

-- the types of memory that a driver's code and data have, by the image's subsystem: those of boot
-- services (EFI_MEMORY_TYPE 3 and 4), and for a runtime driver those of runtime services (5 and 6)
abbrev pub code_type : ℕ → ℕ
code_type subsystem = if nat_eq subsystem RUNTIME_DRIVER then 5 else 3

abbrev pub data_type : ℕ → ℕ
data_type subsystem = if nat_eq subsystem RUNTIME_DRIVER then 6 else 4

-- what a loaded image block says: the image's parent, the device that it was loaded from, its address
-- and size, and its subsystem
pub record BlockContents : Type 0 where
  pub parent : ℕ
  pub device : ℕ
  pub base : ℕ
  pub size : ℕ
  pub subsystem : ℕ

-- its fields; the image itself may set Unload
abbrev pub block_fields : BlockContents → List Field
block_fields contents =
    uint32 0 (codes "Revision") block_revision
    ∷ uint64 8 (codes "ParentHandle") contents.parent
    ∷ uint64 16 (codes "SystemTable") SYSTEM_TABLE
    ∷ uint64 24 (codes "DeviceHandle") contents.device
    ∷ uint64 32 (codes "FilePath") 0
    ∷ uint64 40 (codes "Reserved") 0
    ∷ uint32 48 (codes "LoadOptionsSize") 0
    ∷ uint64 56 (codes "LoadOptions") 0
    ∷ uint64 64 (codes "ImageBase") contents.base
    ∷ uint64 72 (codes "ImageSize") contents.size
    ∷ uint32 80 (codes "ImageCodeType") (code_type contents.subsystem)
    ∷ uint32 84 (codes "ImageDataType") (data_type contents.subsystem)
    ∷ uint64 88 (codes "Unload") 0
    ∷ []

unfoldable pub block_bytes : BlockContents → List ℕ
block_bytes contents = put_all (block_fields contents) (replicate block_size 0)

-- ---- adding an image

-- the first multiple of the step from an address on
abbrev pub next_step : ℕ → ℕ
next_step at = (at + (IMAGE_STEP - 1)) / IMAGE_STEP * IMAGE_STEP

-- whether one more image of so many bytes passes a limit: a new handle's, the images', or that of its
-- loaded image block
abbrev pub is_image_full : ℕ → Soft → Bool
is_image_full size soft =
    is_database_full soft.database
    || is_full soft.memory kind.Image size
    || nat_lt IMAGE_END (soft.next_image + size)
    || is_block_full block_size soft

-- what adding an image answers: its handle, which is a new one
abbrev pub add_answer : ℕ → Soft → Result ℕ WorldFault
add_answer size soft = if is_image_full size soft then Err Full else Ok soft.database.next

-- the next image, with its entry point at an offset from its beginning
abbrev pub next_loaded : ℕ → Soft → LoadedImage
next_loaded entry soft = record {
  handle = soft.database.next;
  base = soft.next_image;
  entry = soft.next_image + entry;
  block = soft.next_block;
}

-- the segment of its bytes
abbrev pub image_segment : List ℕ → Soft → Segment
image_segment bytes soft = record { base = soft.next_image; bytes = bytes; kind = kind.Image }

-- what its loaded image block says
abbrev pub block_contents : List ℕ → ℕ → ℕ → Soft → BlockContents
block_contents bytes subsystem device soft = record {
  parent = firmware;
  device = device;
  base = soft.next_image;
  size = length bytes;
  subsystem = subsystem;
}

-- the segment of its loaded image block, in the pool
abbrev pub image_block_segment : BlockContents → Soft → Segment
image_block_segment contents soft = block_segment (block_bytes contents) kind.Pool soft

-- an image at the next address, with its loaded image block as the interface of a new handle
abbrev pub image_added : List ℕ → ℕ → ℕ → ℕ → Soft → Soft
image_added bytes entry subsystem device soft = record soft {
  memory = mapped (image_segment bytes soft) (mapped (image_block_segment (block_contents bytes subsystem device soft) soft) soft.memory);
  database = installed None (interface (known_guid LoadedImageProtocol) soft.next_block firmware) soft.database;
  images = soft.images ++ next_loaded entry soft ∷ [];
  next_image = next_step (soft.next_image + length bytes);
  next_block = soft.next_block + block_room block_size;
}

-- ---- dropping an image

-- the image of a handle
abbrev pub image_of : ℕ → List LoadedImage → Option LoadedImage
image_of handle images = find (λ (image : LoadedImage). nat_eq image.handle handle) images

abbrev pub drop_answer : ℕ → Soft → Result Unit WorldFault
drop_answer handle soft = if is_some (image_of handle soft.images) then Ok tt else Err NotThere

abbrev pub without_image : ℕ → List LoadedImage → List LoadedImage
without_image handle images = filter (λ (image : LoadedImage). not (nat_eq image.handle handle)) images

-- an image is removed: its interface with the records, its bytes, its loaded image block, and the thunks
-- that enter its bytes
abbrev pub without_loaded : Option LoadedImage → Soft → Soft
without_loaded None soft = soft
without_loaded (Some image) soft = record soft {
  memory = unmapped (unmapped soft.memory image.base) image.block;
  database = removed image.handle (known_guid LoadedImageProtocol) soft.database;
  records =
      records_removed image.handle (known_guid LoadedImageProtocol) (removed image.handle (known_guid LoadedImageProtocol) soft.database)
      soft.records;
  images = without_image image.handle soft.images;
  thunks = without_thunks (beginning_at soft.memory image.base) soft.thunks;
}

abbrev pub image_dropped : ℕ → Soft → Soft
image_dropped handle soft = without_loaded (image_of handle soft.images) soft

-- ---- looking

-- the image that begins at an address, if there is one
abbrev pub image_from : Option ℕ → List LoadedImage → Option ℕ
image_from None images = None
image_from (Some base) images =
    option_map (λ (image : LoadedImage). image.handle) (find (λ (image : LoadedImage). nat_eq image.base base) images)

-- the image whose bytes an address lies in
abbrev pub image_at : ℕ → Soft → Option ℕ
image_at at soft = image_from (option_map (λ (segment : Segment). segment.base) (image_with soft.memory at)) soft.images

-- the address of an image's entry point
abbrev pub entry_of : ℕ → Soft → Option ℕ
entry_of handle soft = option_map (λ (image : LoadedImage). image.entry) (image_of handle soft.images)
