-- An image and what belongs to it: whether it is in use, and how it is removed in one sweep (UEFI 2.8, 7.4:
-- UnloadImage).
--
-- The agents of an image are its handle and the handles whose driver binding it owns. It owns the interfaces that its code
-- installed, and the thunks that enter it.
use Rattle.std.specs.Prelude.{ℕ, Bool, ◌&&◌, ◌||◌, not, nat_eq, bytes_eq, List, filter, Option, Some, None, if◌then◌else◌}
use Rattle.fw_types.specs.Guid.{known_guid}
use Rattle.fw_types.specs.declared.guid.Known.TheVariants.{DriverBinding, LoadedImage as LoadedImageProtocol}
use Rattle.guest_memory.specs.GuestMemory.{beginning_at, unmapped}
use Rattle.handle_db.specs.Database.{Database}
use Rattle.handle_db.specs.OwnedInterfaces.{is_owned_by, without_owned}
use Rattle.open_records.specs.OpenRecords.{RecordTable}
use Rattle.open_records.specs.Parties.{are_parties_live, belongs_to, has_use_of}
use Rattle.open_records.specs.declared.open_record.KeyedRecord.{KeyedRecord}
use Rattle.world_model.specs.World.{Soft}
use Rattle.world_model.specs.Images.{image_of, without_image}
use Rattle.world_model.specs.Thunks.{without_thunks}
use Rattle.world_model.specs.declared.image.LoadedImage.{LoadedImage}

-- ---- what belongs to an image

-- whether an agent is one of an image's
abbrev pub is_agent_of : (image : ℕ) → Database → (agent : ℕ) → Bool
is_agent_of image db agent = belongs_to image (known_guid DriverBinding) db agent

-- ---- in use

-- An image is in use if one of its agents has an open record of BY_DRIVER, EXCLUSIVE or BY_CHILD_CONTROLLER, or if there
-- is such a record of an interface that it owns.
unfoldable pub is_in_use : (image : ℕ) → Soft → Bool
is_in_use image soft = has_use_of image (known_guid DriverBinding) soft.database soft.records

-- ---- the sweep

-- The interfaces that an image owns are removed, and so is its loaded image interface. A handle without interfaces is
-- gone.
abbrev pub database_without : (image : ℕ) → Database → Database
database_without image db = without_owned image (known_guid LoadedImageProtocol) db

-- A record stays if its agent is not one of the image's, its interface is still there, and the handles that it names are
-- live.
abbrev pub record_stays : (image : ℕ) → (before after : Database) → KeyedRecord → Bool
record_stays image before after one = not (is_agent_of image before one.rec.agent) && are_parties_live after one

abbrev pub records_without : (image : ℕ) → (before after : Database) → RecordTable → RecordTable
records_without image before after table = record table { entries = filter (record_stays image before after) table.entries }

-- Its bytes and its loaded image block are no longer mapped, and the thunks that enter it are gone. The blocks of the pool
-- stay.
abbrev pub swept_of : Option LoadedImage → Soft → Soft
swept_of None soft = soft
swept_of (Some image) soft = record soft {
  memory = unmapped (unmapped soft.memory image.base) image.block;
  database = database_without image.handle soft.database;
  records = records_without image.handle soft.database (database_without image.handle soft.database) soft.records;
  images = without_image image.handle soft.images;
  thunks = without_thunks (beginning_at soft.memory image.base) soft.thunks;
}

unfoldable pub image_swept : (image : ℕ) → Soft → Soft
image_swept image soft = swept_of (image_of image soft.images) soft

-- ---- what is left of an interface

-- whether a handle's interface of a protocol is the loaded image interface of an image
abbrev pub is_loaded_image_of : (image handle : ℕ) → (guid : List ℕ) → Bool
is_loaded_image_of image handle guid = nat_eq handle image && bytes_eq guid (known_guid LoadedImageProtocol)

-- what is left of a handle's interface of a protocol: nothing if the image owns it, or if it is the image's loaded image
-- interface
abbrev pub left_of : (image handle : ℕ) → (guid : List ℕ) → Option (ℕ × ℕ) → Option (ℕ × ℕ)
left_of image handle guid found = if is_owned_by image found || is_loaded_image_of image handle guid then None else found
