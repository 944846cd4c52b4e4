-- Installing and uninstalling leave what holds of every soft part.
use Rattle.std.proofs.Common.{◌≡◌, ◌≤◌, inl, inr, ℕ, Bool, true, false, not, ◌&&◌, ◌||◌, nat_eq, bytes_eq, List, Option, Some, None, refl, ◌∙◌, arith}
use Rattle.std.specs.List.{list_all}
use Rattle.std.proofs.lemmas.Bool.{and_cases, and_left, and_right, or_parts, not-true}
use Rattle.std.proofs.lemmas.Bool.Decides.{nat_tests}
use Rattle.fw_types.specs.Guid.{known_guid}
use Rattle.fw_types.specs.declared.guid.Known.TheVariants.{LoadedImage as LoadedImageProtocol, DriverBinding}
use Rattle.handle_db.specs.declared.handle_entry.Interface.{Interface}
use Rattle.handle_db.specs.Database.{Database}
use Rattle.handle_db.specs.Installing.{installed}
use Rattle.handle_db.specs.Removing.{removed}
use Rattle.handle_db.proofs.Keeping.{installing as installing_sound, removing as removing_sound}
use Rattle.guest_memory.specs.declared.address_map.TheConstants.{BUS_BINDING, FIRMWARE_IMAGE, FIRST_BLOCK, FIRST_IMAGE}
use Rattle.world_model.specs.declared.image.LoadedImage.{LoadedImage}
use Rattle.world_model.specs.Interfaces.{bus_driver, firmware, is_image}
use Rattle.world_model.specs.Kept.{is_installed}
use Rattle.world_model.specs.Keeping.{InstallingKeeps, UninstallingKeeps}
use Rattle.world_model.proofs.Segments.{list_all-mono, list_all-not, list_all-both}
use Rattle.world_model.proofs.ChildLists.{children-installed, children-removed}
use Rattle.world_model.proofs.Databases.{bytes-swap, has-installed, has-removed}
use Rattle.world_model.proofs.RecordParties.{records-installed, records-removed}
use Rattle.world_model.proofs.ImageLists.{images_rise-later}

-- installing leaves the interfaces of images
pub installed-more : (db : Database) (who : Option ℕ) (new : Interface) (images : List LoadedImage) → list_all (is_installed db) images ≡ true → list_all (is_installed (installed who new db)) images ≡ true
installed-more db who new images all =
    list_all-mono (is_installed db) (is_installed (installed who new db)) images
    (λ image has. has-installed db who new image.handle (known_guid LoadedImageProtocol) image.block firmware has) all

-- the number of the next handle does not fall
pub next-later : (who : Option ℕ) (new : Interface) (db : Database) → db.next ≤ (installed who new db).next
next-later None new db = omega arith
next-later (Some handle) new db = omega arith

pub limit-installed : (who : Option ℕ) (new : Interface) (db : Database) → (installed who new db).limit ≡ db.limit
limit-installed None new db = refl
limit-installed (Some handle) new db = refl

pub installing : InstallingKeeps
installing soft who new kept accepted =
    let db = soft.database in
    record {
      memory = kept.memory;
      images = record {
        segments = kept.images.segments;
        entry_points = kept.images.entry_points;
        blocks = kept.images.blocks;
        rising =
            images_rise-later 3 FIRST_IMAGE FIRST_BLOCK soft.images db.next soft.next_image soft.next_block (installed who new db).next soft.next_image soft.next_block kept.images.rising
            (record { handles = next-later who new db; bases = omega arith; blocks = omega arith });
      };
      database = record {
        sound = installing_sound who new db kept.database.sound accepted;
        limit = limit-installed who new db ∙ kept.database.limit;
        firmware_there = has-installed db who new firmware (known_guid LoadedImageProtocol) FIRMWARE_IMAGE firmware kept.database.firmware_there;
        bus_driver_there = has-installed db who new bus_driver (known_guid DriverBinding) BUS_BINDING firmware kept.database.bus_driver_there;
        installed = installed-more db who new soft.images kept.database.installed;
      };
      thunks = kept.thunks;
      records = records-installed who new db soft.records kept.records;
      children = children-installed who new soft kept.children;
      ranges = kept.ranges;
    }

-- ---- uninstalling

-- an interface that lasts is not the one that is removed
lasts : (one two : List ℕ) (a b : ℕ) → (bytes_eq one two && nat_eq a b) ≡ false → (bytes_eq two one && nat_eq b a) ≡ false
lasts one two a b other = elim (and_cases (bytes_eq one two) (nat_eq a b) other) [
  | inl guids ↦ and_left (bytes_eq two one) (nat_eq b a) (bytes-swap one two false guids)
  | inr handles ↦ and_right (bytes_eq two one) (nat_eq b a) (grind (arith, nat_tests))
]

-- of a disjunction under a test that fails each part fails under it
both_fail : (a b c : Bool) → (a && (b || c)) ≡ false → ((a && b) ≡ false) × ((a && c) ≡ false)
both_fail true false false h = (refl, refl)
both_fail true false true h = absurd cc
both_fail true true c h = absurd cc
both_fail false b c h = (refl, refl)

pub uninstalling : UninstallingKeeps
uninstalling soft handle guid kept lasting =
    let db = soft.database in
    let image_guid = known_guid LoadedImageProtocol in
    let parts = or_parts (bytes_eq guid image_guid && (nat_eq handle firmware || is_image handle soft.images)) (bytes_eq guid (known_guid DriverBinding) && nat_eq handle bus_driver) lasting in
    let two = both_fail (bytes_eq guid image_guid) (nat_eq handle firmware) (is_image handle soft.images) parts.0 in
    let opens = records-removed handle guid db soft.records kept.database.sound kept.records in
    record {
      memory = kept.memory;
      images = kept.images;
      database = record {
        sound = removing_sound handle guid db kept.database.sound;
        limit = kept.database.limit;
        firmware_there = has-removed db handle guid firmware image_guid FIRMWARE_IMAGE firmware (lasts guid image_guid handle firmware two.0) kept.database.firmware_there;
        bus_driver_there = has-removed db handle guid bus_driver (known_guid DriverBinding) BUS_BINDING firmware (lasts guid (known_guid DriverBinding) handle bus_driver parts.1) kept.database.bus_driver_there;
        installed = by_guid (bytes_eq guid image_guid) refl two.1;
      };
      thunks = kept.thunks;
      records = opens;
      children = children-removed handle guid soft kept.children;
      ranges = kept.ranges;
    }
  where
    by_guid : (same : Bool) → bytes_eq guid (known_guid LoadedImageProtocol) ≡ same → (same && is_image handle soft.images) ≡ false → list_all (is_installed (removed handle guid soft.database)) soft.images ≡ true
    by_guid true same none =
        list_all-both (λ (image : LoadedImage). not (nat_eq image.handle handle)) (is_installed soft.database) (is_installed (removed handle guid soft.database)) soft.images
        (λ image other has. has-removed soft.database handle guid image.handle (known_guid LoadedImageProtocol) image.block firmware
        (and_right (bytes_eq (known_guid LoadedImageProtocol) guid) (nat_eq image.handle handle) (not-true (nat_eq image.handle handle) other)) has)
        (list_all-not (λ (image : LoadedImage). nat_eq image.handle handle) soft.images none) kept.database.installed
    by_guid false same none =
        list_all-mono (is_installed soft.database) (is_installed (removed handle guid soft.database)) soft.images
        (λ image has. has-removed soft.database handle guid image.handle (known_guid LoadedImageProtocol) image.block firmware
        (and_left (bytes_eq (known_guid LoadedImageProtocol) guid) (nat_eq image.handle handle) (bytes-swap guid (known_guid LoadedImageProtocol) false same)) has)
        kept.database.installed
