-- Changes that take interfaces, as the calls on the fields make them.
use Rattle.std.proofs.Common.{◌≡◌, ℕ, List, filter, Option, Some, subst}
use Rattle.std.specs.Prelude.{Ok}
use Rattle.std.specs.List.{position_or_len}
use Rattle.fw_types.specs.Guid.{known_guid}
use Rattle.fw_types.specs.declared.guid.Known.TheVariants.{LoadedImage as LoadedImageProtocol}
use Rattle.guest_memory.specs.declared.segment.Segment.{Segment}
use Rattle.guest_memory.specs.GuestMemory.{beginning_at, unmapped}
use Rattle.handle_db.specs.declared.refusal.Removed.{Removed}
use Rattle.handle_db.specs.Database.{Database}
use Rattle.handle_db.specs.Removing.{remove_answer, removed}
use Rattle.world_model.specs.declared.bus_child.BusChild.{BusChild}
use Rattle.world_model.specs.declared.change.Change.TheVariants.{Uninstall, DropImage}
use Rattle.world_model.specs.declared.image.LoadedImage.{LoadedImage}
use Rattle.world_model.specs.declared.thunk.Thunk.{Thunk}
use Rattle.world_model.specs.BusChildren.{children_left}
use Rattle.world_model.specs.Images.{image_of, without_image}
use Rattle.world_model.specs.Kept.{IsKept}
use Rattle.world_model.specs.Records.{no_records}
use Rattle.world_model.specs.Thunks.{enters, without_thunks}
use Rattle.world_model.specs.UndoLaws.{IsNoted, child_gone, dropped_of, is_of_handle}
use Rattle.world_model.specs.World.{Soft}
use Rattle.soft_part.proofs.Keeps.{uninstalled_is, without_is}
use Rattle.world_model.proofs.UndoRecords.{image_gone, uninstall_is_noted}

-- an interface that was uninstalled
pub noted_uninstall : (soft : Soft) (handle : ℕ) (guid : List ℕ) (r : Removed) (child : Option (ℕ × BusChild)) (db : Database) (children : List BusChild) → IsKept soft → soft.records ≡ no_records
    → remove_answer handle guid soft.database ≡ Ok r → db ≡ removed handle guid soft.database
    → child ≡ child_gone handle guid soft.bus_children → children ≡ children_left handle guid soft.bus_children
    → IsNoted (Uninstall (record { handle = handle; guid = guid; removed = r; child = child })) soft (record soft { database = db; bus_children = children })
noted_uninstall soft handle guid r child db children kept none answer db_is child_is children_is =
    let change = Uninstall (record { handle = handle; guid = guid; removed = r; child = child_gone handle guid soft.bus_children }) in
    rw (child_is, children_is, db_is) (subst (IsNoted change soft) (uninstalled_is soft handle guid none) (uninstall_is_noted soft handle guid r kept none answer))

-- an image that was dropped
pub noted_drop : (soft : Soft) (number : ℕ) (image : LoadedImage) (segment block : Segment) (r : Removed) (thunks : List Thunk) (place : ℕ)
    (memory : List Segment) (db : Database) (images : List LoadedImage) (left : List Thunk) → IsKept soft → soft.records ≡ no_records → image_of number soft.images ≡ Some image
    → beginning_at soft.memory image.base ≡ Ok segment → beginning_at (unmapped soft.memory image.base) image.block ≡ Ok block
    → remove_answer image.handle (known_guid LoadedImageProtocol) soft.database ≡ Ok r → memory ≡ unmapped (unmapped soft.memory image.base) image.block
    → db ≡ removed image.handle (known_guid LoadedImageProtocol) soft.database → images ≡ without_image image.handle soft.images
    → left ≡ without_thunks (beginning_at soft.memory image.base) soft.thunks → thunks ≡ filter (enters segment) soft.thunks → place ≡ position_or_len (is_of_handle image.handle) soft.images
    → IsNoted (DropImage (record { image = image; place = place; segment = segment; block = block; removed = r; thunks = thunks })) soft
    (record soft { memory = memory; database = db; images = images; thunks = left })
noted_drop soft number image segment block r thunks place memory db images left kept none is found next answer memory_is db_is images_is left_is thunks_is place_is =
    let change = DropImage (dropped_of image segment block r soft) in
    rw (memory_is, images_is, left_is, thunks_is, place_is, db_is) (subst (IsNoted change soft) (without_is soft image none) (image_gone soft number image segment block r kept none is found next answer))
