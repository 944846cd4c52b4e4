-- What holds of every soft part, as the calls on its fields leave it.
use Rattle.std.proofs.Common.{◌≡◌, ◌∙◌, ◌<◌, ◌≤◌, ℕ, ◌+◌, Bool, true, false, ◌&&◌, ◌||◌, cond, length, nat_eq, nat_lt, List, [], ◌∷◌, find, Option, Some, None, sym, subst, refl, ap, ◌++◌}
use Rattle.std.specs.Prelude.{Result, Ok, Err, OnOk, OnErr, is_ok, option_map, if◌then◌else◌}
use Rattle.std.specs.List.{list_any}
use Rattle.std.proofs.lemmas.Bool.{both_ways}
use Rattle.fw_types.specs.Guid.{known_guid}
use Rattle.fw_types.specs.declared.memory.OutOfMemory.{OutOfMemory}
use Rattle.fw_types.specs.declared.guid.Known.TheVariants.{LoadedImage as LoadedImageProtocol}
use Rattle.guest_memory.specs.declared.guest.MemRefusal.{MemRefusal}
use Rattle.guest_memory.specs.declared.segment.Segment.{Segment}
use Rattle.guest_memory.specs.declared.segment.SegKind.{SegKind}
use Rattle.guest_memory.specs.GuestMemory.{Gives as GivesWrite, beginning_at, begins, is_of, mapped, unmapped, write_answer, written}
use Rattle.handle_db.specs.declared.handle_entry.HandleEntry.{HandleEntry}
use Rattle.handle_db.specs.declared.handle_entry.Interface.{Interface}
use Rattle.handle_db.specs.declared.refusal.DbRefusal.{DbRefusal}
use Rattle.handle_db.specs.declared.refusal.Removed.{Removed}
use Rattle.handle_db.specs.Database.{Database, Gives, interfaces_in, interfaces_of, is_guid, is_handle, is_live}
use Rattle.open_records.specs.OpenRecords.{RecordTable}
use Rattle.handle_db.specs.Installing.{install_answer, installed, is_full as is_database_full}
use Rattle.handle_db.specs.Removing.{remove_answer, removed, removal_of}
use Rattle.world_model.specs.declared.bus_child.BusChild.{BusChild}
use Rattle.world_model.specs.declared.image.LoadedImage.{LoadedImage}
use Rattle.world_model.specs.declared.thunk.Thunk.{Thunk}
use Rattle.world_model.specs.World.{Soft}
use Rattle.world_model.specs.Blocks.{block_room}
use Rattle.world_model.specs.Records.{no_records}
use Rattle.world_model.specs.Interfaces.{firmware, interface_removed, is_lasting}
use Rattle.world_model.specs.CommandPath.{has_no_path, path_room, path_segment}
use Rattle.world_model.proofs.CommandPath.{setting}
use Rattle.world_model.specs.Images.{block_size, image_added, image_dropped, image_of, is_image_full, next_step, without_image, without_loaded}
use Rattle.world_model.specs.Thunks.{without_thunks}
use Rattle.world_model.specs.BusChildren.{child_function, child_noted, children_left, pci_io_of}
use Rattle.world_model.proofs.KeepingChildren.{noting}
use Rattle.world_model.specs.Kept.{IsKept, has_interface, has_pci_io, is_address, is_installed}
use Rattle.world_model.proofs.KeepingBlocks.{writing}
use Rattle.world_model.proofs.ImageLists.{found_passes}
use Rattle.world_model.proofs.KeepingImages.{adding, dropping}
use Rattle.world_model.proofs.KeepingInterfaces.{installing, uninstalling}
use Rattle.world_model.proofs.UndoRecords.{none_removed}

-- a database in which an interface was installed, or not
pub kept_installed : (soft : Soft) (who : Option ℕ) (new : Interface) (result : Result ℕ DbRefusal) (after : Database) → IsKept soft → Gives result (install_answer who new.guid soft.database)
    → OnOk result (after ≡ installed who new soft.database) → OnErr result (after ≡ soft.database) → IsKept (record soft { database = after })
kept_installed soft who new (Ok handle) after kept gives ok err =
    subst (λ (db : Database). IsKept (record soft { database = db })) (sym ok) (installing soft who new kept (ap is_ok gives))
kept_installed soft who new (Err refusal) after kept gives ok err = subst (λ (db : Database). IsKept (record soft { database = db })) (sym err) kept

-- memory with the path of a command, or not
pub kept_with_path : (soft : Soft) (bytes : List ℕ) (result : Result Unit OutOfMemory) (after : List Segment) → IsKept soft → has_no_path soft.memory ≡ true → length bytes ≤ path_room
    → OnOk result (after ≡ mapped (path_segment bytes) soft.memory) → OnErr result (after ≡ soft.memory) → IsKept (record soft { memory = after })
kept_with_path soft bytes (Ok done) after kept none few ok err = subst (λ (memory : List Segment). IsKept (record soft { memory = memory })) (sym ok) (setting soft bytes kept none few)
kept_with_path soft bytes (Err error) after kept none few ok err = subst (λ (memory : List Segment). IsKept (record soft { memory = memory })) (sym err) kept

-- segments after a write, whether it was refused or not
pub kept_written : (soft : Soft) (at n value : ℕ) (result : Result Unit MemRefusal) (after : List Segment) → IsKept soft → GivesWrite result (write_answer soft.memory at n)
    → after ≡ (if is_ok result then written soft.memory at n value else soft.memory) → IsKept (record soft { memory = after })
kept_written soft at n value (Ok done) after kept gives same =
    subst (λ (memory : List Segment). IsKept (record soft { memory = memory })) (sym same) (writing soft at n value kept gives)
kept_written soft at n value (Err refusal) after kept gives same = subst (λ (memory : List Segment). IsKept (record soft { memory = memory })) (sym same) kept

-- an entry that is found is live
found_live : (handle : ℕ) (entries : List HandleEntry) (entry : HandleEntry) → find (is_handle handle) entries ≡ Some entry → list_any (is_handle handle) entries ≡ true
found_live handle [] entry found = absurd cc
found_live handle (first ∷ entries) entry found = by_head (is_handle handle first) (λ later. found_live handle entries entry later) found
  where
    by_head : (here : Bool) → (find (is_handle handle) entries ≡ Some entry → list_any (is_handle handle) entries ≡ true) → cond here (Some first) (find (is_handle handle) entries) ≡ Some entry → (here || list_any (is_handle handle) entries) ≡ true
    by_head true later found = refl
    by_head false later found = later found

-- an interface that is there is removed
pub remove_done : (db : Database) (handle : ℕ) (guid : List ℕ) (address owner : ℕ) → has_interface db handle guid address owner ≡ true → is_ok (remove_answer handle guid db) ≡ true
remove_done db handle guid address owner has = by_entry (find (is_handle handle) db.handles) refl has
  where
    by_listed : (found : Option Interface) (interfaces : List Interface) → is_address address owner (option_map (λ (i : Interface). (i.interface, i.owner)) found) ≡ true → is_ok (removal_of interfaces guid found) ≡ true
    by_listed None interfaces has = absurd cc
    by_listed (Some i) interfaces has = refl

    by_entry : (found : Option HandleEntry) → find (is_handle handle) db.handles ≡ found → is_address address owner (option_map (λ (i : Interface). (i.interface, i.owner)) (find (is_guid guid) (interfaces_in found))) ≡ true
        → is_ok (remove_answer handle guid db) ≡ true
    by_entry None is has = absurd cc
    by_entry (Some entry) is has =
        let live : is_live handle db ≡ true = found_live handle db.handles entry is in
        let listed : interfaces_of handle db ≡ entry.interfaces = ap interfaces_in is in
        rw (live, listed) (by_listed (find (is_guid guid) entry.interfaces) entry.interfaces has)

-- ---- images

-- with only a handle
pub kept_handle : (soft : Soft) (new : Interface) (memory : List Segment) (db : Database) (images : List LoadedImage) → IsKept soft → is_database_full soft.database ≡ false
    → memory ≡ soft.memory → db ≡ installed None new soft.database → images ≡ soft.images → IsKept (record soft { memory = memory; database = db; images = images })
kept_handle soft new memory db images kept room memory_is db_is images_is =
    let accepted : is_ok (install_answer None new.guid soft.database) ≡ true = rw room refl in
    rw (memory_is, db_is, images_is) (installing soft None new kept accepted)

-- with an image
pub kept_added : (soft : Soft) (bytes : List ℕ) (entry subsystem device : ℕ) (memory : List Segment) (db : Database) (images : List LoadedImage) (next block : ℕ) → IsKept soft → entry < length bytes → is_image_full (length bytes) soft ≡ false
    → memory ≡ (image_added bytes entry subsystem device soft).memory → db ≡ (image_added bytes entry subsystem device soft).database → images ≡ (image_added bytes entry subsystem device soft).images
    → next ≡ next_step (soft.next_image + length bytes) → block ≡ soft.next_block + block_room block_size
    → IsKept (record soft { memory = memory; database = db; images = images; next_image = next; next_block = block })
kept_added soft bytes entry subsystem device memory db images next block kept inside room memory_is db_is images_is next_is block_is =
    rw (memory_is, db_is, images_is, next_is, block_is) (adding soft bytes entry subsystem device kept inside room)

-- the image of a handle, as it is looked for by its number in the slice of all images
pub image_found : (handle number : ℕ) (images slice : List LoadedImage) (found : Option LoadedImage) → number ≡ handle → slice ≡ images → found ≡ image_of number slice → image_of handle images ≡ found
image_found handle number images slice found same whole is = ap (λ (n : ℕ). image_of n images) (sym same) ∙ ap (λ (xs : List LoadedImage). image_of number xs) (sym whole) ∙ sym is

-- the interface of an image that is found is removed
pub db_dropped : (soft : Soft) (number : ℕ) (one : LoadedImage) (result : Result Removed DbRefusal) (after : Database) → IsKept soft → image_of number soft.images ≡ Some one
    → result ≡ remove_answer one.handle (known_guid LoadedImageProtocol) soft.database → OnOk result (after ≡ removed one.handle (known_guid LoadedImageProtocol) soft.database)
    → after ≡ removed one.handle (known_guid LoadedImageProtocol) soft.database
db_dropped soft number one (Ok removal) after kept found is ok = ok
db_dropped soft number one (Err refusal) after kept found is ok =
    let has = found_passes (λ (i : LoadedImage). nat_eq i.handle number) (is_installed soft.database) soft.images one found kept.database.installed in
    let done : is_ok (remove_answer one.handle (known_guid LoadedImageProtocol) soft.database) ≡ true = remove_done soft.database one.handle (known_guid LoadedImageProtocol) one.block firmware has in
    absurd (both_ways (is_ok (remove_answer one.handle (known_guid LoadedImageProtocol) soft.database)) (sym (ap is_ok is)) done)

-- without an image that is found; there are no records to be removed
pub without_is : (soft : Soft) (one : LoadedImage) → soft.records ≡ no_records
    → without_loaded (Some one) soft ≡ record soft { memory = unmapped (unmapped soft.memory one.base) one.block; database = removed one.handle (known_guid LoadedImageProtocol) soft.database; images = without_image one.handle soft.images; thunks = without_thunks (beginning_at soft.memory one.base) soft.thunks }
without_is soft one none =
    let db = removed one.handle (known_guid LoadedImageProtocol) soft.database in
    ap (λ (records : RecordTable). record soft { memory = unmapped (unmapped soft.memory one.base) one.block; database = db; records = records; images = without_image one.handle soft.images; thunks = without_thunks (beginning_at soft.memory one.base) soft.thunks })
    (none_removed one.handle (known_guid LoadedImageProtocol) db soft.records none)

pub dropped_is : (soft : Soft) (number : ℕ) (one : LoadedImage) → soft.records ≡ no_records → image_of number soft.images ≡ Some one
    → image_dropped number soft ≡ record soft { memory = unmapped (unmapped soft.memory one.base) one.block; database = removed one.handle (known_guid LoadedImageProtocol) soft.database; images = without_image one.handle soft.images; thunks = without_thunks (beginning_at soft.memory one.base) soft.thunks }
dropped_is soft number one none found = ap (λ image. without_loaded image soft) found ∙ without_is soft one none

pub kept_dropped : (soft : Soft) (number : ℕ) (one : LoadedImage) → IsKept soft → soft.records ≡ no_records → image_of number soft.images ≡ Some one
    → IsKept (record soft { memory = unmapped (unmapped soft.memory one.base) one.block; database = removed one.handle (known_guid LoadedImageProtocol) soft.database; images = without_image one.handle soft.images; thunks = without_thunks (beginning_at soft.memory one.base) soft.thunks })
kept_dropped soft number one kept none found = subst IsKept (dropped_is soft number one none found) (dropping soft number kept)

-- as the calls on the fields leave it, with the protocol as it is looked for
pub kept_without : (soft : Soft) (number : ℕ) (one : LoadedImage) (guid : List ℕ) (result : Result Removed DbRefusal) (memory : List Segment) (db : Database) (images : List LoadedImage) (thunks : List Thunk)
    → IsKept soft → soft.records ≡ no_records → image_of number soft.images ≡ Some one → guid ≡ known_guid LoadedImageProtocol → result ≡ remove_answer one.handle guid soft.database → OnOk result (db ≡ removed one.handle guid soft.database)
    → memory ≡ unmapped (unmapped soft.memory one.base) one.block → images ≡ without_image one.handle soft.images → thunks ≡ without_thunks (beginning_at soft.memory one.base) soft.thunks
    → IsKept (record soft { memory = memory; database = db; images = images; thunks = thunks })
kept_without soft number one guid result memory db images thunks kept none found known answer ok memory_is images_is thunks_is =
    let db_is : db ≡ removed one.handle (known_guid LoadedImageProtocol) soft.database = db_dropped soft number one result db kept found (rw known at answer) (rw known at ok) in
    rw (memory_is, images_is, thunks_is, db_is) (kept_dropped soft number one kept none found)

-- ---- interfaces

-- without an interface; there are no records to be removed
pub uninstalled_is : (soft : Soft) (handle : ℕ) (guid : List ℕ) → soft.records ≡ no_records
    → interface_removed handle guid soft ≡ record soft { database = removed handle guid soft.database; bus_children = children_left handle guid soft.bus_children }
uninstalled_is soft handle guid none =
    let db = removed handle guid soft.database in
    ap (λ (records : RecordTable). record soft { database = db; records = records; bus_children = children_left handle guid soft.bus_children }) (none_removed handle guid db soft.records none)

pub kept_uninstalled : (soft : Soft) (handle : ℕ) (guid : List ℕ) (db : Database) (children : List BusChild) → IsKept soft → soft.records ≡ no_records → is_lasting handle guid soft ≡ false
    → db ≡ removed handle guid soft.database → children ≡ children_left handle guid soft.bus_children → IsKept (record soft { database = db; bus_children = children })
kept_uninstalled soft handle guid db children kept none lasting db_is children_is =
    rw (db_is, children_is) (subst IsKept (uninstalled_is soft handle guid none) (uninstalling soft handle guid kept lasting))

-- ---- children of the bus

-- with one more child, for whose function there is a bus list
pub kept_noted : (soft : Soft) (handle function pci_io : ℕ) (after : List BusChild) → IsKept soft → has_pci_io handle soft.database ≡ true → child_function handle soft ≡ None → nat_lt function (length soft.bus_lists) ≡ true
    → pci_io ≡ pci_io_of handle soft.database → after ≡ soft.bus_children ++ record { handle = handle; pci_io = pci_io; function = function } ∷ []
    → IsKept (record soft { bus_children = after })
kept_noted soft handle function pci_io after kept there new room at is =
    let noted : IsKept (child_noted handle function soft) = noting soft handle function kept there new in
    rw (is, at) (rw room at noted)

-- ---- blocks

-- a segment of a kind that begins at an address is found there
pub begins_found : (kind : SegKind) (base : ℕ) (segments : List Segment) → begins kind base segments ≡ true → is_ok (beginning_at segments base) ≡ true
begins_found kind base [] there = absurd cc
begins_found kind base (s ∷ rest) there = by_head (nat_eq s.base base) (is_of kind s) there (λ later. begins_found kind base rest later)
  where
    by_head : (here own : Bool) → (here && own || begins kind base rest) ≡ true → (begins kind base rest ≡ true → is_ok (beginning_at rest base) ≡ true) → is_ok (cond here (Ok s) (beginning_at rest base)) ≡ true
    by_head true own there later = refl
    by_head false own there later = later there
