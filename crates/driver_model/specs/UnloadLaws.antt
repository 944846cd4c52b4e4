-- What an unload leaves (UEFI 2.8, 7.4: EFI_BOOT_SERVICES.UnloadImage()).
use Rattle.std.specs.Prelude.{◌≡◌, ◌≢◌, ◌<◌, ℕ, suc, Bool, true, false, ◌||◌, not, nat_eq, List, [], filter, Some, None, is_some, Ok}
use Rattle.std.specs.List.{list_any}
use Rattle.fw_types.specs.Guid.{known_guid}
use Rattle.fw_types.specs.declared.guid.Known.TheVariants.{LoadedImage as LoadedImageProtocol}
use Rattle.fw_types.specs.declared.limits.TheConstants.{MOST_LEVELS}
use Rattle.fw_types.specs.declared.status.Status.{Status}
use Rattle.fw_types.specs.declared.status.TheConstants.Status.{SUCCESS}
use Rattle.guest_memory.specs.GuestMemory.{beginning_at, begins, is_readable}
use Rattle.guest_memory.specs.Segment.{has_bytes}
use Rattle.guest_memory.specs.declared.segment.SegKind.{SegKind}
use Rattle.guest_memory.specs.declared.segment.Segment.{Segment}
use Rattle.handle_db.specs.Database.{Database, interface_of, is_live}
use Rattle.handle_db.specs.declared.handle_entry.HandleEntry.{HandleEntry}
use Rattle.handle_db.specs.declared.handle_entry.Interface.{Interface}
use Rattle.open_records.specs.OpenRecords.{RecordTable}
use Rattle.open_records.specs.declared.open_record.KeyedRecord.{KeyedRecord}
use Rattle.world_model.specs.World.{Soft, State}
use Rattle.world_model.specs.Images.{image_at, image_of, without_image}
use Rattle.world_model.specs.ImageSweep.{image_swept, is_agent_of, left_of, record_stays}
use Rattle.world_model.specs.Interfaces.{is_image}
use Rattle.world_model.specs.Kept.{IsKept}
use Rattle.world_model.specs.ThunkLaws.{is_image_handle}
use Rattle.world_model.specs.Thunks.{thunk_at}
use Rattle.world_model.specs.declared.image.LoadedImage.{LoadedImage}
use Rattle.world_model.specs.declared.thunk.Thunk.{Thunk}
use Rattle.driver_model.specs.Moves.{plain}
use Rattle.driver_model.specs.Allowed.{has_sixteen}
use Rattle.driver_model.specs.CallLaws.{left_by_call}
use Rattle.driver_model.specs.Levels.{below, level_over, level_with}
use Rattle.driver_model.specs.Staying.{CanRun, Stays, fits_list}
use Rattle.driver_model.specs.Unloading.{handler_of, unload_call, unloaded}
use Rattle.driver_model.specs.declared.call.Call.{Call}
use Rattle.driver_model.specs.declared.call.Scope.{Scope}
use Rattle.driver_model.specs.declared.settings.Settings.{Settings}

-- ---- the sweep

-- the sweep of an image leaves what holds of every world
abbrev pub SweepsStay : Type 0
SweepsStay = (image : ℕ) (soft : Soft) → IsKept soft → Stays soft (image_swept image soft)

-- ---- what is removed with an image

-- whether an image owns an interface
abbrev pub owns_any : (image : ℕ) → Database → Bool
owns_any image db =
    list_any (λ (entry : HandleEntry). list_any (λ (one : Interface). nat_eq one.owner image) entry.interfaces) db.handles

-- whether there is a record whose agent was one of an image's agents in an earlier database
abbrev pub has_record_of : (image : ℕ) → (before : Database) → RecordTable → Bool
has_record_of image before table = list_any (λ (one : KeyedRecord). is_agent_of image before one.rec.agent) table.entries

-- whether a thunk enters an image
abbrev pub is_thunk_of : (image : ℕ) → Soft → Thunk → Bool
is_thunk_of image soft thunk = is_image_handle image (image_at thunk.entry soft)

-- whether a segment begins where an image's bytes or its loaded image block do
abbrev pub is_segment_of : LoadedImage → Segment → Bool
is_segment_of image segment = nat_eq segment.base image.base || nat_eq segment.base image.block

-- After its sweep an image is not loaded. It owns no interface, and has no loaded image interface. No record has an agent
-- that was one of its agents, and no thunk enters it. No segment begins where its bytes and its loaded image block began,
-- and none of their bytes can be read.
pub record IsGone (image : LoadedImage) (before after : Soft) : Type 0 where
  pub images : is_image image.handle after.images ≡ false
  pub interfaces : owns_any image.handle after.database ≡ false
  pub loaded_image : interface_of image.handle (known_guid LoadedImageProtocol) after.database ≡ None
  pub records : has_record_of image.handle before.database after.records ≡ false
  pub thunks : list_any (is_thunk_of image.handle before) after.thunks ≡ false
  pub bytes : (kind : SegKind) → begins kind image.base after.memory ≡ false
  pub block : (kind : SegKind) → begins kind image.block after.memory ≡ false
  pub unreadable : (segment : Segment) (at : ℕ) → is_segment_of image segment ≡ true → beginning_at before.memory segment.base ≡ Ok segment
      → has_bytes segment at 1 ≡ true → is_readable after.memory at 1 ≡ false

abbrev pub SweptImagesAreGone : Type 0
SweptImagesAreGone =
    (image : LoadedImage) (soft : Soft) → IsKept soft → image_of image.handle soft.images ≡ Some image
    → IsGone image soft (image_swept image.handle soft)

-- ---- what is left

-- Whatever is not the image's is as it was. An interface stays unless the image owns it or it is its loaded image
-- interface, and a handle stays live if one of its interfaces stays. A record stays if its agent is none of the image's, its
-- interface stays, and so do the handles that it names. The other images stay, the thunks that enter them, and all segments
-- that begin elsewhere.
pub record OthersStay (image : LoadedImage) (before after : Soft) : Type 0 where
  pub interfaces : (handle : ℕ) (guid : List ℕ)
      → interface_of handle guid after.database ≡ left_of image.handle handle guid (interface_of handle guid before.database)
  pub handles : (handle : ℕ) (guid : List ℕ)
      → is_some (left_of image.handle handle guid (interface_of handle guid before.database)) ≡ true → is_live handle after.database ≡ true
  pub records : after.records.entries ≡ filter (record_stays image.handle before.database after.database) before.records.entries
  pub images : after.images ≡ without_image image.handle before.images
  pub thunks : after.thunks ≡ filter (λ (thunk : Thunk). not (is_thunk_of image.handle before thunk)) before.thunks
  pub memory : (test : Segment → Bool) → ((segment : Segment) → is_segment_of image segment ≡ true → test segment ≡ false)
      → list_any test after.memory ≡ list_any test before.memory
  pub tpl : after.tpl ≡ before.tpl
  pub next_handle : after.database.next ≡ before.database.next
  pub next_image : after.next_image ≡ before.next_image
  pub next_block : after.next_block ≡ before.next_block
  pub next_thunk : after.next_thunk ≡ before.next_thunk

abbrev pub SweepsLeaveOthers : Type 0
SweepsLeaveOthers =
    (image : LoadedImage) (soft : Soft) → IsKept soft → image_of image.handle soft.images ≡ Some image
    → OthersStay image soft (image_swept image.handle soft)

-- ---- an unload, at the level below its caller's

abbrev pub status_of_unload : Settings → (room : ℕ) → Scope → (handle : ℕ) → State → Status
status_of_unload settings room scope handle w =
    (unloaded plain (level_over plain settings (level_with room) (below plain settings room)) scope handle w).0

abbrev pub left_by_unload : Settings → (room : ℕ) → Scope → (handle : ℕ) → State → State
left_by_unload settings room scope handle w =
    (unloaded plain (level_over plain settings (level_with room) (below plain settings room)) scope handle w).1

-- what the handler of an image leaves
abbrev pub left_by_handler : Settings → (room : ℕ) → Scope → LoadedImage → State → State
left_by_handler settings room scope image w =
    left_by_call settings room scope (unload_call image.handle (handler_of image w.soft)) [] w

-- An unload that does not succeed leaves the soft part as it was: it was refused, its handler failed, or the image was in
-- use after its handler.
abbrev pub UnloadsThatFailLeave : Type 0
UnloadsThatFailLeave =
    (settings : Settings) (room : ℕ) (scope : Scope) (handle : ℕ) (w : State)
    → status_of_unload settings room scope handle w ≢ SUCCESS → (left_by_unload settings room scope handle w).soft ≡ w.soft

-- What a live thunk enters after an unload lies in an image that is loaded.
abbrev pub ThunksEnterLoadedImages : Type 0
ThunksEnterLoadedImages =
    (settings : Settings) (room : ℕ) (scope : Scope) (handle at entry : ℕ) (w : State) → room < MOST_LEVELS → CanRun (level_with (suc room)) w.soft
    → thunk_at at (left_by_unload settings room scope handle w).soft ≡ Some entry
    → is_some (image_at entry (left_by_unload settings room scope handle w).soft) ≡ true

-- Driver calls unload no image: an image that is loaded is loaded after them, as it was.
abbrev pub CallsUnloadNone : Type 0
CallsUnloadNone =
    (settings : Settings) (room : ℕ) (scope : Scope) (call : Call) (children : List ℕ) (handle : ℕ) (image : LoadedImage) (w : State)
    → room < MOST_LEVELS → has_sixteen call.slots ≡ true → fits_list children ≡ true → CanRun (level_with (suc room)) w.soft
    → image_of handle w.soft.images ≡ Some image → image_of handle (left_by_call settings room scope call children w).soft.images ≡ Some image

-- An unload that succeeds is that of a loaded image. It leaves what the handler left, after the sweep.
abbrev pub UnloadsThatSucceedSweep : Type 0
UnloadsThatSucceedSweep =
    (settings : Settings) (room : ℕ) (scope : Scope) (handle : ℕ) (w : State) → status_of_unload settings room scope handle w ≡ SUCCESS
    → (image : LoadedImage)
    × (image_of handle w.soft.images ≡ Some image)
    × ((left_by_unload settings room scope handle w).soft ≡ image_swept image.handle (left_by_handler settings room scope image w).soft)

-- Nothing of the image is left then.
abbrev pub UnloadedImagesAreGone : Type 0
UnloadedImagesAreGone =
    (settings : Settings) (room : ℕ) (scope : Scope) (image : LoadedImage) (w : State)
    → room < MOST_LEVELS → CanRun (level_with (suc room)) w.soft → image_of image.handle w.soft.images ≡ Some image
    → status_of_unload settings room scope image.handle w ≡ SUCCESS
    → IsGone image (left_by_handler settings room scope image w).soft (left_by_unload settings room scope image.handle w).soft

-- Everything else is as the handler left it.
abbrev pub UnloadsLeaveOthers : Type 0
UnloadsLeaveOthers =
    (settings : Settings) (room : ℕ) (scope : Scope) (image : LoadedImage) (w : State)
    → room < MOST_LEVELS → CanRun (level_with (suc room)) w.soft → image_of image.handle w.soft.images ≡ Some image
    → status_of_unload settings room scope image.handle w ≡ SUCCESS
    → OthersStay image (left_by_handler settings room scope image w).soft (left_by_unload settings room scope image.handle w).soft
