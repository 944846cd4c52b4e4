-- Each single change, made and taken back, leaves an equal soft part; and what a mark keeps stays as changes are made
-- and noted, and as stacks are pushed and popped.
use Rattle.std.specs.Prelude.{◌≡◌, ℕ, ◌<◌, ◌≤◌, Bool, true, false, not, bytes_eq, nat_eq, nat_le, filter, find, option_map, Option, Some, None, is_ok, is_some, unwrap_or, List, [], ◌∷◌, length, take, Ok, if◌then◌else◌}
use Rattle.std.specs.List.{list_all, position_or_len}
use Rattle.guest_memory.specs.declared.segment.Segment.{Segment}
use Rattle.guest_memory.specs.declared.segment.SegKind.{SegKind}
use Rattle.guest_memory.specs.Segment.{is_block}
use Rattle.guest_memory.specs.GuestMemory.{beginning_at, bytes_of, is_writable_range, put_bytes, unmapped, write_answer, written}
use Rattle.guest_memory.specs.declared.address_map.TheConstants.{FIRST_IMAGE}
use Rattle.fw_types.specs.declared.limits.TheConstants.{MOST_LEVELS}
use Rattle.fw_types.specs.Guid.{known_guid}
use Rattle.fw_types.specs.declared.guid.Known.TheVariants.{LoadedImage as LoadedImageProtocol, PciIo}
use Rattle.handle_db.specs.declared.handle_entry.Interface.{Interface}
use Rattle.handle_db.specs.declared.refusal.Removed.{Removed}
use Rattle.handle_db.specs.Database.{Database}
use Rattle.handle_db.specs.Removing.{remove_answer}
use Rattle.world_model.specs.declared.bus_child.BusChild.{BusChild}
use Rattle.world_model.specs.declared.change.DroppedImage.{DroppedImage}
use Rattle.world_model.specs.declared.image.LoadedImage.{LoadedImage}
use Rattle.world_model.specs.Records.{no_records}
use Rattle.handle_db.specs.Undoing.{HasRoomFor, IsInstalledLast}
use Rattle.world_model.specs.declared.change.Change.{Change}
use Rattle.world_model.specs.declared.change.Change.TheVariants.{SetTpl, Write, Put, Allot, Free, Install, Uninstall, DropImage, AddImage, MakeThunk, NoteChild, SetBusList}
use Rattle.world_model.specs.declared.stack_levels.StackLevels.{StackLevels}
use Rattle.world_model.specs.World.{Soft, with_memory, with_tpl}
use Rattle.world_model.specs.Blocks.{block_added, block_freed, free_answer}
use Rattle.world_model.specs.BusChildren.{child_noted, is_child, rom_images, with_bus_list}
use Rattle.world_model.specs.Images.{image_added, image_dropped, image_of, is_image_full, next_loaded}
use Rattle.world_model.specs.Interfaces.{install_answer, interface_added, interface_removed}
use Rattle.world_model.specs.Marks.{stacks}
use Rattle.world_model.specs.Stacks.{has_stack, stack_popped, stack_pushed}
use Rattle.world_model.specs.Thunks.{enters, thunk_made}
use Rattle.world_model.specs.Undo.{had_stack, later_levels, taken_back, undone, without_stacks}
use Rattle.world_model.specs.Kept.{IsKept}

-- ---- a change that was noted

-- the addresses at which taking a change back maps or unmaps
abbrev pub addresses_in : Change → List ℕ
addresses_in (SetTpl before) = []
addresses_in (Write at n before) = []
addresses_in (Put at before) = []
addresses_in (Allot at) = at ∷ []
addresses_in (Free segment) = segment.base ∷ []
addresses_in (Install handle guid made) = []
addresses_in (Uninstall went) = []
addresses_in (DropImage dropped) = dropped.segment.base ∷ dropped.block.base ∷ []
addresses_in (AddImage image) = image.base ∷ image.block ∷ []
addresses_in MakeThunk = []
addresses_in (NoteChild count) = []
addresses_in (SetBusList function before) = []

-- the database is one from which a change can be taken back
abbrev pub Fits : Change → Database → Type 0
Fits (SetTpl before) db = Unit {0}
Fits (Write at n before) db = Unit {0}
Fits (Put at before) db = Unit {0}
Fits (Allot at) db = Unit {0}
Fits (Free segment) db = Unit {0}
Fits (Install handle guid made) db = IsInstalledLast handle guid made db
Fits (Uninstall went) db = HasRoomFor went.handle went.guid went.removed db
Fits (DropImage dropped) db = HasRoomFor dropped.image.handle (known_guid LoadedImageProtocol) dropped.removed db
Fits (AddImage image) db = IsInstalledLast image.handle (known_guid LoadedImageProtocol) true db
Fits MakeThunk db = Unit {0}
Fits (NoteChild count) db = Unit {0}
Fits (SetBusList function before) db = Unit {0}

-- a change from one soft part to another was noted: taken back, it leaves the one before; it has nothing to do with stacks;
-- the address of the next block does not fall
pub record IsNoted (change : Change) (before after : Soft) : Type 0 where
  pub back : taken_back change after ≡ before
  pub stacks : stacks after ≡ stacks before
  pub rises : before.next_block ≤ after.next_block
  pub fits : Fits change after.database
  pub beside : list_all (nat_le FIRST_IMAGE) (addresses_in change) ≡ true

-- a change can be taken back: what holds of every soft part holds of the one before, which has the same stacks; the address
-- of the next block does not rise
pub record CanTakeBack (change : Change) (soft : Soft) : Type 0 where
  pub kept : IsKept (taken_back change soft)
  pub stacks : stacks (taken_back change soft) ≡ stacks soft
  pub rises : (taken_back change soft).next_block ≤ soft.next_block
  pub fits : Fits change soft.database
  pub beside : list_all (nat_le FIRST_IMAGE) (addresses_in change) ≡ true

-- some changes can be taken back one after another, the last of which comes first
abbrev pub CanUndo : List Change → Soft → Type 0
CanUndo [] soft = Unit {0}
CanUndo (change ∷ changes) soft = CanTakeBack change soft × CanUndo changes (taken_back change soft)

-- ---- each change, taken back
--
-- A change that removes open records is taken back only if there are none: they have a log of their own.

abbrev pub TplIsNoted : Type 0
TplIsNoted = (soft : Soft) (tpl : ℕ) → IsNoted (SetTpl soft.tpl) soft (with_tpl tpl soft)

abbrev pub WriteIsNoted : Type 0
WriteIsNoted =
    (soft : Soft) (at n value : ℕ) (before : List ℕ) → IsKept soft → write_answer soft.memory at n ≡ Ok tt → take n before ≡ bytes_of soft.memory at n
    → IsNoted (Write at n before) soft (with_memory (written soft.memory at n value) soft)

abbrev pub PutIsNoted : Type 0
PutIsNoted =
    (soft : Soft) (at : ℕ) (bytes : List ℕ) → IsKept soft → is_writable_range soft.memory at (length bytes) ≡ true
    → IsNoted (Put at (bytes_of soft.memory at (length bytes))) soft (with_memory (put_bytes soft.memory at bytes) soft)

abbrev pub AllotIsNoted : Type 0
AllotIsNoted = (soft : Soft) (bytes : List ℕ) (kind : SegKind) → IsKept soft → is_block kind ≡ true → IsNoted (Allot soft.next_block) soft (block_added bytes kind soft)

abbrev pub FreeIsNoted : Type 0
FreeIsNoted =
    (soft : Soft) (at : ℕ) (kind : SegKind) (segment : Segment) → IsKept soft → is_block kind ≡ true → free_answer at kind soft ≡ Ok tt → beginning_at soft.memory at ≡ Ok segment
    → IsNoted (Free segment) soft (block_freed at soft)

abbrev pub InstallIsNoted : Type 0
InstallIsNoted =
    (soft : Soft) (given : Option ℕ) (new : Interface) → IsKept soft → is_ok (install_answer given new.guid soft) ≡ true
    → IsNoted (Install (unwrap_or given soft.database.next) new.guid (not (is_some given))) soft (interface_added given new soft)

-- the child of the bus that is removed with an interface of a protocol, and its place
abbrev pub child_gone : (handle : ℕ) → (guid : List ℕ) → List BusChild → Option (ℕ × BusChild)
child_gone handle guid children =
    if bytes_eq guid (known_guid PciIo)
    then option_map (λ (child : BusChild). (position_or_len (is_child handle) children, child)) (find (is_child handle) children)
    else None

abbrev pub UninstallIsNoted : Type 0
UninstallIsNoted =
    (soft : Soft) (handle : ℕ) (guid : List ℕ) (removed : Removed) → IsKept soft → soft.records ≡ no_records → remove_answer handle guid soft.database ≡ Ok removed
    → IsNoted (Uninstall (record { handle = handle; guid = guid; removed = removed; child = child_gone handle guid soft.bus_children })) soft (interface_removed handle guid soft)

-- whether an image is that of a handle
abbrev pub is_of_handle : (handle : ℕ) → LoadedImage → Bool
is_of_handle handle image = nat_eq image.handle handle

-- an image that is dropped, with what belongs to it
abbrev pub dropped_of : LoadedImage → Segment → Segment → Removed → Soft → DroppedImage
dropped_of image segment block removed soft = record {
  image = image;
  place = position_or_len (is_of_handle image.handle) soft.images;
  segment = segment;
  block = block;
  removed = removed;
  thunks = filter (enters segment) soft.thunks;
}

abbrev pub DropImageIsNoted : Type 0
DropImageIsNoted =
    (soft : Soft) (handle : ℕ) (image : LoadedImage) (segment block : Segment) (removed : Removed) → IsKept soft → soft.records ≡ no_records → image_of handle soft.images ≡ Some image
    → beginning_at soft.memory image.base ≡ Ok segment → beginning_at (unmapped soft.memory image.base) image.block ≡ Ok block
    → remove_answer image.handle (known_guid LoadedImageProtocol) soft.database ≡ Ok removed
    → IsNoted (DropImage (dropped_of image segment block removed soft)) soft (image_dropped handle soft)

abbrev pub AddImageIsNoted : Type 0
AddImageIsNoted =
    (soft : Soft) (bytes : List ℕ) (entry subsystem device : ℕ) → IsKept soft → is_image_full (length bytes) soft ≡ false
    → IsNoted (AddImage (next_loaded entry soft)) soft (image_added bytes entry subsystem device soft)

abbrev pub ThunkIsNoted : Type 0
ThunkIsNoted = (soft : Soft) (entry : ℕ) → IsNoted MakeThunk soft (thunk_made entry soft)

abbrev pub ChildIsNoted : Type 0
ChildIsNoted = (soft : Soft) (handle function : ℕ) → IsNoted (NoteChild (length soft.bus_children)) soft (child_noted handle function soft)

abbrev pub BusListIsNoted : Type 0
BusListIsNoted = (soft : Soft) (function : ℕ) (images : List ℕ) → IsNoted (SetBusList function (rom_images function soft)) soft (with_bus_list function images soft)

-- ---- what a mark keeps

-- a change that was noted can be taken back without the stacks of later levels, with the same result
abbrev pub NotedBesideStacks : Type 0
NotedBesideStacks =
    (change : Change) (before after : Soft) (levels : StackLevels) → IsKept before → IsKept after → IsNoted change before after
    → (taken_back change (without_stacks (later_levels levels) after) ≡ without_stacks (later_levels levels) before) × CanTakeBack change (without_stacks (later_levels levels) after)

-- taking back a change that maps and unmaps nothing below the images gives the same without the stacks of later levels
abbrev pub TakenBesideStacks : Type 0
TakenBesideStacks =
    (change : Change) (soft : Soft) (levels : StackLevels) → IsKept soft → list_all (nat_le FIRST_IMAGE) (addresses_in change) ≡ true
    → taken_back change (without_stacks (later_levels levels) soft) ≡ without_stacks (later_levels levels) (taken_back change soft)

-- pushing or popping the stack of a later level changes nothing once those stacks are left out
abbrev pub PushedIsLeftOut : Type 0
PushedIsLeftOut =
    (soft : Soft) (levels : StackLevels) (level : ℕ) (slots handles : List ℕ) → 0 < level → level ≤ MOST_LEVELS → had_stack levels level ≡ false
    → without_stacks (later_levels levels) (stack_pushed level slots handles soft) ≡ without_stacks (later_levels levels) soft

abbrev pub PoppedIsLeftOut : Type 0
PoppedIsLeftOut =
    (soft : Soft) (levels : StackLevels) (level : ℕ) → 0 < level → level ≤ MOST_LEVELS → had_stack levels level ≡ false
    → without_stacks (later_levels levels) (stack_popped level soft) ≡ without_stacks (later_levels levels) soft

-- if no later level has a stack, nothing is left out
abbrev pub NoneIsLeftOut : Type 0
NoneIsLeftOut =
    (soft : Soft) (levels : StackLevels) → IsKept soft → ((level : ℕ) → 0 < level → level ≤ MOST_LEVELS → had_stack levels level ≡ false → has_stack level soft.memory ≡ false)
    → without_stacks (later_levels levels) soft ≡ soft

-- a stack that is not left out was there before
abbrev pub LeftStackIsThere : Type 0
LeftStackIsThere =
    (soft : Soft) (levels : StackLevels) (level : ℕ) → has_stack level soft.memory ≡ false → has_stack level (without_stacks (later_levels levels) soft).memory ≡ false

-- changes that can be taken back leave the stacks
abbrev pub UndoingLeavesStacks : Type 0
UndoingLeavesStacks = (changes : List Change) (soft : Soft) → CanUndo changes soft → stacks (undone changes soft) ≡ stacks soft
