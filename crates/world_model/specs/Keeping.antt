-- Each single change leaves what holds of every soft part, and if it maps a segment nothing refuses that.
use Rattle.std.specs.Prelude.{◌≡◌, ℕ, ◌≤◌, ◌<◌, true, false, List, length, Option, None, Ok, is_ok, is_some}
use Rattle.guest_memory.specs.declared.segment.SegKind.{SegKind}
use Rattle.guest_memory.specs.Segment.{is_block}
use Rattle.guest_memory.specs.GuestMemory.{is_writable_range, map_answer, mapped, put_bytes, write_answer, written}
use Rattle.handle_db.specs.declared.handle_entry.Interface.{Interface}
use Rattle.handle_db.specs.Database.{Database, has, is_live}
use Rattle.fw_types.specs.Attr.{is_legal}
use Rattle.open_records.specs.OpenRecords.{IsSound as RecordsAreSound, RecordTable, records_of}
use Rattle.open_records.specs.Parties.{with_live_parties}
use Rattle.open_records.specs.Verdicts.{judge, may_enter}
use Rattle.open_records.specs.Adding.{is_full}
use Rattle.world_model.specs.World.{Soft, with_memory, with_tpl}
use Rattle.world_model.specs.Blocks.{block_added, block_freed, block_segment, free_answer, is_block_full}
use Rattle.world_model.specs.Records.{all_left, child_left, is_none_or_live, no_records, record_entered, records_left, weak_dropped, with_records}
use Rattle.world_model.specs.Interfaces.{install_answer, interface_added, interface_removed, is_lasting}
use Rattle.world_model.specs.Thunks.{thunk_answer, thunk_made}
use Rattle.world_model.specs.Images.{BlockContents, image_added, image_at, image_dropped, image_segment, is_image_full, image_block_segment}
use Rattle.world_model.specs.Stacks.{has_stack, list_segment, stack_popped, stack_pushed, stack_segment}
use Rattle.world_model.specs.ImageSweep.{image_swept}
use Rattle.world_model.specs.Kept.{AreRecordsKept, IsKept, has_pci_io}
use Rattle.world_model.specs.BusChildren.{child_function, child_noted, with_bus_list}
use Rattle.fw_types.specs.declared.limits.TheConstants.{MOST_LEVELS, MOST_LISTED, MOST_RECORDS}
use Rattle.pci_model.specs.declared.numbers.TheConstants.{MOST_ROOTS}
use Rattle.world_model.specs.Opening.{opening_soft}

-- a board has at most 16 root bridges
abbrev pub OpeningIsKept : Type 0
OpeningIsKept = (functions : ℕ) (bridges : List (ℕ × ℕ)) → length bridges ≤ MOST_ROOTS → IsKept (opening_soft functions bridges)

abbrev pub WritingKeeps : Type 0
WritingKeeps =
    (soft : Soft) (at n value : ℕ) → IsKept soft → write_answer soft.memory at n ≡ Ok tt → IsKept (with_memory (written soft.memory at n value) soft)

abbrev pub PuttingKeeps : Type 0
PuttingKeeps =
    (soft : Soft) (at : ℕ) (bytes : List ℕ) → IsKept soft → is_writable_range soft.memory at (length bytes) ≡ true → IsKept (with_memory (put_bytes soft.memory at bytes) soft)

abbrev pub TplKeeps : Type 0
TplKeeps = (soft : Soft) (tpl : ℕ) → IsKept soft → IsKept (with_tpl tpl soft)

-- ---- blocks

abbrev pub BlockFits : Type 0
BlockFits =
    (soft : Soft) (bytes : List ℕ) (kind : SegKind) → IsKept soft → is_block kind ≡ true → is_block_full (length bytes) soft ≡ false
    → map_answer soft.memory (block_segment bytes kind soft) ≡ Ok tt

abbrev pub AllottingKeeps : Type 0
AllottingKeeps =
    (soft : Soft) (bytes : List ℕ) (kind : SegKind) → IsKept soft → is_block kind ≡ true → is_block_full (length bytes) soft ≡ false
    → IsKept (block_added bytes kind soft)

abbrev pub FreeingKeeps : Type 0
FreeingKeeps =
    (soft : Soft) (at : ℕ) (kind : SegKind) → IsKept soft → is_block kind ≡ true → free_answer at kind soft ≡ Ok tt → IsKept (block_freed at soft)

-- ---- interfaces

abbrev pub InstallingKeeps : Type 0
InstallingKeeps =
    (soft : Soft) (handle : Option ℕ) (new : Interface) → IsKept soft → is_ok (install_answer handle new.guid soft) ≡ true
    → IsKept (interface_added handle new soft)

abbrev pub UninstallingKeeps : Type 0
UninstallingKeeps =
    (soft : Soft) (handle : ℕ) (guid : List ℕ) → IsKept soft → is_lasting handle guid soft ≡ false → IsKept (interface_removed handle guid soft)

-- ---- open records

-- an open of an interface that is there, by a live agent, for none or for a live controller
abbrev pub EnteringKeeps : Type 0
EnteringKeeps =
    (soft : Soft) (handle : ℕ) (guid : List ℕ) (agent controller attr : ℕ) → IsKept soft
    → has handle guid soft.database ≡ true → is_live agent soft.database ≡ true → is_none_or_live controller soft.database ≡ true
    → may_enter (judge (records_of soft.records.entries handle guid) agent controller attr) ≡ true → is_legal attr ≡ true → is_full handle guid agent controller attr soft.records ≡ false
    → IsKept (record_entered handle guid agent controller attr soft)

abbrev pub LeavingKeeps : Type 0
LeavingKeeps = (soft : Soft) (handle : ℕ) (guid : List ℕ) (agent controller : ℕ) → IsKept soft → IsKept (records_left handle guid agent controller soft)

abbrev pub AllLeavingKeeps : Type 0
AllLeavingKeeps = (soft : Soft) (handle agent : ℕ) → IsKept soft → IsKept (all_left handle agent soft)

abbrev pub ChildLeavingKeeps : Type 0
ChildLeavingKeeps = (soft : Soft) (handle agent child : ℕ) → IsKept soft → IsKept (child_left handle agent child soft)

abbrev pub WeakDroppingKeeps : Type 0
WeakDroppingKeeps = (soft : Soft) (handle : ℕ) (guid : List ℕ) → IsKept soft → IsKept (weak_dropped handle guid soft)

-- ---- images

-- first the loaded image block is mapped, then the image
abbrev pub ImageBlockFits : Type 0
ImageBlockFits =
    (soft : Soft) (size : ℕ) (contents : BlockContents) → IsKept soft → is_image_full size soft ≡ false → map_answer soft.memory (image_block_segment contents soft) ≡ Ok tt

abbrev pub ImageFits : Type 0
ImageFits =
    (soft : Soft) (bytes : List ℕ) (contents : BlockContents) → IsKept soft → 0 < length bytes → is_image_full (length bytes) soft ≡ false
    → map_answer (mapped (image_block_segment contents soft) soft.memory) (image_segment bytes soft) ≡ Ok tt

abbrev pub AddingKeeps : Type 0
AddingKeeps =
    (soft : Soft) (bytes : List ℕ) (entry subsystem device : ℕ) → IsKept soft → entry < length bytes → is_image_full (length bytes) soft ≡ false
    → IsKept (image_added bytes entry subsystem device soft)

abbrev pub DroppingKeeps : Type 0
DroppingKeeps = (soft : Soft) (handle : ℕ) → IsKept soft → IsKept (image_dropped handle soft)

abbrev pub SweepingKeeps : Type 0
SweepingKeeps = (soft : Soft) (image : ℕ) → IsKept soft → IsKept (image_swept image soft)

-- ---- open records

-- other records of handles and interfaces that are there
abbrev pub RecordsKeep : Type 0
RecordsKeep = (soft : Soft) (table : RecordTable) → IsKept soft → AreRecordsKept soft.database table → IsKept (with_records table soft)

-- if there are no records, they are kept, whatever handles and interfaces there are
abbrev pub NoRecordsAreKept : Type 0
NoRecordsAreKept = (db : Database) → AreRecordsKept db no_records

-- and so are sound records without those of handles and interfaces that are not there
abbrev pub LivePartiesAreKept : Type 0
LivePartiesAreKept = (db : Database) (table : RecordTable) → RecordsAreSound table → table.limit ≡ MOST_RECORDS → AreRecordsKept db (with_live_parties db table)

-- ---- thunks

abbrev pub MakingKeeps : Type 0
MakingKeeps =
    (soft : Soft) (entry : ℕ) → IsKept soft → is_some (image_at entry soft) ≡ true → is_ok (thunk_answer soft) ≡ true → IsKept (thunk_made entry soft)

-- ---- children of the bus

-- a handle with PCI I/O of the firmware, which is no child yet
abbrev pub NotingKeeps : Type 0
NotingKeeps =
    (soft : Soft) (handle function : ℕ) → IsKept soft → has_pci_io handle soft.database ≡ true → child_function handle soft ≡ None
    → IsKept (child_noted handle function soft)

abbrev pub BusListKeeps : Type 0
BusListKeeps = (soft : Soft) (function : ℕ) (images : List ℕ) → IsKept soft → IsKept (with_bus_list function images soft)

-- ---- stacks

abbrev pub StackFits : Type 0
StackFits =
    (soft : Soft) (level : ℕ) (slots : List ℕ) → IsKept soft → 0 < level → level ≤ MOST_LEVELS → length slots ≡ 16 → has_stack level soft.memory ≡ false
    → map_answer soft.memory (stack_segment level slots) ≡ Ok tt

-- first the stack is mapped, then the list
abbrev pub ListFits : Type 0
ListFits =
    (soft : Soft) (level : ℕ) (slots handles : List ℕ) → IsKept soft → 0 < level → level ≤ MOST_LEVELS → length slots ≡ 16 → has_stack level soft.memory ≡ false
    → length handles ≤ MOST_LISTED → map_answer (mapped (stack_segment level slots) soft.memory) (list_segment level handles) ≡ Ok tt

abbrev pub PushingKeeps : Type 0
PushingKeeps =
    (soft : Soft) (level : ℕ) (slots handles : List ℕ) → IsKept soft → 0 < level → level ≤ MOST_LEVELS → length slots ≡ 16 → has_stack level soft.memory ≡ false
    → length handles ≤ MOST_LISTED → IsKept (stack_pushed level slots handles soft)

abbrev pub PoppingKeeps : Type 0
PoppingKeeps = (soft : Soft) (level : ℕ) → IsKept soft → 0 < level → level ≤ MOST_LEVELS → IsKept (stack_popped level soft)
