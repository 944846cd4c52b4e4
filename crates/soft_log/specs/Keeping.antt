-- The soft part with its log and that of the open records: the soft part now, and what the open marks keep.
use Rattle.std.specs.Prelude.{◌≡◌, ℕ, Bool, ◌&&◌, nat_le, List, [], ◌∷◌, ◌++◌, if◌then◌else◌}
use Rattle.guest_memory.specs.declared.segment.Segment.{Segment}
use Rattle.open_records.specs.OpenRecords.{RecordTable}
use Rattle.record_log.specs.MarkedRecords.{MarkedRecords}
use Rattle.undo_log.specs.Log.{Section}
use Rattle.soft_log.specs.declared.moment.Moment.{Moment}
use Rattle.world_model.specs.declared.change.Change.{Change}
use Rattle.world_model.specs.Kept.{AreRecordsKept}
use Rattle.world_model.specs.Records.{with_records}
use Rattle.world_model.specs.World.{Soft}
use Rattle.world_model.specs.Undo.{AreLevelsOf, kept_by, later_levels, without_stacks}
use Rattle.world_model.specs.UndoLaws.{CanUndo}
use Rattle.world_model.specs.BlockBytes.{emptied, is_large_block}

-- the soft part now, and the soft parts that its open marks keep, the newest mark's first
pub record MarkedSoft : Type 0 where
  pub now : Soft
  pub marks : List Soft

-- the soft part that the newest mark keeps, or now if none is open
abbrev pub newest_of : (marks : List Soft) → (now : Soft) → Soft
newest_of [] now = now
newest_of (kept ∷ older) now = kept

-- what a mark carries fits a soft part: the levels are those with a stack, and the address is that of the next block
pub record IsMomentOf (moment : Moment) (soft : Soft) : Type 0 where
  pub levels : AreLevelsOf moment.levels soft
  pub next_block : moment.next_block ≡ soft.next_block

-- What open marks keep, the newest first, by the levels that had a stack as each was made, and by the changes since: those
-- that are later than all of these marks come first.
unfoldable pub kept_from : (later : List Change) → List (Section Change Moment) → Soft → List Soft
kept_from later [] soft = []
kept_from later (mark ∷ marks) soft = kept_by mark.carried.levels (later ++ mark.changes) soft ∷ kept_from (later ++ mark.changes) marks soft

-- the changes since each mark can be taken back, and what the mark carries fits what it keeps
unfoldable pub AreKept : (later : List Change) → List (Section Change Moment) → Soft → Type 0
AreKept later [] soft = Unit {0}
AreKept later (mark ∷ marks) soft =
    CanUndo (later ++ mark.changes) (without_stacks (later_levels mark.carried.levels) soft)
    × IsMomentOf mark.carried (kept_by mark.carried.levels (later ++ mark.changes) soft)
    × AreKept (later ++ mark.changes) marks soft

-- ---- with the open records

-- soft parts, each with its records
abbrev pub merged : List RecordTable → List Soft → List Soft
merged [] softs = []
merged (table ∷ tables) [] = []
merged (table ∷ tables) (soft ∷ softs) = with_records table soft ∷ merged tables softs

-- The soft part now, from a soft part without records, its marks as the log has them, and the records with their
-- marks; and what the open marks keep.
abbrev pub marked_soft : Soft → List (Section Change Moment) → MarkedRecords → MarkedSoft
marked_soft soft marks records = record {
  now = with_records records.now soft;
  marks = merged records.marks (kept_from [] marks soft);
}

-- there are as many soft parts as records, and the records of each name interfaces and handles that it has
abbrev pub AreRecordsOf : List RecordTable → List Soft → Type 0
AreRecordsOf [] [] = Unit {0}
AreRecordsOf [] (soft ∷ softs) = ⊥
AreRecordsOf (table ∷ tables) [] = ⊥
AreRecordsOf (table ∷ tables) (soft ∷ softs) = AreRecordsKept soft.database table × AreRecordsOf tables softs

-- what holds inside: the changes since each mark can be taken back; and the records now, and those that the marks keep,
-- are records of the soft part now, and of those that the marks keep
pub record IsInside (soft : Soft) (marks : List (Section Change Moment)) (records : MarkedRecords) : Type 0 where
  pub part : AreKept [] marks soft
  pub now : AreRecordsKept soft.database records.now
  pub older : AreRecordsOf records.marks (kept_from [] marks soft)

-- ---- what is noted

-- whether a segment is a large block that was made when the next block lay at an address, or later
abbrev pub is_new_block : (next_block : ℕ) → Segment → Bool
is_new_block next_block segment = nat_le next_block segment.base && is_large_block segment.base segment

-- what is noted of a block that was freed: a large one that was made since the newest mark is noted without its bytes
abbrev pub segment_noted : List (Section Change Moment) → Segment → Segment
segment_noted [] segment = segment
segment_noted (newest ∷ older) segment = if is_new_block newest.carried.next_block segment then emptied segment else segment
