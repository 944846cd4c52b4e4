-- The world of a machine: a soft part, which an undo puts back, and a hard part, which no undo touches.
use Rattle.std.specs.Prelude.{ℕ, List, map, filter, Option}
use Rattle.fw_types.specs.declared.event.Event.{Event}
use Rattle.guest_memory.specs.declared.segment.Segment.{Segment}
use Rattle.guest_memory.specs.declared.segment.SegKind.{SegKind}
use Rattle.guest_memory.specs.GuestMemory.{is_of}
use Rattle.handle_db.specs.Database.{Database}
use Rattle.open_records.specs.OpenRecords.{RecordTable}
use Rattle.pci_model.specs.Devices.{BoardState}
use Rattle.world_model.specs.declared.bus_child.BusChild.{BusChild}
use Rattle.world_model.specs.declared.image.LoadedImage.{LoadedImage}
use Rattle.world_model.specs.declared.thunk.Thunk.{Thunk}

-- the memory of drivers; the handle database; the open records; the images that are loaded, in order of
-- loading, except for the firmware's own; the live thunks, in order of making; the children of the bus, in
-- order of making; for each of the board's functions, by number, the images that its option ROM brought, or
-- none before the ROM is processed; the task priority level; the addresses at which the next image and the
-- next block will lie; and the number of the next thunk
pub record Soft : Type 0 where
  pub memory : List Segment
  pub database : Database
  pub records : RecordTable
  pub images : List LoadedImage
  pub thunks : List Thunk
  pub bus_children : List BusChild
  pub bus_lists : List (Option (List ℕ))
  pub tpl : ℕ
  pub next_image : ℕ
  pub next_block : ℕ
  pub next_thunk : ℕ

-- the units that may still be spent; the events of the command so far; the board, with the bytes of its
-- devices; and the option ROM of each of the board's functions, by number, if it has one
pub record Hard : Type 0 where
  pub units : ℕ
  pub events : List Event
  pub board : BoardState
  pub roms : List (Option (List ℕ))

pub record State : Type 0 where
  pub soft : Soft
  pub hard : Hard

-- the world: the state now, and the soft parts that its open marks keep, the newest mark's first
pub record WorldView : Type 0 where
  pub now : State
  pub marks : List Soft

-- the addresses at which the segments of a kind begin, in order
abbrev pub bases : SegKind → List Segment → List ℕ
bases kind segments = map (λ (segment : Segment). segment.base) (filter (is_of kind) segments)

-- a change of the soft part alone
abbrev pub on_soft : (Soft → Soft) → State → State
on_soft change w = record w { soft = change w.soft }

-- a change of the hard part alone
abbrev pub on_hard : (Hard → Hard) → State → State
on_hard change w = record w { hard = change w.hard }

-- other segments, as a write leaves them
abbrev pub with_memory : List Segment → Soft → Soft
with_memory segments soft = record soft { memory = segments }

-- another task priority level (UEFI 2.8, 7.1: RaiseTPL)
abbrev pub with_tpl : ℕ → Soft → Soft
with_tpl tpl soft = record soft { tpl = tpl }
