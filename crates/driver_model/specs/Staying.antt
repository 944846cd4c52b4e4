-- What activations, driver calls, runs, loads and unloads leave, at all levels: what holds of every world still holds,
-- the same stacks are there, and no byte of a segment that code may not write changes while the segment is mapped.
use Rattle.std.specs.Prelude.{◌≡◌, ◌<◌, ◌≤◌, ℕ, suc, ◌-◌, Bool, true, ◌||◌, ◌&&◌, nat_le, List, [], length}
use Rattle.std.specs.List.{list_all}
use Rattle.guest_memory.specs.Segment.{is_writable}
use Rattle.guest_memory.specs.GuestMemory.{is_of}
use Rattle.guest_memory.specs.declared.segment.SegKind.TheVariants.{Firmware}
use Rattle.guest_memory.specs.declared.segment.Segment.{Segment}
use Rattle.ebc_machine.specs.declared.cpu.Cpu.{Cpu}
use Rattle.fw_types.specs.declared.limits.TheConstants.{MOST_LEVELS, MOST_LISTED}
use Rattle.world_model.specs.World.{Soft, State}
use Rattle.world_model.specs.Kept.{IsKept}
use Rattle.world_model.specs.CommandPath.{has_no_path, has_path_at_most}
use Rattle.world_model.specs.Marks.{stacks}
use Rattle.world_model.specs.Levels.{is_free}
use Rattle.service_model.specs.declared.call.HandleInterface.{HandleInterface}
use Rattle.service_model.specs.declared.call.Reentry.{Reentry}
use Rattle.service_model.specs.declared.call.Removal.{Removal}
use Rattle.driver_model.specs.Moves.{changed, plain, steps}
use Rattle.driver_model.specs.Allowed.{has_sixteen}
use Rattle.driver_model.specs.Connect.{connect}
use Rattle.driver_model.specs.Disconnect.{disconnect}
use Rattle.driver_model.specs.OpenWithRemoval.{removed}
use Rattle.driver_model.specs.UninstallWithReconnection.{many_uninstalled, uninstalled}
use Rattle.driver_model.specs.GoingOn.{reentered}
use Rattle.driver_model.specs.GuestRun.{run, turn}
use Rattle.driver_model.specs.DriverCall.{called, thunk_ran}
use Rattle.driver_model.specs.ImageLife.{image_loaded}
use Rattle.driver_model.specs.Unloading.{unloaded}
use Rattle.driver_model.specs.Levels.{below, level_over, level_with}
use Rattle.driver_model.specs.declared.call.Call.{Call}
use Rattle.driver_model.specs.declared.call.Scope.{Scope}
use Rattle.driver_model.specs.declared.request.Connection.{Connection}
use Rattle.driver_model.specs.declared.request.Disconnection.{Disconnection}
use Rattle.driver_model.specs.declared.request.Remover.TheVariants.{ADriver}
use Rattle.driver_model.specs.declared.settings.Settings.{Settings}

-- ---- the statement

-- whether a test holds of a segment, if no code may write the segment
abbrev pub if_fixed : (Segment → Bool) → Segment → Bool
if_fixed test segment = is_writable segment.kind || test segment

-- whether a segment is a block of the firmware that was made later
abbrev pub is_later_block : (old : Soft) → Segment → Bool
is_later_block old segment = is_of Firmware segment && nat_le old.next_block segment.base

-- Whatever holds of each segment that code may not write, with its address and its bytes, holds of each such segment
-- later too, except for blocks of the firmware that were made since.
abbrev pub KeepsBytes : (old new : Soft) → Type 0
KeepsBytes old new =
    (test : Segment → Bool) → list_all (if_fixed test) old.memory ≡ true
    → list_all (if_fixed (λ (segment : Segment). test segment || is_later_block old segment)) new.memory ≡ true

pub record Stays (old new : Soft) : Type 0 where
  pub kept : IsKept new
  pub stacks : stacks new ≡ stacks old
  pub later : old.next_block ≤ new.next_block
  pub bytes : KeepsBytes old new

-- what must hold of the soft part in which something is done at a level: no stack of a later level is there
pub record CanRun (level : ℕ) (soft : Soft) : Type 0 where
  pub kept : IsKept soft
  pub free : is_free (MOST_LEVELS - level) (stacks soft) [] ≡ true

abbrev pub fits_list : (children : List ℕ) → Bool
fits_list children = nat_le (length children) MOST_LISTED

-- ---- driver calls, thunks and runs, with so many levels below

abbrev pub CallsStay : Type 0
CallsStay =
    (settings : Settings) (room : ℕ) (scope : Scope) (call : Call) (children : List ℕ) (w : State)
    → room < MOST_LEVELS → has_sixteen call.slots ≡ true → fits_list children ≡ true → CanRun (level_with (suc room)) w.soft
    → Stays w.soft (called plain settings (below plain settings room) (level_with room) scope call children w).1.soft

abbrev pub ThunksStay : Type 0
ThunksStay =
    (settings : Settings) (room : ℕ) (scope : Scope) (entry : ℕ) (slots : List ℕ) (w : State)
    → room < MOST_LEVELS → has_sixteen slots ≡ true → CanRun (level_with (suc room)) w.soft
    → Stays w.soft (thunk_ran plain settings (below plain settings room) (level_with room) scope entry slots w).1.soft

abbrev pub RunsStay : Type 0
RunsStay =
    (settings : Settings) (room : ℕ) (scope : Scope) (level : ℕ) (cpu : Cpu) (w : State) → room ≤ MOST_LEVELS → CanRun (level_with room) w.soft
    → Stays w.soft (run plain settings (below plain settings room) scope level cpu w).1.soft

abbrev pub TurnsStay : Type 0
TurnsStay =
    (settings : Settings) (room : ℕ) (scope : Scope) (level : ℕ) (cpu : Cpu) (w : State) → room ≤ MOST_LEVELS → CanRun (level_with room) w.soft
    → Stays w.soft (turn plain settings (below plain settings room) scope level cpu w).world.soft

-- ---- activations, and services that go on

abbrev pub ConnectsStay : Type 0
ConnectsStay =
    (settings : Settings) (room : ℕ) (scope : Scope) (c : Connection) (context : List ℕ) (w : State) → room ≤ MOST_LEVELS → CanRun (level_with room) w.soft
    → Stays w.soft (connect plain settings (below plain settings room) scope c context w).1.soft

abbrev pub DisconnectsStay : Type 0
DisconnectsStay =
    (settings : Settings) (room : ℕ) (scope : Scope) (d : Disconnection) (w : State) → room ≤ MOST_LEVELS → CanRun (level_with room) w.soft
    → Stays w.soft (disconnect plain (below plain settings room) scope d w).1.soft

abbrev pub RemovalsStay : Type 0
RemovalsStay =
    (settings : Settings) (room : ℕ) (scope : Scope) (removal : Removal) (w : State) → room ≤ MOST_LEVELS → CanRun (level_with room) w.soft
    → Stays w.soft (removed plain (below plain settings room) scope removal w).1.soft

abbrev pub UninstallsStay : Type 0
UninstallsStay =
    (settings : Settings) (room : ℕ) (scope : Scope) (i : HandleInterface) (w : State) → room ≤ MOST_LEVELS → CanRun (level_with room) w.soft
    → Stays w.soft (uninstalled plain settings (below plain settings room) scope ADriver i w).1.soft

abbrev pub ManyUninstallsStay : Type 0
ManyUninstallsStay =
    (settings : Settings) (room : ℕ) (scope : Scope) (interfaces : List HandleInterface) (w : State) → room ≤ MOST_LEVELS → CanRun (level_with room) w.soft
    → Stays w.soft (many_uninstalled plain settings (below plain settings room) scope interfaces w).1.soft

abbrev pub ServicesGoingOnStay : Type 0
ServicesGoingOnStay =
    (settings : Settings) (room : ℕ) (scope : Scope) (reentry : Reentry) (w : State) → room ≤ MOST_LEVELS → CanRun (level_with room) w.soft
    → Stays w.soft (reentered plain settings (below plain settings room) scope reentry w).1.soft

-- ---- loads and unloads, at the level below the caller's

abbrev pub LoadsStay : Type 0
LoadsStay =
    (settings : Settings) (room : ℕ) (scope : Scope) (file : List ℕ) (device : ℕ) (w : State) → room < MOST_LEVELS → CanRun (level_with (suc room)) w.soft
    → Stays w.soft (image_loaded plain (level_over plain settings (level_with room) (below plain settings room)) scope file device w).world.soft

abbrev pub UnloadsStay : Type 0
UnloadsStay =
    (settings : Settings) (room : ℕ) (scope : Scope) (handle : ℕ) (w : State) → room < MOST_LEVELS → CanRun (level_with (suc room)) w.soft
    → Stays w.soft (unloaded plain (level_over plain settings (level_with room) (below plain settings room)) scope handle w).1.soft

-- ---- how it begins, and what code needs of it

-- between commands no stack is there, so a command can run
abbrev pub RestCanRun : Type 0
RestCanRun = (soft : Soft) → IsKept soft → stacks soft ≡ [] → CanRun (level_with MOST_LEVELS) soft

-- what was free is free later
abbrev pub FreeStays : Type 0
FreeStays = (old new : Soft) (room : ℕ) (marks : List Soft) → Stays old new → is_free room (stacks old) marks ≡ true → is_free room (stacks new) marks ≡ true

-- In the place for the device path of a command, there is nothing later if nothing was there, and only the path if only
-- the path was there.
abbrev pub NoPathStays : Type 0
NoPathStays = (old new : Soft) → Stays old new → has_no_path old.memory ≡ true → has_no_path new.memory ≡ true

abbrev pub PathStaysAlone : Type 0
PathStaysAlone = (old new : Soft) → Stays old new → has_path_at_most old.memory ≡ true → has_path_at_most new.memory ≡ true

-- a step leaves all stacks
abbrev pub StepsLeaveStacks : Type 0
StepsLeaveStacks = (cpu : Cpu) (w : State) → stacks (changed (steps cpu) w).soft ≡ stacks w.soft
