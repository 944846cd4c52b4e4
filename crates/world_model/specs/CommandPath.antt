-- The remaining device path that a `connect` command gives (UEFI 2.8, 7.3: ConnectController, RemainingDevicePath). Its
-- bytes are mapped at an address of their own while the command runs. Drivers can read them, and can't write them.
use Rattle.std.specs.Prelude.{◌≡◌, ℕ, ◌-◌, ◌≤◌, Bool, true, ◌||◌, nat_eq, nat_le, List, length, Ok}
use Rattle.std.specs.List.{list_all}
use Rattle.guest_memory.specs.declared.address_map.TheConstants.{COMMAND_PATH, TABLES_END}
use Rattle.guest_memory.specs.declared.segment.Segment.{Segment}
use Rattle.guest_memory.specs.declared.segment.SegKind.TheVariants.{Table}
use Rattle.guest_memory.specs.Segment.{end_of}
use Rattle.guest_memory.specs.GuestMemory.{map_answer, mapped, unmapped}
use Rattle.world_model.specs.World.{Soft, with_memory}
use Rattle.world_model.specs.Marks.{stacks}
use Rattle.world_model.specs.Opening.{opening_soft}
use Rattle.world_model.specs.Kept.{IsKept}

-- how many bytes a path may have
abbrev pub path_room : ℕ
path_room = TABLES_END - COMMAND_PATH

abbrev pub path_segment : List ℕ → Segment
path_segment bytes = record { base = COMMAND_PATH; bytes = bytes; kind = Table }

abbrev pub path_set : List ℕ → Soft → Soft
path_set bytes soft = with_memory (mapped (path_segment bytes) soft.memory) soft

abbrev pub path_cleared : Soft → Soft
path_cleared soft = with_memory (unmapped soft.memory COMMAND_PATH) soft

-- whether a segment lies outside the place that is kept free for a path
abbrev pub is_beside_path : Segment → Bool
is_beside_path segment = nat_le (end_of segment) COMMAND_PATH || nat_le TABLES_END segment.base

-- whether no path is mapped: all segments lie outside its place
abbrev pub has_no_path : List Segment → Bool
has_no_path segments = list_all is_beside_path segments

-- whether its place has nothing but a path
abbrev pub is_path_or_beside : Segment → Bool
is_path_or_beside segment = nat_eq segment.base COMMAND_PATH || is_beside_path segment

abbrev pub has_path_at_most : List Segment → Bool
has_path_at_most segments = list_all is_path_or_beside segments

-- ---- laws

-- if there is no path, nothing refuses one
abbrev pub PathFits : Type 0
PathFits = (soft : Soft) (bytes : List ℕ) → has_no_path soft.memory ≡ true → length bytes ≤ path_room → map_answer soft.memory (path_segment bytes) ≡ Ok tt

abbrev pub PathSettingKeeps : Type 0
PathSettingKeeps = (soft : Soft) (bytes : List ℕ) → IsKept soft → has_no_path soft.memory ≡ true → length bytes ≤ path_room → IsKept (path_set bytes soft)

abbrev pub PathClearingKeeps : Type 0
PathClearingKeeps = (soft : Soft) → IsKept soft → IsKept (path_cleared soft)

-- neither setting nor clearing a path changes the stacks
abbrev pub PathSettingKeepsStacks : Type 0
PathSettingKeepsStacks = (soft : Soft) (bytes : List ℕ) → stacks (path_set bytes soft) ≡ stacks soft

abbrev pub PathClearingKeepsStacks : Type 0
PathClearingKeepsStacks = (soft : Soft) → IsKept soft → stacks (path_cleared soft) ≡ stacks soft

-- at first no path is there; one that is set lies there alone, and after it is cleared there is none again
abbrev pub OpeningHasNoPath : Type 0
OpeningHasNoPath = (functions : ℕ) (bridges : List (ℕ × ℕ)) → has_no_path (opening_soft functions bridges).memory ≡ true

abbrev pub SetPathIsAlone : Type 0
SetPathIsAlone = (soft : Soft) (bytes : List ℕ) → has_no_path soft.memory ≡ true → has_path_at_most (path_set bytes soft).memory ≡ true

abbrev pub ClearingLeavesNoPath : Type 0
ClearingLeavesNoPath = (soft : Soft) → IsKept soft → has_path_at_most soft.memory ≡ true → has_no_path (path_cleared soft).memory ≡ true
