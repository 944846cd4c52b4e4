-- A board with its tables, as the code keeps them next to the lines.
use Rattle.std.specs.Prelude.{◌≡◌, ◌≤◌, ℕ, List, count_by}
use Rattle.std.specs.Ordering.{nat_cmp, ordering_then}
use Rattle.std.specs.declared.cmp.Ordering.{Ordering}
use Rattle.std.specs.BTreeMap.{BTreeMap, get}
use Rattle.pci_model.specs.BoardLines.{Location, find_at, functions, is_at, roots}
use Rattle.pci_model.specs.DeviceState.{DeviceState}
use Rattle.pci_model.specs.Devices.{IsSound}
use Rattle.pci_model.specs.declared.line.BoardLine.{BoardLine}
use Rattle.pci_model.specs.declared.function.Function.{Function}

-- locations in order: by bus, then by device, then by function number
abbrev pub location_cmp : Location → Location → Ordering
location_cmp location other =
    ordering_then (ordering_then (nat_cmp location.0 other.0) (nat_cmp location.1 other.1)) (nat_cmp location.2 other.2)

-- the tables are what is looked up in the lines
pub record IsIndexed (lines : List BoardLine) (root_table : List (ℕ × ℕ)) (function_table : List Function)
    (number_table : BTreeMap Location ℕ) (devices : List DeviceState) : Type 0 where
  pub sound : IsSound (record { lines = lines; devices = devices })
  pub roots : root_table ≡ roots lines
  pub functions : function_table ≡ functions lines
  pub numbers : (location : Location) → get location_cmp number_table location ≡ find_at lines location

-- no two functions are at one location
abbrev pub OnceEach : List Function → Type 0
OnceEach functions = (location : Location) → count_by (λ function. is_at function.location location) functions ≤ 1
