-- How many children a handle can have.
use Rattle.std.specs.Prelude.{◌≤◌, ℕ, Option, length}
use Rattle.fw_types.specs.declared.limits.TheConstants.{MOST_HANDLES}
use Rattle.open_records.specs.Managing.{children}
use Rattle.world_model.specs.World.{Soft}
use Rattle.world_model.specs.Kept.{IsKept}

-- each is a live handle, and is among them once
abbrev pub ChildrenAreFew : Type 0
ChildrenAreFew = (soft : Soft) (handle : ℕ) (agent : Option ℕ) → IsKept soft → length (children soft.records.entries soft.database handle agent) ≤ MOST_HANDLES
