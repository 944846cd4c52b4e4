-- Which drivers are stopped for a controller (UEFI 2.8, 7.3: DisconnectController): those that manage it.
use Rattle.std.specs.Prelude.{ℕ, Bool, nat_eq, List, [], ◌∷◌, filter, Option, Some, None, if◌then◌else◌}
use Rattle.std.specs.List.{list_any}
use Rattle.open_records.specs.Managing.{children, managers}
use Rattle.world_model.specs.World.{Soft}

-- the children of a controller: of one agent, or of all
abbrev pub children_of : (controller : ℕ) → (agent : Option ℕ) → Soft → List ℕ
children_of controller agent soft = children soft.records.entries soft.database controller agent

-- the drivers that manage a controller
abbrev pub managers_of : (controller : ℕ) → Soft → List ℕ
managers_of controller soft = managers soft.records.entries soft.database controller

-- only the driver that is given, if one is
abbrev pub only_driver : (driver : ℕ) → List ℕ → List ℕ
only_driver driver agents = if nat_eq driver 0 then agents else filter (nat_eq driver) agents

-- whether an agent has the child open on the controller
abbrev pub has_child : (controller child : ℕ) → Soft → (agent : ℕ) → Bool
has_child controller child soft agent = list_any (nat_eq child) (children_of controller (Some agent) soft)

abbrev pub unless_empty : List ℕ → Option (List ℕ)
unless_empty [] = None
unless_empty (agent ∷ agents) = Some (agent ∷ agents)

abbrev pub with_child : List ℕ → (controller child : ℕ) → Soft → Option (List ℕ)
with_child [] controller child soft = Some []
with_child (agent ∷ agents) controller child soft =
    if nat_eq child 0 then Some (agent ∷ agents) else unless_empty (filter (has_child controller child soft) (agent ∷ agents))

-- the drivers to stop, in order; or none if a child is given that is not a child of any of them
unfoldable pub stop_list : (controller driver child : ℕ) → Soft → Option (List ℕ)
stop_list controller driver child soft = with_child (only_driver driver (managers_of controller soft)) controller child soft
