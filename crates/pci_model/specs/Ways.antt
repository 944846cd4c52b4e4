-- The way from a root bridge down to a function: the bridges that lead to it, and the function itself (PCI
-- Local Bus 3.0, 6: Configuration Space).
use Rattle.std.specs.Prelude.{ℕ, zero, suc, List, [], ◌∷◌, ◌++◌, length, nat_eq, Bool, false, Option}
use Rattle.std.specs.List.{position}
use Rattle.std.specs.Option.{option_map_or}
use Rattle.pci_model.specs.declared.line.BoardLine.{BoardLine}
use Rattle.pci_model.specs.declared.function.Function.{Function}
use Rattle.pci_model.specs.BoardLines.{Location, functions, location_of}

-- whether a function is the bridge to a bus
abbrev pub leads_to : (bus : ℕ) → Function → Bool
leads_to bus function = option_map_or (nat_eq bus) function.secondary false

-- the number of the bridge to a bus; none leads to the bus of a root bridge
abbrev pub bridge_to : List BoardLine → (bus : ℕ) → Option ℕ
bridge_to lines bus = position (leads_to bus) (functions lines)

-- the locations on the way, that of the function last, if the way has at most so many
unfoldable pub way_within : (most : ℕ) → List BoardLine → (number : ℕ) → List Location
way_within zero lines number = []
way_within (suc most) lines number =
    option_map_or (λ location. option_map_or (way_within most lines) (bridge_to lines location.0) [] ++ location ∷ [])
    (location_of lines number) []

-- all of them: no function is on its own way twice
abbrev pub way_to : List BoardLine → (number : ℕ) → List Location
way_to lines number = way_within (length (functions lines)) lines number
