-- What is below a bus: the functions on it, and those on the buses of its bridges (PCI-to-PCI Bridge Architecture 1.2, 1:
-- Introduction).
use Rattle.std.specs.Prelude.{ℕ, zero, suc, List, [], ◌∷◌, length, Option, option_map, slice_get}
use Rattle.std.specs.List.{flat_map}
use Rattle.std.specs.Option.{option_map_or}
use Rattle.pci_model.specs.declared.line.BoardLine.{BoardLine}
use Rattle.pci_model.specs.BoardLines.{functions, functions_on, secondary_of}
use Rattle.pci_model.specs.Ways.{way_to}

-- a bus and the buses below it, down to at most so many levels: the functions on the bus by device and then by function
-- number, each bridge followed by those of its own bus
unfoldable pub functions_within : (most : ℕ) → List BoardLine → (bus : ℕ) → List ℕ
functions_within zero lines bus = []
functions_within (suc most) lines bus =
    flat_map (λ number. number ∷ option_map_or (functions_within most lines) (secondary_of lines number) []) (functions_on lines bus)

-- all of them: a bus with functions has fewer buses with functions below it than there are functions
abbrev pub functions_below : List BoardLine → (bus : ℕ) → List ℕ
functions_below lines bus = functions_within (length (functions lines)) lines bus

-- the bus on which the way to a function begins
abbrev pub first_bus : List BoardLine → (number : ℕ) → Option ℕ
first_bus lines number = option_map (λ location. location.0) (slice_get (way_to lines number) 0)
