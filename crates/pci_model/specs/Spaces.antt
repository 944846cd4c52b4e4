-- Configuration space and BARs of devices, as bytes.
use Rattle.std.specs.Prelude.{ℕ, List, length, Bool, false, nat_le, Option, Some, None, option_map, option_and_then}
use Rattle.std.specs.List.{slice_get}
use Rattle.pci_model.specs.Devices.{BoardState, bar_in, bar_written, config_written}
use Rattle.pci_model.specs.declared.space.Space.{Space}
use Rattle.pci_model.specs.declared.space.Space.TheVariants.{Config, Bar}

-- the bytes of configuration space of a function, or of one of its BARs, if they are there
abbrev pub space_of : BoardState → (number : ℕ) → Space → Option (List ℕ)
space_of board number Config = option_map (λ device. device.config) (slice_get board.devices number)
space_of board number (Bar index) = option_and_then (λ device. bar_in device.bars index) (slice_get board.devices number)

-- a board after a write of these bytes from `at` on; everything else is as before
abbrev pub space_written : (number : ℕ) → Space → (at : ℕ) → List ℕ → BoardState → BoardState
space_written number Config at bytes board = config_written number at bytes board
space_written number (Bar index) at bytes board = bar_written number index at bytes board

-- whether bytes are there and reach to an end
abbrev pub has_range : Option (List ℕ) → (end : ℕ) → Bool
has_range None end = false
has_range (Some bytes) end = nat_le end (length bytes)
