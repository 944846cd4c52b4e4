-- A write that lies in the bytes of a device is of a function that is there, and of a BAR that is large enough.
use Rattle.std.proofs.Common.{◌≡◌, ◌≤◌, ◌<◌, ℕ, true, nat_eq, nat_le, List, [], length, find, Option, Some, None, refl, sym, ap, subst, ◌∙◌, arith}
use Rattle.std.specs.Prelude.{option_and_then, option_map}
use Rattle.std.specs.List.{slice_get}
use Rattle.std.specs.Option.{option_map_or}
use Rattle.std.proofs.lemmas.Bool.Decides.{nat_tests}
use Rattle.pci_model.specs.DeviceState.{DeviceState}
use Rattle.pci_model.specs.Devices.{BoardState, bar_in, bytes_of_bar}
use Rattle.pci_model.specs.Spaces.{has_range, space_of}
use Rattle.pci_model.specs.declared.device.BarBytes.{BarBytes}
use Rattle.pci_model.specs.declared.space.Space.{Space}
use Rattle.pci_model.specs.declared.space.Space.TheVariants.{Bar, Config}
use Rattle.pci_model.proofs.DeviceLemmas.{get-below}

pub function_there : (board : BoardState) (number : ℕ) (space : Space) (end : ℕ) → has_range (space_of board number space) end ≡ true → number < length board.devices
function_there board number space end range = by_space space range
  where
    by_config : (found : Option DeviceState) → slice_get board.devices number ≡ found → has_range (option_map (λ (d : DeviceState). d.config) found) end ≡ true → number < length board.devices
    by_config (Some device) is range = get-below board.devices number device is
    by_config None is range = absurd cc

    by_bar : (index : ℕ) (found : Option DeviceState) → slice_get board.devices number ≡ found → has_range (option_and_then (λ (d : DeviceState). bar_in d.bars index) found) end ≡ true → number < length board.devices
    by_bar index (Some device) is range = get-below board.devices number device is
    by_bar index None is range = absurd cc

    by_space : (space : Space) → has_range (space_of board number space) end ≡ true → number < length board.devices
    by_space Config range = by_config (slice_get board.devices number) refl range
    by_space (Bar index) range = by_bar index (slice_get board.devices number) refl range

pub bar_holds : (board : BoardState) (number index end : ℕ) → has_range (space_of board number (Bar index)) end ≡ true
    → (device : DeviceState) → slice_get board.devices number ≡ Some device → end ≤ length (bytes_of_bar device.bars index)
bar_holds board number index end range device is =
    let here : has_range (bar_in device.bars index) end ≡ true =
    ap (λ (found : Option DeviceState). has_range (option_and_then (λ (d : DeviceState). bar_in d.bars index) found) end) (sym is) ∙ range in
    by_bar (find (λ (bar : BarBytes). nat_eq bar.index index) device.bars) here
  where
    by_bar : (found : Option BarBytes) → has_range (option_map (λ (bar : BarBytes). bar.bytes) found) end ≡ true → end ≤ length (option_map_or (λ (bar : BarBytes). bar.bytes) found [])
    by_bar None range = absurd cc
    by_bar (Some bar) range = grind (arith, nat_tests, range)
