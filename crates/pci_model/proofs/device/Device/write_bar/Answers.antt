use Rattle.std.proofs.Common.{◌≡◌, ◌≤◌, ◌+◌, None, List, nat_eq, length, get_or, set, arith, sym, ap, ◌∙◌}
use Rattle.std.specs.List.{position}
use Rattle.std.proofs.lemmas.List.{with_items_is}
use Rattle.pci_model.specs.Devices.{bars_after, bytes_of_bar}
use Rattle.pci_model.specs.DeviceState.{DeviceState}
use Rattle.pci_model.specs.declared.device.BarBytes.{BarBytes}
use Rattle.pci_model.proofs.BarLemmas.{length-bars_after, nobody, bars_after-at, bars_after-none, bytes_of_bar-at, with_bytes}
use Rattle.pci_model.proofs.device.Device.write_bar.Goals as goal

pub write_at-requires-clause-fits : goal.write_at-requires-clause-fits
write_at-requires-clause-fits c bar =
    let here : bytes_of_bar c.args.self.now.bars c.args.index ≡ (get_or c.as_mut_slice.result.now c.in-Some.place bar).bytes =
    ap (λ (device : DeviceState). bytes_of_bar device.bars c.args.index) (sym c.self.view_is)
    ∙ bytes_of_bar-at c.args.index c.self.inside.bars.items c.in-Some.place bar (ap (position (λ (bar : BarBytes). nat_eq bar.index c.args.index)) (sym c.as_slice.ensures.value) ∙ sym c.bar_place.ensures ∙ c.in-Some.is)
    ∙ ap (λ (bars : List BarBytes). (get_or bars c.in-Some.place bar).bytes) (sym c.as_mut_slice.ensures.value) in
    let fits : c.args.at + length c.args.bytes.now ≤ length (bytes_of_bar c.args.self.now.bars c.args.index) = c.requires in
    omega (arith, ap length here)

pub returns-in-Some : goal.returns-in-Some
returns-in-Some c =
    let written =
    c.write_at.ensures nobody
    ∙ ap (λ (bars : List BarBytes). set bars c.in-Some.place (with_bytes c.args.at c.args.bytes.now (get_or bars c.in-Some.place nobody))) c.as_mut_slice.ensures.value
    ∙ sym (bars_after-at c.args.index c.args.at c.args.bytes.now c.self.inside.bars.items c.in-Some.place nobody (ap (position (λ (bar : BarBytes). nat_eq bar.index c.args.index)) (sym c.as_slice.ensures.value) ∙ sym c.bar_place.ensures ∙ c.in-Some.is)) in
    let size : length c.write_at.new.bars ≡ c.self.inside.bars.len =
    omega (arith, ap length written, ap length c.as_mut_slice.ensures.value, length-bars_after c.args.index c.args.at c.args.bytes.now c.self.inside.bars.items, c.self.inside.bars.ok.0) in
    ap (λ (bars : List BarBytes). record { config = c.self.inside.config; bars = bars }) (with_items_is c.self.inside.bars c.write_at.new.bars size ∙ written)
    ∙ ap (λ (device : DeviceState). record device { bars = bars_after c.args.index c.args.at c.args.bytes.now device.bars }) c.self.view_is

pub returns-in_default : goal.returns-in_default
returns-in_default c =
    let none : position (λ (bar : BarBytes). nat_eq bar.index c.args.index) c.self.inside.bars.items ≡ None =
    ap (position (λ (bar : BarBytes). nat_eq bar.index c.args.index)) (sym c.as_slice.ensures.value) ∙ sym c.bar_place.ensures ∙ c.in_default.is in
    sym c.self.view_is
    ∙ ap (λ (bars : List BarBytes). record { config = c.self.inside.config; bars = bars }) (sym (bars_after-none c.args.index c.args.at c.args.bytes.now c.self.inside.bars.items none))
    ∙ ap (λ (device : DeviceState). record device { bars = bars_after c.args.index c.args.at c.args.bytes.now device.bars }) c.self.view_is
