use Rattle.std.proofs.Common.{◌≡◌, Some, List, ap, sym, ◌∙◌}
use Rattle.std.specs.Prelude.{option_copied}
use Rattle.std.specs.List.{slice_get}
use Rattle.pci_model.specs.DeviceState.{DeviceState}
use Rattle.pci_model.specs.Devices.{BoardState, bar_read}
use Rattle.pci_model.proofs.DeviceLemmas.{bar_read-bytes, bar_read-missing}
use Rattle.pci_model.proofs.board.Board.bar_read.Goals as goal

pub returns-in_default-bar : goal.returns-in_default-bar
returns-in_default-bar c =
    let board : BoardState = record { lines = c.self.inside.lines.items; devices = c.self.inside.devices.items } in
    let device : DeviceState = c.in-Some.device.now in
    let there : slice_get board.devices c.args.f ≡ Some device =
    ap (λ (devices : List DeviceState). slice_get devices c.args.f) (sym c.as_slice.ensures.value) ∙ sym c.device_at.ensures ∙ ap option_copied c.in-Some.is in
    sym (bar_read-missing board c.args.f c.args.bar c.args.at c.args.n device c.self.invariant.sound there (sym c.bar.ensures ∙ ap option_copied c.in_default-bar.is))
    ∙ ap (λ (board : BoardState). bar_read board c.args.f c.args.bar c.args.at c.args.n) c.self.view_is

pub returns : goal.returns
returns c =
    let board : BoardState = record { lines = c.self.inside.lines.items; devices = c.self.inside.devices.items } in
    let device : DeviceState = c.in-Some.device.now in
    let there : slice_get board.devices c.args.f ≡ Some device =
    ap (λ (devices : List DeviceState). slice_get devices c.args.f) (sym c.as_slice.ensures.value) ∙ sym c.device_at.ensures ∙ ap option_copied c.in-Some.is in
    c.number_at.ensures
    ∙ sym (bar_read-bytes board c.args.f c.args.bar c.args.at c.args.n device c.in-Some-bar.bytes.now c.self.invariant.sound there (sym c.bar.ensures ∙ ap option_copied c.in-Some-bar.is))
    ∙ ap (λ (board : BoardState). bar_read board c.args.f c.args.bar c.args.at c.args.n) c.self.view_is
