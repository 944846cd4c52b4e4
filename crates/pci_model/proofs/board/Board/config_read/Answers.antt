use Rattle.std.proofs.Common.{◌≡◌, Some, List, ℕ, ◌+◌, length, ap, sym, ◌∙◌}
use Rattle.std.specs.Prelude.{option_copied}
use Rattle.std.specs.List.{slice_get}
use Rattle.pci_model.specs.DeviceState.{DeviceState}
use Rattle.pci_model.specs.Devices.{BoardState, config_read, ok_unless, number_at, past_end}
use Rattle.pci_model.proofs.DeviceLemmas.{config_read-some}
use Rattle.pci_model.proofs.board.Board.config_read.Goals as goal

pub returns : goal.returns
returns c =
    let board : BoardState = record { lines = c.self.inside.lines.items; devices = c.self.inside.devices.items } in
    let device : DeviceState = c.in-Some.device.now in
    let there : slice_get board.devices c.args.f ≡ Some device =
    ap (λ (devices : List DeviceState). slice_get devices c.args.f) (sym c.as_slice.ensures.value) ∙ sym c.device_at.ensures ∙ ap option_copied c.in-Some.is in
    c.number_at.ensures
    ∙ ap (λ (bytes : List ℕ). ok_unless (past_end (length bytes) (c.args.at + c.args.n)) (number_at c.args.at c.args.n bytes)) c.config.ensures.config
    ∙ sym (config_read-some board c.args.f c.args.at c.args.n device c.self.invariant.sound there)
    ∙ ap (λ (board : BoardState). config_read board c.args.f c.args.at c.args.n) c.self.view_is
