use Rattle.std.proofs.Common.{set, ap, sym, ◌∙◌}
use Rattle.pci_model.specs.DeviceState.{DeviceState}
use Rattle.pci_model.specs.Devices.{bars_after}
use Rattle.pci_model.proofs.DeviceLemmas.{with_change_at-set}
use Rattle.pci_model.proofs.access.write_bar.Goals as goal

pub returns : goal.returns
returns c =
    ap (set c.args.devices.now c.args.f) c.write_bar.ensures
    ∙ sym (with_change_at-set c.args.devices.now c.args.f c.index-devices-f.result (λ (device : DeviceState). record device { bars = bars_after c.args.bar c.args.at c.args.bytes.now device.bars }) c.requires.there)
