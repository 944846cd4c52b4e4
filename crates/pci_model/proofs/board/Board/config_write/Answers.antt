use Rattle.std.proofs.Common.{◌≡◌, List, sym, subst, ◌∙◌, length, arith, ap}
use Rattle.std.proofs.lemmas.List.{with_items_is}
use Rattle.pci_model.specs.DeviceState.{DeviceState}
use Rattle.pci_model.specs.Devices.{BoardState, IsSound, config_after, with_change_at}
use Rattle.pci_model.proofs.DeviceLemmas.{length-with_change_at, sound-config_written}
use Rattle.pci_model.proofs.board.Board.config_write.Goals as goal

-- the tables are of the lines, which stay, and the devices keep their sizes
pub invariant_of-self : goal.invariant_of-self
invariant_of-self c =
    let board : BoardState = record { lines = c.self.inside.lines.items; devices = c.self.inside.devices.items } in
    let written =
    c.write_config.ensures ∙ ap (with_change_at c.args.f (λ (device : DeviceState). record device { config = config_after c.args.at c.low_bytes.result.now device.config })) c.as_mut_slice.ensures.value in
    let as_many : length c.write_config.new.devices ≡ c.self.inside.devices.len =
    omega (arith, ap length written, length-with_change_at c.self.inside.devices.items c.args.f (λ (device : DeviceState). record device { config = config_after c.args.at c.low_bytes.result.now device.config }), c.self.inside.devices.ok.0) in
    record {
      sound =
          subst (λ (devices : List DeviceState). IsSound (record { lines = board.lines; devices = devices })) (sym (with_items_is c.self.inside.devices c.write_config.new.devices as_many ∙ written))
          (sound-config_written board c.args.f c.args.at c.low_bytes.result.now c.self.invariant.sound);
      roots = c.self.invariant.roots;
      functions = c.self.invariant.functions;
      numbers = c.self.invariant.numbers;
    }
