use Rattle.std.proofs.Common.{◌≡◌, ◌+◌, true, List, sym, subst, ◌∙◌, length, arith, ap}
use Rattle.std.proofs.lemmas.List.{with_items_is}
use Rattle.pci_model.specs.DeviceState.{DeviceState}
use Rattle.pci_model.specs.Devices.{BoardState, IsSound, bars_after, config_after, with_change_at}
use Rattle.pci_model.specs.Spaces.{has_range, space_of}
use Rattle.pci_model.specs.declared.space.Space.{Space}
use Rattle.pci_model.specs.declared.space.Space.TheVariants.{Bar}
use Rattle.pci_model.proofs.DeviceLemmas.{length-with_change_at, sound-bar_written, sound-config_written}
use Rattle.pci_model.proofs.SpaceLemmas.{bar_holds, function_there}
use Rattle.pci_model.proofs.board.Board.write_space.Goals as goal

pub invariant_of-self : goal.invariant_of-self
invariant_of-self c =
    let board : BoardState = record { lines = c.self.inside.lines.items; devices = c.self.inside.devices.items } in
    let written =
    c.write_config.ensures ∙ ap (with_change_at c.args.f (λ (device : DeviceState). record device { config = config_after c.args.at c.args.bytes.now device.config })) c.as_mut_slice.ensures.value in
    let as_many : length c.write_config.new.devices ≡ c.self.inside.devices.len =
    omega (arith, ap length written, length-with_change_at c.self.inside.devices.items c.args.f (λ (device : DeviceState). record device { config = config_after c.args.at c.args.bytes.now device.config }), c.self.inside.devices.ok.0) in
    record {
      sound =
          subst (λ (devices : List DeviceState). IsSound (record { lines = board.lines; devices = devices })) (sym (with_items_is c.self.inside.devices c.write_config.new.devices as_many ∙ written))
          (sound-config_written board c.args.f c.args.at c.args.bytes.now c.self.invariant.sound);
      roots = c.self.invariant.roots;
      functions = c.self.invariant.functions;
      numbers = c.self.invariant.numbers;
    }

pub write_bar-requires-clause-there : goal.write_bar-requires-clause-there
write_bar-requires-clause-there c =
    let board : BoardState = record { lines = c.self.inside.lines.items; devices = c.self.inside.devices.items } in
    let range : has_range (space_of board c.args.f c.args.space) (c.args.at + length c.args.bytes.now) ≡ true =
    ap (λ (b : BoardState). has_range (space_of b c.args.f c.args.space) (c.args.at + length c.args.bytes.now)) c.self.view_is ∙ c.requires in
    omega (arith, function_there board c.args.f c.args.space (c.args.at + length c.args.bytes.now) range, c.self.inside.devices.ok.0, ap length c.as_mut_slice-in-Bar.ensures.value)

pub invariant_of-self-in-Bar : goal.invariant_of-self-in-Bar
invariant_of-self-in-Bar c =
    let board : BoardState = record { lines = c.self.inside.lines.items; devices = c.self.inside.devices.items } in
    let bar = c.in-Bar.bar in
    let range : has_range (space_of board c.args.f (Bar bar)) (c.args.at + length c.args.bytes.now) ≡ true =
    ap (λ (space : Space). has_range (space_of board c.args.f space) (c.args.at + length c.args.bytes.now)) (sym c.in-Bar.is)
    ∙ ap (λ (b : BoardState). has_range (space_of b c.args.f c.args.space) (c.args.at + length c.args.bytes.now)) c.self.view_is ∙ c.requires in
    let written =
    c.write_bar.ensures ∙ ap (with_change_at c.args.f (λ (device : DeviceState). record device { bars = bars_after bar c.args.at c.args.bytes.now device.bars })) c.as_mut_slice-in-Bar.ensures.value in
    let as_many : length c.write_bar.new.devices ≡ c.self.inside.devices.len =
    omega (arith, ap length written, length-with_change_at c.self.inside.devices.items c.args.f (λ (device : DeviceState). record device { bars = bars_after bar c.args.at c.args.bytes.now device.bars }), c.self.inside.devices.ok.0) in
    record {
      sound =
          subst (λ (devices : List DeviceState). IsSound (record { lines = board.lines; devices = devices })) (sym (with_items_is c.self.inside.devices c.write_bar.new.devices as_many ∙ written))
          (sound-bar_written board c.args.f bar c.args.at c.args.bytes.now c.self.invariant.sound (bar_holds board c.args.f bar (c.args.at + length c.args.bytes.now) range));
      roots = c.self.invariant.roots;
      functions = c.self.invariant.functions;
      numbers = c.self.invariant.numbers;
    }
