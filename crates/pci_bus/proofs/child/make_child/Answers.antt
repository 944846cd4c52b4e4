use Rattle.std.proofs.Common.{◌≡◌, ℕ, rules, ap, ◌∙◌}
use Rattle.pci_model.specs.Devices.{BoardState}
use Rattle.world_model.specs.World.{State}
use Rattle.world_model.specs.NewChild.{child_path, has_rom, path_below}
use Rattle.pci_bus.proofs.Making.{made_by}
use Rattle.pci_bus.proofs.child.make_child.Goals as goal

pub returns-clause-now : goal.returns-clause-now
returns-clause-now c =
    let w : State = c.args.w.now.now in
    let path : c.in_ok-path.path.items ≡ path_below c.args.controller c.args.f w =
    c.in_ok-path.ensures
    ∙ ap (λ (board : BoardState). child_path board.lines c.root_uid-uid.result c.args.f) c.board.ensures
    ∙ ap (λ (uid : ℕ). child_path w.hard.board.lines uid c.args.f) c.root_uid-uid.ensures in
    let rom : c.is_some-has_rom.result ≡ has_rom c.args.f w = search rules in
    made_by c.args.controller c.args.f w c.add_child.new.w.now c.in_ok-path.path.items c.is_some-has_rom.result c.in_ok-add_child.ensures.now path rom
