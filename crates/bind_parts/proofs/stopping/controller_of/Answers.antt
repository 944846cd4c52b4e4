use Rattle.std.proofs.Common.{◌≡◌, false, sym, ◌∙◌}
use Rattle.driver_model.specs.Disconnect.{is_meaningless}
use Rattle.bind_parts.proofs.LiveHandles.{live_of_meant, some_number}
use Rattle.bind_parts.proofs.stopping.controller_of.Goals as goal

pub returns : goal.returns
returns c =
    let meant : is_meaningless c.args.d.now c.args.world.now.now.soft ≡ false = sym c.is_meaningless.ensures ∙ c.if-is_meaningless.false in
    rw meant (some_number c.new.result c.args.d.now.controller (live_of_meant c.args.world.now.now.soft c.args.d.now c.is_kept.ensures meant) c.new.ensures)
