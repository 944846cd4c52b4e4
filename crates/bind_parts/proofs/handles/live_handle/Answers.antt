use Rattle.std.proofs.Common.{◌≡◌, true, sym, ◌∙◌}
use Rattle.handle_db.specs.Database.{is_live}
use Rattle.bind_parts.proofs.LiveHandles.{live_is_some, some_number}
use Rattle.bind_parts.proofs.handles.live_handle.Goals as goal

pub returns : goal.returns
returns c =
    let live : is_live c.args.number c.args.world.now.now.soft.database ≡ true = rw (← c.db.ensures) (sym c.is_live.ensures ∙ c.if-not-is_live.false) in
    rw live (some_number c.new.result c.args.number (live_is_some c.args.world.now.now.soft c.args.number c.is_kept.ensures live) c.new.ensures)
