use Rattle.std.proofs.Common.{sym, subst}
use Rattle.handle_db.specs.Undoing.{HasRoomFor}
use Rattle.handle_db.proofs.tests.removed_and_back.Goals as goal

-- the database is the one that the removal left
pub undo_remove-requires : goal.undo_remove-requires
undo_remove-requires c =
    subst (HasRoomFor c.args.handle c.args.guid c.in_ok-removed.removed) (sym c.in_ok-removed.ensures.ok)
    (c.removing_is_undone.ensures c.args.handle c.args.guid c.in_ok-removed.removed c.args.db.now c.soundness.ensures (sym c.in_ok-removed.ensures.answer)).0
