use Rattle.std.proofs.Common.{sym}
use Rattle.handle_db.proofs.OnlyOne.{find-none, find-only}
use Rattle.world_model.specs.Thunks.{is_thunk_at}
use Rattle.soft_pieces.proofs.Order.{nobody, only_at}
use Rattle.soft_pieces.proofs.thunks.thunk_with.Goals as goal

-- the thunk at the place is the only one of the address
pub returns-in-Some : goal.returns-in-Some
returns-in-Some c = sym (find-only (only_at c.args.at c.args.thunks.now c.requires.0 c.in-Some.place nobody c.requires.1 c.in-Some.ensures.found))

pub returns-in-None : goal.returns-in-None
returns-in-None c = sym (find-none (is_thunk_at c.args.at) c.args.thunks.now c.in-None.ensures.none)
