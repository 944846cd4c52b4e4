use Rattle.handle_db.proofs.RemovalBack.{undone}
use Rattle.handle_db.proofs.laws.removing_is_undone.Goals as goal

pub returns : goal.returns
returns c handle guid r db sound answer = undone handle guid r db sound answer
