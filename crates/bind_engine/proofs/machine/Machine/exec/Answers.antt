use Rattle.std.proofs.Common.{sym}
use Rattle.bind_engine.proofs.machine.Machine.exec.Goals as goal

pub returns-in-Load-clause-done : goal.returns-in-Load-clause-done
returns-in-Load-clause-done g c = λ files has. rw (c.in-Load.is, sym c.as_str.ensures) (c.load.ensures.done files has)
