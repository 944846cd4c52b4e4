use Rattle.leaf_services.proofs.ServiceEnds.{look_ends}
use Rattle.leaf_services.proofs.boot_services.reopen.Goals as goal

pub returns-clause-ends : goal.returns-clause-ends
returns-clause-ends c =
    look_ends c.second_looks_end.ensures.ends c.args.o.now c.args.w.now.now c.answer_look.new.w.now c.answer_look.result c.answer_look.ensures.now
