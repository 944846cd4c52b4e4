use Rattle.leaf_services.proofs.ServiceEnds.{ends_by}
use Rattle.leaf_services.proofs.boot_services.serve.Goals as goal

pub returns-clause-ends : goal.returns-clause-ends
returns-clause-ends c =
    ends_by c.services_end.ensures c.args.s c.args.c.now c.args.w.now.now c.serve_row.new.w.now c.serve_row.result c.serve_row.ensures.now
