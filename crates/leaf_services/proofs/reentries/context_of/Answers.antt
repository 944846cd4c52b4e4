use Rattle.service_model.specs.Connecting.{handle_at}
use Rattle.leaf_services.proofs.HandleList.{one_more}
use Rattle.leaf_services.proofs.reentries.context_of.Goals as goal

pub loop-i-preserved : goal.loop-i-preserved
loop-i-preserved c =
    one_more (handle_at c.args.list c.args.w.now.now) c.loop-i.i c.loop-i.handles.items c.push.new.self.items c.handle_at.result c.in_ok-push.ensures.items c.loop-i.invariant c.handle_at.ensures
