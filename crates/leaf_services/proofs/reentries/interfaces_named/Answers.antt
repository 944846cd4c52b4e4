use Rattle.service_model.specs.Many.{interface_named}
use Rattle.leaf_services.proofs.HandleList.{one_more}
use Rattle.leaf_services.proofs.PairReads.{reads_pair}
use Rattle.leaf_services.proofs.reentries.interfaces_named.Goals as goal

pub interface_named-requires-clause-read : goal.interface_named-requires-clause-read
interface_named-requires-clause-read c = reads_pair c.args.list c.args.count c.loop-i.i c.args.w.now.now c.requires c.loop-i-test.true

pub loop-i-preserved : goal.loop-i-preserved
loop-i-preserved c =
    one_more (interface_named c.args.handle c.args.list c.args.w.now.now) c.loop-i.i c.loop-i.named.items c.push.new.self.items c.interface_named.result c.in_ok-push.ensures.items c.loop-i.invariant c.interface_named.ensures
