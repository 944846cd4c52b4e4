use Rattle.leaf_services.proofs.InstallPairs.{next_fits}
use Rattle.leaf_services.proofs.interfaces.install_pairs.Goals as goal

pub install_pair-requires-clause-fits : goal.install_pair-requires-clause-fits
install_pair-requires-clause-fits c =
    next_fits c.pairs_are_installed.ensures.each c.args.w.now.now c.loop-i.w.now c.args.handle c.loop-i.on c.args.list c.args.count c.args.owner c.loop-i.i c.is_kept.ensures c.requires.can c.loop-i-test.true c.loop-i.invariant.installed
