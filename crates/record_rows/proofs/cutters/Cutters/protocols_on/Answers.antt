use Rattle.open_records.proofs.KeyLemmas.{exact_interface}
use Rattle.record_rows.proofs.BetweenLemmas.{if_protocols}
use Rattle.record_rows.proofs.cutters.Cutters.protocols_on.Goals as goal

pub between-requires-clause-exact : goal.between-requires-clause-exact
between-requires-clause-exact c = exact_interface

pub returns : goal.returns
returns c =
    rw (← c.self.view_is)
    (if_protocols c.args.handle c.start_of.result c.end_of.result c.self.inside.classes c.in_ok-interfaces.interfaces.items c.guids_of.result c.start_of.ensures c.end_of.ensures c.in_ok-interfaces.ensures
    (rw (← c.as_slice.ensures.value) c.guids_of.ensures))
