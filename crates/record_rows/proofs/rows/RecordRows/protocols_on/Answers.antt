use Rattle.record_rows.proofs.BetweenLemmas.{if_rows}
use Rattle.record_rows.proofs.rows.RecordRows.protocols_on.Goals as goal

pub returns : goal.returns
returns c =
    let inside = c.self.inside in
    rw (← c.self.view_is) (if_rows inside.cutters.names inside.cutters.classes c.args.handle inside.records.items inside.marks.items c.protocols_on.result c.self.invariant.marked c.protocols_on.ensures)
