use Rattle.std.proofs.Common.{ap, ◌∙◌}
use Rattle.record_log.specs.MarkedRecords.{MarkedRecords, interface_cut}
use Rattle.record_log.proofs.RecordMarks.{inside_noted, tables_noted}
use Rattle.record_log.proofs.record_log.RecordLog.remove_interface.Goals as goal

pub cut_all-change-requires : goal.cut_all-change-requires
cut_all-change-requires c = c.self.invariant.tallied

pub invariant_of-self-2 : goal.invariant_of-self-2
invariant_of-self-2 c =
    let inside = c.self.inside in
    let is = c.cut_all-change.ensures.change inside.limit c.self.invariant.now in
    rw (c.note.ensures, c.reserve.ensures.marks) (inside_noted inside.limit inside.rows c.cut_all-change.new.rows inside.log.marks c.cut_all-change.result (interface_cut c.args.handle c.args.guid c.args.goes) is inside.tally c.cut_all-change.new.tally c.cut_all-change.ensures.tally c.self.invariant)

pub returns-clause-marks : goal.returns-clause-marks
returns-clause-marks c =
    let inside = c.self.inside in
    let is = c.cut_all-change.ensures.change inside.limit c.self.invariant.now in
    rw (c.note.ensures, c.reserve.ensures.marks) (tables_noted inside.limit inside.rows c.cut_all-change.new.rows inside.log.marks c.cut_all-change.result (interface_cut c.args.handle c.args.guid c.args.goes) is)
    ∙ ap (λ (v : MarkedRecords). v.marks) c.self.view_is
