use Rattle.std.proofs.Common.{false, ap, ◌∙◌}
use Rattle.open_records.specs.Parties.{belongs_to, without_agents_of}
use Rattle.open_records.specs.declared.open_record.KeyedRecord.{KeyedRecord}
use Rattle.record_rows.specs.Inside.{rows_of}
use Rattle.record_log.specs.MarkedRecords.{MarkedRecords}
use Rattle.record_log.proofs.LineChanges.{where_fewer, where_sound, where_table}
use Rattle.record_log.proofs.RecordMarks.{inside_none, none_open, tables_none}
use Rattle.record_log.proofs.TallyLemmas.{fewer_tallied}
use Rattle.record_log.proofs.record_log.RecordLog.drop_agents.Goals as goal

pub invariant_of-self : goal.invariant_of-self
invariant_of-self c =
    let inside = c.self.inside in
    let none = none_open inside.limit inside.log.marks (rows_of inside.rows) _ (ap (λ (v : MarkedRecords). v.marks) c.self.view_is) c.requires.unmarked in
    inside_none inside.limit (record inside.tally { exact = false }) c.close_where.new.self inside.log.marks none (where_sound inside.limit (λ (one : KeyedRecord). belongs_to c.args.image c.args.guid c.args.db.now one.rec.agent) inside.rows c.close_where.new.self c.close_where.ensures c.self.invariant.now)
    (fewer_tallied inside.tally (rows_of inside.rows) (rows_of c.close_where.new.self) (where_fewer inside.limit (λ (one : KeyedRecord). belongs_to c.args.image c.args.guid c.args.db.now one.rec.agent) inside.rows c.close_where.new.self c.close_where.ensures c.self.invariant.now) c.self.invariant.tallied)

pub returns-clause-now : goal.returns-clause-now
returns-clause-now c =
    let inside = c.self.inside in
    where_table inside.limit (λ (one : KeyedRecord). belongs_to c.args.image c.args.guid c.args.db.now one.rec.agent) inside.rows c.close_where.new.self c.close_where.ensures c.self.invariant.now
    ∙ ap (λ (v : MarkedRecords). without_agents_of c.args.image c.args.guid c.args.db.now v.now) c.self.view_is

pub returns-clause-marks : goal.returns-clause-marks
returns-clause-marks c =
    let inside = c.self.inside in
    let none = none_open inside.limit inside.log.marks (rows_of inside.rows) _ (ap (λ (v : MarkedRecords). v.marks) c.self.view_is) c.requires.unmarked in
    tables_none inside.limit inside.log.marks (rows_of c.close_where.new.self) none
