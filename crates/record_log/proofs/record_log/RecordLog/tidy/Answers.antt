use Rattle.std.proofs.Common.{◌≡◌, List, [], sym, ap, ◌∙◌}
use Rattle.open_records.specs.OpenRecords.{RecordTable}
use Rattle.record_rows.specs.Inside.{rows_of}
use Rattle.record_log.specs.MarkedRecords.{MarkedRecords}
use Rattle.record_log.specs.TakingBack.{table_of, tables_at}
use Rattle.record_log.proofs.Fresh.{none_carried, renewed_count, renewed_sound, renewed_table}
use Rattle.record_log.proofs.RecordMarks.{inside_none, tables_none}
use Rattle.record_log.proofs.TallyLemmas.{same_tallied}
use Rattle.record_log.proofs.record_log.RecordLog.tidy.Goals as goal

pub renew-requires : goal.renew-requires
renew-requires c = c.self.invariant.tallied

pub invariant_of-self : goal.invariant_of-self
invariant_of-self c =
    let inside = c.self.inside in
    let none : inside.log.marks ≡ [] = none_carried (λ x. x.now) c.carried.result inside.log.marks c.is_none.result c.carried.ensures c.is_none.ensures c.if-is_none.true in
    inside_none inside.limit c.renew.new.tally c.renew.new.rows inside.log.marks none (renewed_sound inside.limit inside.rows c.renew.new.rows c.renew.ensures.rows c.self.invariant.now)
    (same_tallied c.renew.new.tally (rows_of inside.rows) (rows_of c.renew.new.rows) (renewed_count inside.rows c.renew.new.rows c.renew.ensures.rows) c.renew.ensures.tally)

pub returns-then-is_none : goal.returns-then-is_none
returns-then-is_none c =
    let inside = c.self.inside in
    let none : inside.log.marks ≡ [] = none_carried (λ x. x.now) c.carried.result inside.log.marks c.is_none.result c.carried.ensures c.is_none.ensures c.if-is_none.true in
    let marks : tables_at inside.limit inside.log.marks (rows_of c.renew.new.rows) ≡ tables_at inside.limit inside.log.marks (rows_of inside.rows) =
    tables_none inside.limit inside.log.marks (rows_of c.renew.new.rows) none ∙ sym (tables_none inside.limit inside.log.marks (rows_of inside.rows) none) in
    let now : ◌≡◌ {A = MarkedRecords} (record { now = table_of inside.limit (rows_of c.renew.new.rows); marks = tables_at inside.limit inside.log.marks (rows_of c.renew.new.rows) }) (record { now = table_of inside.limit (rows_of inside.rows); marks = tables_at inside.limit inside.log.marks (rows_of c.renew.new.rows) }) =
    ap (λ (table : RecordTable). record { now = table; marks = tables_at inside.limit inside.log.marks (rows_of c.renew.new.rows) }) (renewed_table inside.limit inside.rows c.renew.new.rows c.renew.ensures.rows) in
    now ∙ ap (λ (kept : List RecordTable). record { now = table_of inside.limit (rows_of inside.rows); marks = kept }) marks ∙ c.self.view_is
