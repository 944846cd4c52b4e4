use Rattle.std.proofs.Common.{ap, sym, ◌∙◌}
use Rattle.open_records.specs.Parties.{has_use_of, is_use_of}
use Rattle.record_rows.specs.Inside.{rows_of}
use Rattle.record_log.specs.MarkedRecords.{MarkedRecords}
use Rattle.record_rows.specs.Rows.{shown}
use Rattle.record_log.proofs.SoundLemmas.{any_in_order}
use Rattle.record_log.proofs.record_log.RecordLog.has_use_of.Goals as goal

pub returns : goal.returns
returns c =
    let a = c.args in
    c.any.ensures ∙ sym (any_in_order (is_use_of a.image a.guid a.db.now) (shown (rows_of c.self.inside.rows)))
    ∙ ap (λ (v : MarkedRecords). has_use_of a.image a.guid a.db.now v.now) c.self.view_is
