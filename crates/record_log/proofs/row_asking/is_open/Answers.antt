use Rattle.std.proofs.Common.{ℕ, ap, ◌∙◌}
use Rattle.std.specs.Prelude.{find, is_some}
use Rattle.open_records.specs.Records.{is_equal}
use Rattle.open_records.specs.Keyed.{records_of}
use Rattle.record_rows.specs.Inside.{rows_of}
use Rattle.record_rows.specs.Rows.{entries_of}
use Rattle.record_log.proofs.AskingLemmas.{found_any}
use Rattle.record_log.proofs.row_asking.is_open.Goals as goal

pub returns : goal.returns
returns c =
    let a = c.args in
    let records = records_of (entries_of (rows_of a.rows.now)) a.handle a.guid in
    c.is_some.ensures ∙ ap is_some (c.record_of.ensures ∙ ap (λ (attr : ℕ). find (is_equal a.agent a.controller attr) records) c.bits.ensures.value) ∙ found_any (is_equal a.agent a.controller a.attr) records
