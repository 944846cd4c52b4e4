use Rattle.std.proofs.Common.{◌≡◌, ℕ, List, false, nat_le, length, ap, sym, ◌∙◌}
use Rattle.std.specs.List.{list_any}
use Rattle.open_records.specs.Adding.{is_full}
use Rattle.open_records.specs.OpenRecords.{is_equal, records_of}
use Rattle.record_rows.specs.Inside.{rows_of}
use Rattle.record_log.specs.MarkedRecords.{MarkedRecords}
use Rattle.record_rows.specs.Rows.{RowsView, entries_of, shown}
use Rattle.record_log.specs.TakingBack.{table_of}
use Rattle.record_rows.proofs.InOrder.{length_in_order}
use Rattle.record_log.proofs.record_log.RecordLog.is_full.Goals as goal

full_by : (limit handle : ℕ) (guid : List ℕ) (agent controller attr : ℕ) (rows : RowsView) → list_any (is_equal agent controller attr) (records_of (entries_of rows) handle guid) ≡ false
    → nat_le limit (length (shown rows)) ≡ is_full handle guid agent controller attr (table_of limit rows)
full_by limit handle guid agent controller attr rows none = rw none (ap (nat_le limit) (sym (length_in_order (shown rows))))

pub returns : goal.returns
returns c =
    let a = c.args in
    c.is_at_limit.ensures ∙ full_by c.self.inside.limit a.handle a.guid a.agent a.controller a.attr (rows_of c.self.inside.rows) (sym c.is_open.ensures ∙ c.if-is_open.false)
    ∙ ap (λ (v : MarkedRecords). is_full a.handle a.guid a.agent a.controller a.attr v.now) c.self.view_is
