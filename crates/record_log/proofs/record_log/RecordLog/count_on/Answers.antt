use Rattle.std.proofs.Common.{◌≡◌, List, ℕ, filter, length, ap, sym, ◌∙◌, arith}
use Rattle.std.proofs.lemmas.List.{length-map}
use Rattle.open_records.specs.Keyed.{is_of, records_of}
use Rattle.open_records.specs.declared.open_record.KeyedRecord.{KeyedRecord}
use Rattle.open_records.proofs.ListLemmas.{length-filter-le}
use Rattle.record_rows.specs.Inside.{rows_of}
use Rattle.record_log.specs.MarkedRecords.{MarkedRecords}
use Rattle.record_rows.specs.Rows.{RowsView, entries_of, shown}
use Rattle.record_rows.proofs.InOrder.{length_in_order, records_in_order}
use Rattle.record_log.proofs.record_log.RecordLog.count_on.Goals as goal

counted_on : (rows : RowsView) (handle : ℕ) (guid : List ℕ) → length (filter (is_of handle guid) (shown rows)) ≡ length (records_of (entries_of rows) handle guid)
counted_on rows handle guid =
    sym (ap length (records_in_order (shown rows) handle guid) ∙ length-map (filter (is_of handle guid) (shown rows)) (λ (one : KeyedRecord). one.rec))

pub overflow_cast-result : goal.overflow_cast-result
overflow_cast-result c =
    let rows = rows_of c.self.inside.rows in
    omega (arith, c.count_on.ensures, length-filter-le (is_of c.args.handle c.args.guid) (shown rows), length_in_order (shown rows), c.self.invariant.now.table.few)

pub returns : goal.returns
returns c =
    c.count_on.ensures ∙ counted_on (rows_of c.self.inside.rows) c.args.handle c.args.guid
    ∙ ap (λ (v : MarkedRecords). length (records_of v.now.entries c.args.handle c.args.guid)) c.self.view_is
