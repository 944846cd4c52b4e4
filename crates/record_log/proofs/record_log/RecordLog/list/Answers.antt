use Rattle.std.proofs.Common.{◌≡◌, Vec, Global, map, ap, sym, ◌∙◌}
use Rattle.open_records.specs.declared.open_record.Rec.{Rec}
use Rattle.open_records.specs.Keyed.{records_of}
use Rattle.open_records.specs.declared.open_record.KeyedRecord.{KeyedRecord}
use Rattle.record_rows.specs.Asking.{shown_on}
use Rattle.record_rows.specs.Inside.{rows_of}
use Rattle.record_log.specs.MarkedRecords.{MarkedRecords}
use Rattle.record_rows.specs.Rows.{shown}
use Rattle.record_log.proofs.ChosenLemmas.{mapped_ok}
use Rattle.record_rows.proofs.InOrder.{records_in_order}
use Rattle.record_log.proofs.record_log.RecordLog.list.Goals as goal

pub returns : goal.returns
returns c =
    let rows = rows_of c.self.inside.rows in
    mapped_ok c.list.result (λ (v : Vec Rec Global). v.items ≡ map (λ (one : KeyedRecord). one.rec) (shown_on (c.args.handle, c.args.guid) rows)) (λ (v : Vec Rec Global). v.items ≡ records_of c.args.self.now.now.entries c.args.handle c.args.guid)
    (λ v is. is ∙ sym (records_in_order (shown rows) c.args.handle c.args.guid) ∙ ap (λ (m : MarkedRecords). records_of m.now.entries c.args.handle c.args.guid) c.self.view_is)
    c.list.ensures
