use Rattle.std.proofs.Common.{◌≡◌, drop}
use Rattle.std.specs.List.{list_any}
use Rattle.open_records.specs.Records.{is_for_child}
use Rattle.open_records.specs.declared.open_record.KeyedRecord.{KeyedRecord}
use Rattle.record_rows.specs.Asking.{shown_among}
use Rattle.record_rows.specs.Inside.{rows_of}
use Rattle.record_rows.proofs.rows.RecordRows.any_child_at.Given as goal

-- whether one is found is whether one of the rest is
abbrev pub invariant-loop-place : goal.invariant-loop-place
invariant-loop-place l =
    list_any (λ (one : KeyedRecord). is_for_child one.rec) (shown_among (rows_of l.self) (drop l.place-index l.places))
    ≡ list_any (λ (one : KeyedRecord). is_for_child one.rec) (shown_among (rows_of l.self) l.places)
