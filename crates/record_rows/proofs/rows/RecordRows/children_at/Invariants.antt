use Rattle.std.proofs.Common.{◌≡◌, ◌++◌, drop, filter, map}
use Rattle.open_records.specs.Records.{is_for_child}
use Rattle.open_records.specs.declared.open_record.KeyedRecord.{KeyedRecord}
use Rattle.record_rows.specs.Asking.{shown_among}
use Rattle.record_rows.specs.Inside.{rows_of}
use Rattle.record_rows.proofs.rows.RecordRows.children_at.Given as goal

-- what was found, with what the other places give, is the whole
abbrev pub invariant-loop-place : goal.invariant-loop-place
invariant-loop-place l =
    l.found.items ++ filter is_for_child (map (λ (one : KeyedRecord). one.rec) (shown_among (rows_of l.self) (drop l.place-index l.places)))
    ≡ filter is_for_child (map (λ (one : KeyedRecord). one.rec) (shown_among (rows_of l.self) l.places))
