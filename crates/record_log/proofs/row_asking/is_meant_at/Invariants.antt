use Rattle.std.proofs.Common.{◌≡◌, ℕ, drop}
use Rattle.std.specs.List.{list_any}
use Rattle.open_records.specs.Records.{is_asked}
use Rattle.open_records.specs.declared.open_record.KeyedRecord.{KeyedRecord}
use Rattle.record_rows.specs.Asking.{passes_at}
use Rattle.record_log.proofs.row_asking.is_meant_at.Given as goal

-- if one is meant, it is left
abbrev pub invariant-loop-place : goal.invariant-loop-place
invariant-loop-place l =
    list_any (λ (place : ℕ). passes_at (λ (one : KeyedRecord). is_asked l.meant one.rec) l.rows.lines place) (drop l.place-index l.places)
    ≡ list_any (λ (place : ℕ). passes_at (λ (one : KeyedRecord). is_asked l.meant one.rec) l.rows.lines place) l.places
