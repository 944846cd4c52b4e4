use Rattle.std.proofs.Common.{◌≡◌, ◌&&◌, ℕ, filter, nat_eq, take}
use Rattle.open_records.specs.declared.open_record.KeyedRecord.{KeyedRecord}
use Rattle.record_rows.specs.Asking.{counts_at, passes_at}
use Rattle.record_rows.specs.Inside.{rows_of}
use Rattle.record_rows.proofs.rows.RecordRows.places_among.Given as goal

abbrev pub invariant-loop-number : goal.invariant-loop-number
invariant-loop-number l =
    l.found.items ≡ filter (λ (place : ℕ). counts_at (rows_of l.self) place && passes_at (λ (one : KeyedRecord). nat_eq one.rec.agent l.agent) l.self.lines place) (take l.number-index l.places)
