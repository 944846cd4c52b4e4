use Rattle.std.proofs.Common.{◌≡◌, ◌||◌, ◌&&◌, nat_eq, List, ℕ, drop}
use Rattle.std.specs.List.{list_any}
use Rattle.open_records.specs.Keyed.{is_of}
use Rattle.open_records.specs.declared.open_record.KeyedRecord.{KeyedRecord}
use Rattle.record_rows.specs.Inside.{rows_of}
use Rattle.record_log.specs.SoundRows.{is_among, is_chosen}
use Rattle.record_log.proofs.row_finding.places_of_agent.Given as goal

-- the places so far, with those of the protocols that are left, are all
abbrev pub invariant-loop-guid : goal.invariant-loop-guid
invariant-loop-guid l =
    (place : ℕ) → (is_among l.places.items place || list_any (λ (guid : List ℕ). is_chosen (λ (one : KeyedRecord). is_of l.handle guid one && nat_eq one.rec.agent l.agent) (rows_of l.rows) place) (drop l.guid-index l.guid-items))
    ≡ list_any (λ (guid : List ℕ). is_chosen (λ (one : KeyedRecord). is_of l.handle guid one && nat_eq one.rec.agent l.agent) (rows_of l.rows) place) l.guid-items
