use Rattle.std.proofs.Common.{ℕ, sym, ◌∙◌}
use Rattle.open_records.specs.Records.{is_asked}
use Rattle.open_records.specs.declared.open_record.KeyedRecord.{KeyedRecord}
use Rattle.record_rows.specs.Asking.{passes_at}
use Rattle.record_log.proofs.AskingLemmas.{look_end, look_found, look_on}
use Rattle.record_log.proofs.row_asking.is_meant_at.Goals as goal

pub loop-place-preserved : goal.loop-place-preserved
loop-place-preserved c =
    look_on (λ (place : ℕ). passes_at (λ (one : KeyedRecord). is_asked c.args.meant.now one.rec) c.args.rows.now.lines place) c.args.places.now c.loop-place.place-index c.loop-place.invariant c.loop-place-test.true
    (sym c.is_one_meant.ensures ∙ c.if-is_one_meant.false)

pub returns-then-is_one_meant : goal.returns-then-is_one_meant
returns-then-is_one_meant c =
    look_found (λ (place : ℕ). passes_at (λ (one : KeyedRecord). is_asked c.args.meant.now one.rec) c.args.rows.now.lines place) c.args.places.now c.loop-place.place-index c.loop-place.invariant c.loop-place-test.true
    (sym c.is_one_meant.ensures ∙ c.if-is_one_meant.true)

pub returns : goal.returns
returns c =
    look_end (λ (place : ℕ). passes_at (λ (one : KeyedRecord). is_asked c.args.meant.now one.rec) c.args.rows.now.lines place) c.args.places.now c.loop-place.place-index c.loop-place.invariant c.loop-place-test.false
