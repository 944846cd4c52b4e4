use Rattle.std.proofs.Common.{◌≡◌, ◌+◌, ◌<◌, ℕ, length, drop, ap, subst, sym, ◌∙◌, arith, length-append}
use Rattle.record_rows.specs.Asking.{counts_at, shown_at}
use Rattle.record_rows.specs.Inside.{rows_of}
use Rattle.record_rows.specs.Rows.{shown_from}
use Rattle.record_rows.proofs.Walks.{length_at, shown_one, shown_step}
use Rattle.record_rows.proofs.rows.RecordRows.shown_count.Goals as goal
use Rattle.record_rows.proofs.rows.RecordRows.shown_count.Goals.{else-counts, then-counts}

pub loop-place-preserved : goal.loop-place-preserved
loop-place-preserved c =
    let rows = rows_of c.args.self.now in
    let place = c.loop-place.place in
    let within : place < length rows.lines = subst (λ (n : ℕ). place < n) c.len-place-end.ensures c.loop-place-test.true in
    let later = shown_from (place + 1) rows.cuts (drop (place + 1) rows.lines) in
    let split : length (shown_from place rows.cuts (drop place rows.lines)) ≡ shown_one (counts_at rows place) + length later =
    ap length (shown_step rows place within) ∙ length-append (shown_at rows place) later ∙ ap (λ (n : ℕ). n + length later) (length_at rows place) in
    elim c.if-counts.branch [
      | then-counts w ↦
          let one : shown_one (counts_at rows place) ≡ 1 = ap shown_one (sym w.if-counts.ensures) in
          rw (w.count-is) (omega (arith, c.loop-place.invariant.0), omega (arith, c.loop-place.invariant.1, split, one))
      | else-counts w ↦
          let none : shown_one (counts_at rows place) ≡ 0 = ap shown_one (sym w.if-counts.ensures) in
          rw (w.count-is) (omega (arith, c.loop-place.invariant.0), omega (arith, c.loop-place.invariant.1, split, none))
    ]
