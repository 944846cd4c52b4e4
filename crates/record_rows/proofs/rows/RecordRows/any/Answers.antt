use Rattle.std.proofs.Common.{◌≡◌, ◌&&◌, ◌||◌, ◌+◌, ◌<◌, ℕ, Bool, true, false, length, drop, ap, refl, subst, sym, ◌∙◌}
use Rattle.std.specs.List.{list_any}
use Rattle.record_rows.specs.Asking.{counts_at, passes_at}
use Rattle.record_rows.specs.Inside.{rows_of}
use Rattle.record_rows.specs.Rows.{shown_from}
use Rattle.record_rows.proofs.Walks.{any_step}
use Rattle.record_rows.proofs.rows.RecordRows.any.Goals as goal
use Rattle.record_rows.proofs.rows.RecordRows.any.Goals.{else-counts-via-else-counts, else-counts-via-then-counts+else-passes}

pub returns-then-passes : goal.returns-then-passes
returns-then-passes g c =
    let rows = rows_of c.args.self.now in
    let place = c.loop-place.place in
    let test = g.T.Test.chosen c.args.test.now in
    let within : place < length rows.lines = subst (λ (n : ℕ). place < n) c.len-place-end.ensures c.loop-place-test.true in
    let later = list_any test (shown_from (place + 1) rows.cuts (drop (place + 1) rows.lines)) in
    let found : true ≡ ((counts_at rows place && passes_at test rows.lines place) || later) = rw (← c.if-counts.ensures, ← c.if-passes.ensures) refl in
    found ∙ sym (any_step test rows place within) ∙ c.loop-place.invariant

pub loop-place-preserved : goal.loop-place-preserved
loop-place-preserved g c =
    let rows = rows_of c.args.self.now in
    let place = c.loop-place.place in
    let test = g.T.Test.chosen c.args.test.now in
    let within : place < length rows.lines = subst (λ (n : ℕ). place < n) c.len-place-end.ensures c.loop-place-test.true in
    let later = list_any test (shown_from (place + 1) rows.cuts (drop (place + 1) rows.lines)) in
    let none : (counts_at rows place && passes_at test rows.lines place) ≡ false = elim c.else-counts.branch [
      | else-counts-via-then-counts+else-passes w ↦ rw (← w.if-counts.ensures, ← w.if-passes.ensures) refl
      | else-counts-via-else-counts w ↦ rw (← w.if-counts.ensures) refl
    ] in
    ap (λ (b : Bool). b || later) (sym none) ∙ sym (any_step test rows place within) ∙ c.loop-place.invariant
