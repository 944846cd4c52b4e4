use Rattle.std.proofs.Common.{◌≡◌, ◌+◌, ◌++◌, ℕ, suc, arith, List, true, false, take, drop, ap, sym, ◌∙◌}
use Rattle.record_rows.specs.Asking.{closed_where, passes_at}
use Rattle.record_rows.specs.Inside.{Kept}
use Rattle.record_rows.specs.Rows.{Line, closed_at}
use Rattle.record_rows.proofs.Walks.{close_step, pass_step}
use Rattle.record_rows.proofs.rows.RecordRows.close_where.Goals as goal
use Rattle.record_rows.proofs.rows.RecordRows.close_where.Goals.{else-passes, then-passes}

pub loop-place-preserved : goal.loop-place-preserved
loop-place-preserved g c =
    let before = c.args.self.now in
    let place = c.loop-place.place in
    let test = g.T.Test.chosen c.args.test.now in
    let lines = before.lines in
    let on : suc place ≡ place + 1 = omega arith in
    let so_far : c.loop-place.self ≡ record before { lines = closed_where test (take place lines) ++ drop place lines } = c.loop-place.invariant in
    elim c.if-passes.branch [
      | then-passes w ↦
          let passes : passes_at test (closed_where test (take place lines) ++ drop place lines) place ≡ true = ap (λ (kept : Kept). passes_at test kept.lines place) (sym so_far) ∙ sym w.if-passes.ensures in
          w.self-is ∙ w.set_closed.ensures ∙ ap (λ (kept : Kept). record kept { lines = closed_at place true kept.lines }) so_far
          ∙ ap (λ (l : List Line). record before { lines = l }) (close_step test place lines passes ∙ ap (λ (n : ℕ). closed_where test (take n lines) ++ drop n lines) on)
      | else-passes w ↦
          let fails : passes_at test (closed_where test (take place lines) ++ drop place lines) place ≡ false = ap (λ (kept : Kept). passes_at test kept.lines place) (sym so_far) ∙ sym w.if-passes.ensures in
          w.self-is ∙ so_far ∙ ap (λ (l : List Line). record before { lines = l }) (pass_step test place lines fails ∙ ap (λ (n : ℕ). closed_where test (take n lines) ++ drop n lines) on)
    ]
