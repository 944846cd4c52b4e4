use Rattle.std.proofs.Common.{◌<◌, ℕ, reverse, vec_len, ap, subst, ◌∙◌, sym}
use Rattle.undo_log.specs.Log.{depth}
use Rattle.undo_log.proofs.SectionLemmas.{length-sections, on_error, some_in}
use Rattle.undo_log.proofs.log.Log.reserve.Goals as goal

-- memory is asked for only if a mark is open
pub returns-in_err-reserve-clause-unmarked : goal.returns-in_err-reserve-clause-unmarked
returns-in_err-reserve-clause-unmarked g c =
    let some = some_in c.self.inside.marks.items (vec_len c.self.inside.marks) c.is_empty.result c.if-not-is_empty.true c.is_empty.ensures c.self.inside.marks.ok.0 in
    let count = sym (length-sections (reverse c.self.inside.marks.items) c.self.inside.changes.items) ∙ ap depth c.self.view_is in
    on_error c.from_residual.result (subst (λ (n : ℕ). 0 < n) count some)
