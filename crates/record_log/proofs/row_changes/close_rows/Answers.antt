use Rattle.std.proofs.Common.{◌≡◌, List, ℕ, true, sym, ap, subst, ◌∙◌}
use Rattle.record_log.specs.SoundRows.{IsChange, without}
use Rattle.record_log.specs.TakingBack.{closed_each}
use Rattle.record_log.specs.declared.record_change.RecordChange.{RecordChange}
use Rattle.record_log.proofs.LineChanges.{closed_change}
use Rattle.record_log.proofs.row_changes.close_rows.Goals as goal

pub returns-clause-change : goal.returns-clause-change
returns-clause-change c limit test sound are =
    let old = c.args.rows.now in
    let new = c.close_each.new.rows in
    let is : new ≡ record old { lines = closed_each c.args.places.items true old.lines } =
    c.close_each.ensures.rows ∙ ap (λ (places : List ℕ). record old { lines = closed_each places true old.lines }) c.as_slice.ensures.value in
    subst (λ (change : RecordChange). IsChange limit change (without test) old new) (sym c.closed.ensures) (closed_change limit test c.args.places.items old new is sound are)
