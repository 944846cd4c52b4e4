use Rattle.std.proofs.Common.{◌<◌, ℕ, length, reverse, ap, subst, sym, arith, ◌∙◌}
use Rattle.std.proofs.lemmas.List.{length-reverse}
use Rattle.fw_types.specs.declared.limits.TheConstants.{MOST_MARKS as most_marks}
use Rattle.undo_log.specs.Log.{depth}
use Rattle.undo_log.proofs.SectionLemmas.{length-sections}
use Rattle.undo_log.proofs.log.Log.mark.Goals as goal

-- as many marks are open as the log has
pub push_reserved-requires : goal.push_reserved-requires
push_reserved-requires g c =
    let fewer : length (reverse c.self.inside.marks.items) < most_marks =
    subst (λ (n : ℕ). n < most_marks) (sym (ap depth c.self.view_is) ∙ length-sections (reverse c.self.inside.marks.items) c.self.inside.changes.items) c.requires in
    omega (arith, length-reverse c.self.inside.marks.items, c.self.inside.marks.ok.0, c.self.invariant.room)

pub returns-clause-mark : goal.returns-clause-mark
returns-clause-mark g c =
    c.len.ensures ∙ c.push_reserved.new.self.ok.0
    ∙ sym (length-sections (reverse c.push_reserved.new.self.items) c.self.inside.changes.items ∙ length-reverse c.push_reserved.new.self.items)
