use Rattle.std.proofs.Common.{length, reverse, vec_len, ap, sym, ◌∙◌}
use Rattle.undo_log.specs.Log.{committed}
use Rattle.undo_log.specs.Sections.{sections}
use Rattle.undo_log.proofs.SectionLemmas.{popped_newest, sections-closed, some_in, starts-closed}
use Rattle.undo_log.proofs.log.Log.commit.Goals as goal

-- an older mark is open
pub invariant_of-self-else-is_empty : goal.invariant_of-self-else-is_empty
invariant_of-self-else-is_empty g c =
    let some = some_in c.pop.new.self.items (vec_len c.pop.new.self) c.is_empty.result c.if-is_empty.false c.is_empty.ensures c.pop.new.self.ok.0 in
    let newest = popped_newest c.self.inside.marks.items c.pop.new.self.items c.pop.result (vec_len c.self.inside.marks) c.self.inside.marks.ok.0 c.pop.ensures.items c.pop.ensures.rest some in
    record {
      starts = starts-closed newest.0 (reverse c.pop.new.self.items) (length c.self.inside.changes.items) (rw newest.1 at c.self.invariant.starts) some;
      room = rw c.pop.ensures.capacity c.self.invariant.room;
    }

pub returns-else-is_empty : goal.returns-else-is_empty
returns-else-is_empty g c =
    let some = some_in c.pop.new.self.items (vec_len c.pop.new.self) c.is_empty.result c.if-is_empty.false c.is_empty.ensures c.pop.new.self.ok.0 in
    let newest = popped_newest c.self.inside.marks.items c.pop.new.self.items c.pop.result (vec_len c.self.inside.marks) c.self.inside.marks.ok.0 c.pop.ensures.items c.pop.ensures.rest some in
    sections-closed newest.0 (reverse c.pop.new.self.items) c.self.inside.changes.items (rw newest.1 at c.self.invariant.starts) some
    ∙ ap (λ marks. committed (sections marks c.self.inside.changes.items)) (sym newest.1)
    ∙ ap (λ log. committed log.marks) c.self.view_is
