use Rattle.std.proofs.Common.{reverse, vec_len, ap, sym, ◌∙◌}
use Rattle.undo_log.specs.Log.{last_change, without_last}
use Rattle.undo_log.proofs.SectionLemmas.{newest_first, nothing_since, taken_since}
use Rattle.undo_log.proofs.log.Log.take_last.Goals as goal

-- nothing was changed since the newest mark
pub returns-then-len-newest-clause-change : goal.returns-then-len-newest-clause-change
returns-then-len-newest-clause-change g c =
    let first = newest_first c.as_slice.result.now c.self.inside.marks.items c.in_ok-newest.newest.now c.as_slice.ensures.value c.in_ok-newest.ensures.value in
    let count = sym c.self.inside.changes.ok.0 ∙ sym c.len.ensures ∙ c.if-len-newest.true in
    (nothing_since (reverse c.self.inside.marks.items) _ c.in_ok-newest.newest.now c.self.inside.changes.items first count).0
    ∙ ap (λ log. last_change log.marks) c.self.view_is

pub returns-then-len-newest-clause-rest : goal.returns-then-len-newest-clause-rest
returns-then-len-newest-clause-rest g c =
    let first = newest_first c.as_slice.result.now c.self.inside.marks.items c.in_ok-newest.newest.now c.as_slice.ensures.value c.in_ok-newest.ensures.value in
    let count = sym c.self.inside.changes.ok.0 ∙ sym c.len.ensures ∙ c.if-len-newest.true in
    ap (λ log. log.marks) (sym c.self.view_is)
    ∙ (nothing_since (reverse c.self.inside.marks.items) _ c.in_ok-newest.newest.now c.self.inside.changes.items first count).1
    ∙ ap (λ log. without_last log.marks) c.self.view_is

-- or the last change is popped
pub returns-clause-change : goal.returns-clause-change
returns-clause-change g c =
    let first = newest_first c.as_slice.result.now c.self.inside.marks.items c.in_ok-newest.newest.now c.as_slice.ensures.value c.in_ok-newest.ensures.value in
    let taken = taken_since (reverse c.self.inside.marks.items) _ c.in_ok-newest.newest.now c.self.inside.changes.items c.pop.new.self.items c.pop.result (vec_len c.self.inside.changes) c.self.inside.changes.ok.0 first c.self.invariant.starts
    (λ same. c.if-len-newest.false (c.len.ensures ∙ same)) c.pop.ensures.items c.pop.ensures.rest in
    taken.0 ∙ ap (λ log. last_change log.marks) c.self.view_is

pub returns-clause-rest : goal.returns-clause-rest
returns-clause-rest g c =
    let first = newest_first c.as_slice.result.now c.self.inside.marks.items c.in_ok-newest.newest.now c.as_slice.ensures.value c.in_ok-newest.ensures.value in
    let taken = taken_since (reverse c.self.inside.marks.items) _ c.in_ok-newest.newest.now c.self.inside.changes.items c.pop.new.self.items c.pop.result (vec_len c.self.inside.changes) c.self.inside.changes.ok.0 first c.self.invariant.starts
    (λ same. c.if-len-newest.false (c.len.ensures ∙ same)) c.pop.ensures.items c.pop.ensures.rest in
    taken.1 ∙ ap (λ log. without_last log.marks) c.self.view_is
