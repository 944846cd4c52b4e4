use Rattle.std.proofs.Common.{◌≡◌, ◌+◌, length, reverse, vec_len, vec_capacity, nat_lt, ap, arith, ◌∙◌}
use Rattle.std.proofs.lemmas.Bool.{ltb-true}
use Rattle.std.proofs.lemmas.List.{length_push}
use Rattle.undo_log.specs.Log.{has_room, noted}
use Rattle.undo_log.specs.Sections.{sections}
use Rattle.undo_log.proofs.SectionLemmas.{room_in, sections-push, some_in, starts-push}
use Rattle.undo_log.proofs.log.Log.note.Goals as goal

-- a mark is there, so there is room
pub push_reserved-requires : goal.push_reserved-requires
push_reserved-requires g c =
    let some = some_in c.self.inside.marks.items (vec_len c.self.inside.marks) c.is_empty.result c.if-not-is_empty.true c.is_empty.ensures c.self.inside.marks.ok.0 in
    ltb-true _ _ (room_in (reverse c.self.inside.marks.items) c.self.inside.changes.items (nat_lt (vec_len c.self.inside.changes) (vec_capacity c.self.inside.changes)) some (ap has_room c.self.view_is ∙ c.requires))

pub invariant_of-self : goal.invariant_of-self
invariant_of-self g c =
    let some = some_in c.self.inside.marks.items (vec_len c.self.inside.marks) c.is_empty.result c.if-not-is_empty.true c.is_empty.ensures c.self.inside.marks.ok.0 in
    let more : length c.push_reserved.new.self.items ≡ length c.self.inside.changes.items + 1 = ap length c.push_reserved.ensures.items ∙ length_push c.self.inside.changes.items c.args.change in
    record {
      starts = starts-push (reverse c.self.inside.marks.items) (length c.self.inside.changes.items) (length c.push_reserved.new.self.items) c.self.invariant.starts some (omega arith);
      room = c.self.invariant.room;
    }

pub returns-then-not-is_empty : goal.returns-then-not-is_empty
returns-then-not-is_empty g c =
    let some = some_in c.self.inside.marks.items (vec_len c.self.inside.marks) c.is_empty.result c.if-not-is_empty.true c.is_empty.ensures c.self.inside.marks.ok.0 in
    ap (sections (reverse c.self.inside.marks.items)) c.push_reserved.ensures.items
    ∙ sections-push (reverse c.self.inside.marks.items) c.self.inside.changes.items c.args.change c.self.invariant.starts some
    ∙ ap (λ log. noted c.args.change log.marks) c.self.view_is
