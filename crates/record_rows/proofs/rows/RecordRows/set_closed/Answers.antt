use Rattle.std.proofs.Common.{◌≡◌, ◌≤◌, ℕ, List, length, set, get_or, ap, subst, sym, ◌∙◌}
use Rattle.record_rows.specs.Index.{is_key_on, is_other_on}
use Rattle.record_rows.specs.Inside.{cuts_in, lines_of}
use Rattle.record_rows.specs.RowsKept.{AreRowsKept}
use Rattle.record_rows.specs.Rows.{Line}
use Rattle.record_rows.specs.declared.cutters.Mark.{Mark}
use Rattle.record_rows.proofs.MarkLemmas.{closed_past, keys_stay, lines_closed, lines_long, marked_closed, marks_long}
use Rattle.record_rows.proofs.ShownRows.{nothing_shown}
use Rattle.record_rows.proofs.rows.RecordRows.set_closed.Goals as goal

pub invariant_of-self : goal.invariant_of-self
invariant_of-self c =
    let inside = c.self.inside in
    let same = keys_stay inside.marks.items c.args.place c.args.closed c.index_mut.result.now in
    let marked = marked_closed inside.cutters.names inside.cutters.classes inside.records.items inside.marks.items c.args.place c.args.closed c.index_mut.result.now c.self.invariant.marked in
    subst (λ (mark : Mark). AreRowsKept inside.cutters.names inside.cutters.classes inside.records.items (set inside.marks.items c.args.place (record mark { closed = c.args.closed })) inside.index c.forget.new.self c.forget-2.new.self) (sym c.index_mut.ensures.value)
    (record {
      marked = marked;
      keys = c.self.invariant.keys ∙ sym same;
      shown =
          nothing_shown is_key_on (record { lines = lines_of inside.records.items (set inside.marks.items c.args.place (record (get_or inside.marks.items c.args.place c.index_mut.result.now) { closed = c.args.closed })); cuts = cuts_in inside.cutters.names inside.cutters.classes })
          inside.index c.forget.new.self c.forget.ensures;
      shown_others =
          nothing_shown is_other_on (record { lines = lines_of inside.records.items (set inside.marks.items c.args.place (record (get_or inside.marks.items c.args.place c.index_mut.result.now) { closed = c.args.closed })); cuts = cuts_in inside.cutters.names inside.cutters.classes })
          inside.index c.forget-2.new.self c.forget-2.ensures;
    })

pub returns-then-place-len : goal.returns-then-place-len
returns-then-place-len c =
    let inside = c.self.inside in
    rw (← c.self.view_is)
    (ap (λ (lines : List Line). record { lines = lines; names = inside.cutters.names; classes = inside.cutters.classes })
    (lines_closed inside.records.items inside.marks.items c.args.place (record c.index_mut.result.now { closed = c.args.closed })))

pub returns-else-place-len : goal.returns-else-place-len
returns-else-place-len c =
    let inside = c.self.inside in
    let long : length (lines_of inside.records.items inside.marks.items) ≡ c.len.result =
    lines_long inside.cutters.names inside.cutters.classes inside.records.items inside.marks.items c.self.invariant.marked
    ∙ sym (marks_long inside.cutters.names inside.cutters.classes inside.records.items inside.marks.items c.self.invariant.marked) ∙ sym (c.len.ensures ∙ inside.marks.ok.0) in
    let past : length (lines_of inside.records.items inside.marks.items) ≤ c.args.place = subst (λ (n : ℕ). n ≤ c.args.place) (sym long) c.if-place-len.false in
    rw (← c.self.view_is)
    (ap (λ (lines : List Line). record { lines = lines; names = inside.cutters.names; classes = inside.cutters.classes })
    (sym (closed_past (lines_of inside.records.items inside.marks.items) c.args.place c.args.closed past)))
