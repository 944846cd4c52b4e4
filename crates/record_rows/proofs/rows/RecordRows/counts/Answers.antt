use Rattle.std.proofs.Common.{◌≡◌, List, Some, None, length, ap, refl, sym, subst, ◌∙◌}
use Rattle.std.specs.Prelude.{slice_get}
use Rattle.std.proofs.lemmas.Option.{slice_get_past, slice_get_read}
use Rattle.record_rows.specs.Asking.{counts_in}
use Rattle.record_rows.specs.Inside.{cuts_in}
use Rattle.record_rows.specs.declared.cutters.Mark.{Mark}
use Rattle.record_rows.proofs.MarkLemmas.{no_row, row_of_mark}
use Rattle.record_rows.proofs.rows.RecordRows.counts.Goals as goal

pub returns-in-None : goal.returns-in-None
returns-in-None c =
    let inside = c.self.inside in
    let cutters = inside.cutters in
    let none : slice_get inside.marks.items c.args.place ≡ None = subst (λ (marks : List Mark). slice_get marks c.args.place ≡ None) c.deref.ensures.value (slice_get_past c.deref.result.now c.args.place c.in-None.ensures.lookup.3) in
    let row = no_row cutters.names cutters.classes inside.records.items inside.marks.items c.args.place c.self.invariant.marked none in
    rw (← c.self.view_is) (ap (counts_in (cuts_in cutters.names cutters.classes) c.args.place) (sym row))

pub returns-in-Some : goal.returns-in-Some
returns-in-Some c =
    let inside = c.self.inside in
    let cutters = inside.cutters in
    let mark = c.in-Some.mark.now in
    let lookup = c.in-Some.ensures.lookup in
    let there : slice_get inside.marks.items c.args.place ≡ Some mark =
    subst (λ (marks : List Mark). slice_get marks c.args.place ≡ Some mark) c.deref.ensures.value (slice_get_read c.deref.result.now (length c.deref.result.now) c.args.place mark refl lookup.3.0 (lookup.3.1 mark)) in
    let has = row_of_mark cutters.names cutters.classes inside.records.items inside.marks.items c.args.place mark c.self.invariant.marked there in
    rw (← c.self.view_is) (c.counts.ensures has.0 has.1.is ∙ ap (counts_in (cuts_in cutters.names cutters.classes) c.args.place) (sym has.1.row))
