use Rattle.std.proofs.Common.{◌≡◌, List, Some, None, length, ap, refl, sym, subst, ◌∙◌}
use Rattle.std.specs.Prelude.{option_map, slice_get}
use Rattle.std.proofs.lemmas.Option.{slice_get_past, slice_get_read}
use Rattle.open_records.specs.declared.open_record.KeyedRecord.{KeyedRecord}
use Rattle.record_rows.proofs.MarkLemmas.{rec_at}
use Rattle.record_rows.proofs.rows.RecordRows.rec.Goals as goal

pub returns-in-None : goal.returns-in-None
returns-in-None c =
    let inside = c.self.inside in
    let none : slice_get inside.records.items c.args.place ≡ None = subst (λ (records : List KeyedRecord). slice_get records c.args.place ≡ None) c.deref.ensures.value (slice_get_past c.deref.result.now c.args.place c.in-None.ensures.lookup.3) in
    rw (← c.self.view_is) (sym (rec_at inside.cutters.names inside.cutters.classes inside.records.items inside.marks.items c.args.place c.self.invariant.marked ∙ ap (option_map (λ (one : KeyedRecord). one.rec)) none))

pub returns-in-Some : goal.returns-in-Some
returns-in-Some c =
    let inside = c.self.inside in
    let one = c.in-Some.one.now in
    let lookup = c.in-Some.ensures.lookup in
    let there : slice_get inside.records.items c.args.place ≡ Some one =
    subst (λ (records : List KeyedRecord). slice_get records c.args.place ≡ Some one) c.deref.ensures.value (slice_get_read c.deref.result.now (length c.deref.result.now) c.args.place one refl lookup.3.0 (lookup.3.1 one)) in
    rw (← c.self.view_is) (sym (rec_at inside.cutters.names inside.cutters.classes inside.records.items inside.marks.items c.args.place c.self.invariant.marked ∙ ap (option_map (λ (one : KeyedRecord). one.rec)) there))
