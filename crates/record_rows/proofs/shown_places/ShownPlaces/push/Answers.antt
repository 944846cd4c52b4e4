use Rattle.std.proofs.Common.{◌≡◌, ◌<◌, ℕ, Some, length, refl, subst, ◌∙◌}
use Rattle.std.specs.Prelude.{slice_get}
use Rattle.std.proofs.lemmas.Option.{slice_get_read}
use Rattle.record_rows.proofs.ShownLemmas.{is_added, others_set}
use Rattle.record_rows.proofs.shown_places.ShownPlaces.push.Goals as goal

pub returns-then-number-len : goal.returns-then-number-len
returns-then-number-len c =
    let inside = c.self.inside in
    let lists = inside.lists.items in
    let old = c.index_mut.result.now in
    let within : c.args.number < length lists = subst (λ (n : ℕ). c.args.number < n) (c.len.ensures ∙ inside.lists.ok.0) c.if-number-len.true in
    let there : slice_get lists c.args.number ≡ Some old = slice_get_read lists (length lists) c.args.number old refl within c.index_mut.ensures.value in
    rw (← c.self.view_is) (record {
      others = λ other differs. others_set inside.changes c.args.number lists c.push.new.self other differs;
      here = λ listed is. is_added inside.changes c.args.number c.args.place lists old c.push.new.self c.self.invariant.some within there c.push.ensures listed is;
    })
