use Rattle.std.proofs.Common.{◌<◌, ℕ, length, ap, refl, ◌∙◌, arith}
use Rattle.record_rows.specs.ShownPlaces.{listed_at}
use Rattle.record_rows.specs.declared.shown_places.ShownList.{ShownList}
use Rattle.record_rows.proofs.ShownLemmas.{is_set, listed_long, others_set, stamped_set}
use Rattle.record_rows.proofs.shown_places.ShownPlaces.set.Goals as goal

pub invariant_of-self : goal.invariant_of-self
invariant_of-self c =
    let inside = c.self.inside in
    let one : ShownList = record { stamp = inside.changes; places = c.args.places } in
    stamped_set inside.changes c.args.number inside.lists.items one c.self.invariant (omega arith)

pub returns-clause-ok : goal.returns-clause-ok
returns-clause-ok c =
    let inside = c.self.inside in
    let one : ShownList = record { stamp = inside.changes; places = c.args.places } in
    let lists = inside.lists.items in
    let within : c.args.number < length lists = omega (arith, c.in_ok-reach.ensures.reached, ap length c.self.view_is, listed_long inside.changes lists) in
    let same = λ (other : ℕ). (ap (listed_at other) c.self.view_is ∙ c.in_ok-reach.ensures.same other) in
    record {
      others = λ other differs. others_set inside.changes c.args.number lists one other differs ∙ same other;
      here = λ listed is. is_set inside.changes c.args.number lists one within refl listed is;
    }
