use Rattle.std.proofs.Common.{◌++◌, ◌∷◌, [], refl, subst, sym}
use Rattle.std.specs.Option.{IsSome}
use Rattle.record_rows.specs.IndexInside.{AreLast}
use Rattle.record_rows.proofs.LastLemmas.{has_last, last_fewer}
use Rattle.record_rows.proofs.last_places.LastPlaces.pop.Goals as goal

pub restore-requires : goal.restore-requires
restore-requires c =
    let were : AreLast c.self.inside.last (c.pop.new.self.items ++ c.in_ok-row.row ∷ []) = subst (AreLast c.self.inside.last) c.in_ok-row.ensures.items c.self.invariant in
    subst IsSome (sym (has_last c.self.inside.last c.pop.new.self.items c.in_ok-row.row were)) refl

pub invariant_of-self-2 : goal.invariant_of-self-2
invariant_of-self-2 c =
    let were : AreLast c.self.inside.last (c.pop.new.self.items ++ c.in_ok-row.row ∷ []) = subst (AreLast c.self.inside.last) c.in_ok-row.ensures.items c.self.invariant in
    last_fewer c.self.inside.last c.restore.new.last c.pop.new.self.items c.in_ok-row.row were c.restore.ensures
