use Rattle.std.proofs.Common.{refl, sym, subst}
use Rattle.world_model.specs.declared.change.Change.TheVariants.{SetBusList}
use Rattle.world_model.specs.World.{Soft}
use Rattle.world_model.specs.Kept.{IsKept}
use Rattle.world_model.specs.Undo.{taken_back}
use Rattle.soft_part.specs.Soft.{soft_of}
use Rattle.soft_part.proofs.soft_part.SoftPart.put_list_back.Goals as goal

pub invariant_of-self : goal.invariant_of-self
unfolding taken_back
invariant_of-self c =
    let inside = c.self.inside in
    let soft : Soft = soft_of inside.memory inside.database inside.plain in
    let kept : IsKept (taken_back (SetBusList c.args.function c.args.before) soft) = subst (λ (s : Soft). IsKept (taken_back (SetBusList c.args.function c.args.before) s)) (sym c.self.view_is) c.requires in
    rw (c.replace_list.ensures.now) kept

pub returns : goal.returns
unfolding taken_back
returns c = rw (c.replace_list.ensures.now, ← c.self.view_is) refl
