use Rattle.std.proofs.Common.{refl, sym, subst}
use Rattle.world_model.specs.declared.change.Change.TheVariants.{Free}
use Rattle.world_model.specs.World.{Soft}
use Rattle.world_model.specs.Kept.{IsKept}
use Rattle.world_model.specs.Undo.{taken_back}
use Rattle.soft_part.specs.Soft.{soft_of}
use Rattle.soft_part.proofs.soft_part.SoftPart.put_back.Goals as goal

pub put_back-requires : goal.put_back-requires
unfolding taken_back
put_back-requires c =
    let inside = c.self.inside in
    let soft : Soft = soft_of inside.memory inside.database inside.plain in
    let kept : IsKept (taken_back (Free c.args.segment) soft) = subst (λ (s : Soft). IsKept (taken_back (Free c.args.segment) s)) (sym c.self.view_is) c.requires in
    kept.memory.apart

pub invariant_of-self-2 : goal.invariant_of-self-2
unfolding taken_back
invariant_of-self-2 c =
    let inside = c.self.inside in
    let soft : Soft = soft_of inside.memory inside.database inside.plain in
    let kept : IsKept (taken_back (Free c.args.segment) soft) = subst (λ (s : Soft). IsKept (taken_back (Free c.args.segment) s)) (sym c.self.view_is) c.requires in
    rw c.in_ok-put_back.ensures.ok kept

pub returns : goal.returns
unfolding taken_back
returns c = rw (c.in_ok-put_back.ensures.ok, ← c.self.view_is) refl
