use Rattle.std.proofs.Common.{◌≡◌, ap, refl, sym, subst, ◌∙◌}
use Rattle.world_model.specs.declared.change.Change.TheVariants.{Uninstall}
use Rattle.world_model.specs.World.{Soft}
use Rattle.world_model.specs.Kept.{IsKept}
use Rattle.world_model.specs.Undo.{taken_back, with_child}
use Rattle.soft_part.specs.Soft.{soft_of}
use Rattle.soft_part.proofs.soft_part.SoftPart.reinstall.Goals as goal

pub invariant_of-self-2 : goal.invariant_of-self-2
unfolding taken_back
invariant_of-self-2 c =
    let inside = c.self.inside in
    let soft : Soft = soft_of inside.memory inside.database inside.plain in
    let change = Uninstall c.args.went in
    let kept : IsKept (taken_back change soft) = subst (λ (s : Soft). IsKept (taken_back change s)) (sym c.self.view_is) c.requires.kept in
    let children : c.put_child.new.children.items ≡ with_child c.args.went.child inside.plain.bus_children.items = c.in_ok-put_child.ensures.ok ∙ ap (λ v. with_child c.args.went.child v.items) c.replace-children.ensures.value in
    rw (c.in_ok-undo_remove.ensures.ok, children) kept

pub returns : goal.returns
unfolding taken_back
returns c =
    let inside = c.self.inside in
    let children : c.put_child.new.children.items ≡ with_child c.args.went.child inside.plain.bus_children.items = c.in_ok-put_child.ensures.ok ∙ ap (λ v. with_child c.args.went.child v.items) c.replace-children.ensures.value in
    rw (c.in_ok-undo_remove.ensures.ok, children, ← c.self.view_is) refl
