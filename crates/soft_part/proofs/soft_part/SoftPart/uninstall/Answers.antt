use Rattle.std.proofs.Common.{ap, refl, sym, ◌∙◌}
use Rattle.world_model.specs.World.{Soft}
use Rattle.world_model.specs.Interfaces.{is_lasting}
use Rattle.soft_part.specs.Soft.{soft_of}
use Rattle.soft_part.proofs.Keeps.{kept_uninstalled, uninstalled_is}
use Rattle.soft_part.proofs.Noted.{noted_uninstall}
use Rattle.soft_part.proofs.soft_part.SoftPart.uninstall.Goals as goal

pub invariant_of-self-in_err-new : goal.invariant_of-self-in_err-new
invariant_of-self-in_err-new c =
    let inside = c.self.inside in
    let soft : Soft = soft_of inside.memory inside.database inside.plain in
    kept_uninstalled soft c.args.handle c.args.guid c.remove.new.self c.take_child-child.new.children.items c.self.invariant refl
    (ap (λ (s : Soft). is_lasting c.args.handle c.args.guid s) c.self.view_is ∙ c.requires) c.in_ok-removed.ensures.ok c.take_child-child.ensures.left

pub invariant_of-self-2 : goal.invariant_of-self-2
invariant_of-self-2 c =
    let inside = c.self.inside in
    let soft : Soft = soft_of inside.memory inside.database inside.plain in
    kept_uninstalled soft c.args.handle c.args.guid c.remove.new.self c.take_child-child.new.children.items c.self.invariant refl
    (ap (λ (s : Soft). is_lasting c.args.handle c.args.guid s) c.self.view_is ∙ c.requires) c.in_ok-removed.ensures.ok c.take_child-child.ensures.left

pub returns-clause-noted : goal.returns-clause-noted
returns-clause-noted c =
    let inside = c.self.inside in
    let soft : Soft = soft_of inside.memory inside.database inside.plain in
    rw (c.in_ok-new.ensures, ← c.self.view_is)
    (noted_uninstall soft c.args.handle c.args.guid c.in_ok-removed.removed c.take_child-child.result c.remove.new.self c.take_child-child.new.children.items c.self.invariant refl
    (sym c.in_ok-removed.ensures.answer) c.in_ok-removed.ensures.ok c.take_child-child.ensures.gone c.take_child-child.ensures.left)

pub returns-clause-ok : goal.returns-clause-ok
returns-clause-ok c =
    let inside = c.self.inside in
    let soft : Soft = soft_of inside.memory inside.database inside.plain in
    rw (c.take_child-child.ensures.left, c.in_ok-removed.ensures.ok, ← c.self.view_is) (sym (uninstalled_is soft c.args.handle c.args.guid refl))
