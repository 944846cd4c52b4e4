use Rattle.std.proofs.Common.{refl, sym, subst}
use Rattle.handle_db.specs.Undoing.{IsInstalledLast}
use Rattle.world_model.specs.declared.change.Change.TheVariants.{Install}
use Rattle.world_model.specs.World.{Soft}
use Rattle.world_model.specs.Kept.{IsKept}
use Rattle.world_model.specs.Undo.{taken_back}
use Rattle.soft_part.specs.Soft.{soft_of}
use Rattle.soft_part.proofs.soft_part.SoftPart.uninstall_last.Goals as goal

pub undo_install-requires : goal.undo_install-requires
undo_install-requires c = subst (λ (s : Soft). IsInstalledLast c.args.handle c.args.guid c.args.made s.database) (sym c.self.view_is) c.requires.last

pub invariant_of-self : goal.invariant_of-self
unfolding taken_back
invariant_of-self c =
    let inside = c.self.inside in
    let soft : Soft = soft_of inside.memory inside.database inside.plain in
    let change = Install c.args.handle c.args.guid c.args.made in
    let kept : IsKept (taken_back change soft) = subst (λ (s : Soft). IsKept (taken_back change s)) (sym c.self.view_is) c.requires.kept in
    rw c.undo_install.ensures kept

pub returns : goal.returns
unfolding taken_back
returns c = rw (c.undo_install.ensures, ← c.self.view_is) refl
