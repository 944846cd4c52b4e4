use Rattle.std.proofs.Common.{◌≡◌, true, nat_lt, None, length, ap, ◌∙◌, arith}
use Rattle.std.proofs.lemmas.Bool.Decides.{nat_tests}
use Rattle.world_model.specs.World.{Soft}
use Rattle.world_model.specs.BusChildren.{child_function}
use Rattle.world_model.specs.Kept.{has_pci_io}
use Rattle.soft_part.specs.Soft.{soft_of}
use Rattle.soft_part.proofs.Keeps.{kept_noted}
use Rattle.soft_part.proofs.soft_part.SoftPart.note_child.Goals as goal

pub invariant_of-self-2 : goal.invariant_of-self-2
invariant_of-self-2 c =
    let inside = c.self.inside in
    let soft : Soft = soft_of inside.memory inside.database inside.plain in
    let there : has_pci_io c.args.handle soft.database ≡ true = ap (λ (s : Soft). has_pci_io c.args.handle s.database) c.self.view_is ∙ c.requires.there in
    let new : child_function c.args.handle soft ≡ None = ap (child_function c.args.handle) c.self.view_is ∙ c.requires.new in
    let room : nat_lt c.args.function (length soft.bus_lists) ≡ true = grind (arith, nat_tests, c.if-function-len.false, c.len.ensures, inside.plain.bus_lists.ok.0) in
    kept_noted soft c.args.handle c.args.function c.pci_io_of-pci_io.result c.push.new.self.items c.self.invariant there new room c.pci_io_of-pci_io.ensures c.in_ok-push.ensures.items
