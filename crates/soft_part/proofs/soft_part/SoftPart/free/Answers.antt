use Rattle.std.proofs.Common.{◌≡◌, true, false, refl, sym, ap, ◌∙◌}
use Rattle.std.specs.Prelude.{Ok, is_ok}
use Rattle.std.proofs.lemmas.Bool.{both_ways}
use Rattle.guest_memory.specs.GuestMemory.{beginning_at, begins}
use Rattle.world_model.specs.World.{Soft}
use Rattle.world_model.specs.Blocks.{free_answer, is_image_block}
use Rattle.world_model.proofs.KeepingBlocks.{freeing}
use Rattle.soft_part.specs.Soft.{soft_of}
use Rattle.soft_part.proofs.Keeps.{begins_found}
use Rattle.soft_part.proofs.soft_part.SoftPart.free.Goals as goal

pub invariant_of-self : goal.invariant_of-self
invariant_of-self c =
    let inside = c.self.inside in
    let soft : Soft = soft_of inside.memory inside.database inside.plain in
    let there : begins c.args.kind c.args.at inside.memory ≡ true = sym c.begins.ensures ∙ c.if-not-begins.false in
    let other : is_image_block c.args.at inside.plain.images.items ≡ false = ap (λ (s : Soft). is_image_block c.args.at s.images) c.self.view_is ∙ sym c.is_image_block.ensures ∙ c.if-is_image_block.false in
    let done : free_answer c.args.at c.args.kind soft ≡ Ok tt = rw (there, other) refl in
    rw c.unmap.ensures.rest (freeing soft c.args.at c.args.kind c.self.invariant c.requires done)

pub unreachable-requires : goal.unreachable-requires
unreachable-requires c =
    let inside = c.self.inside in
    let there : begins c.args.kind c.args.at inside.memory ≡ true = sym c.begins.ensures ∙ c.if-not-begins.false in
    let found : is_ok (beginning_at inside.memory c.args.at) ≡ true = begins_found c.args.kind c.args.at inside.memory there in
    both_ways (is_ok (beginning_at inside.memory c.args.at)) (ap is_ok (sym c.unmap.ensures.answer ∙ c.in-Err.is)) found
