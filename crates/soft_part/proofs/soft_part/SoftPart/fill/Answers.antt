use Rattle.std.proofs.Common.{◌≡◌, ℕ, true, length, replicate, ap, ◌∙◌}
use Rattle.std.proofs.lemmas.List.{length-replicate}
use Rattle.guest_memory.specs.GuestMemory.{is_writable_range}
use Rattle.world_model.specs.World.{Soft}
use Rattle.world_model.proofs.KeepingBlocks.{putting}
use Rattle.soft_part.specs.Soft.{soft_of}
use Rattle.soft_part.proofs.soft_part.SoftPart.fill.Goals as goal

pub invariant_of-self : goal.invariant_of-self
invariant_of-self c =
    let inside = c.self.inside in
    let soft : Soft = soft_of inside.memory inside.database inside.plain in
    let bytes = replicate c.args.n c.args.byte in
    let can : is_writable_range soft.memory c.args.at (length bytes) ≡ true =
    ap (λ (n : ℕ). is_writable_range soft.memory c.args.at n) (length-replicate c.args.n c.args.byte) ∙ ap (λ (s : Soft). is_writable_range s.memory c.args.at c.args.n) c.self.view_is ∙ c.requires in
    rw c.fill.ensures (putting soft c.args.at bytes c.self.invariant can)
