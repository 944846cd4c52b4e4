use Rattle.std.proofs.Common.{◌≡◌, true, length, ap, ◌∙◌}
use Rattle.guest_memory.specs.GuestMemory.{is_writable_range}
use Rattle.world_model.specs.World.{Soft}
use Rattle.world_model.proofs.KeepingBlocks.{putting}
use Rattle.soft_part.specs.Soft.{soft_of}
use Rattle.soft_part.proofs.soft_part.SoftPart.put.Goals as goal

pub invariant_of-self : goal.invariant_of-self
invariant_of-self c =
    let inside = c.self.inside in
    let soft : Soft = soft_of inside.memory inside.database inside.plain in
    let can : is_writable_range soft.memory c.args.at (length c.args.bytes.now) ≡ true = ap (λ (s : Soft). is_writable_range s.memory c.args.at (length c.args.bytes.now)) c.self.view_is ∙ c.requires in
    rw c.put.ensures (putting soft c.args.at c.args.bytes.now c.self.invariant can)
