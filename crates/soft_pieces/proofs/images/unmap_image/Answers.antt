use Rattle.std.proofs.Common.{◌∙◌, ap, List}
use Rattle.std.specs.Prelude.{Result}
use Rattle.guest_memory.specs.declared.guest.MemRefusal.{MemRefusal}
use Rattle.guest_memory.specs.declared.segment.Segment.{Segment}
use Rattle.guest_memory.specs.GuestMemory.{unmapped}
use Rattle.world_model.specs.Thunks.{without_thunks}
use Rattle.soft_pieces.proofs.images.unmap_image.Goals as goal

pub returns : goal.returns
returns c = record {
  memory = c.unmap.ensures.rest ∙ ap (λ (m : List Segment). unmapped m c.args.image.now.block) c.unmap-bytes.ensures.rest;
  thunks = c.drop_from_segment.ensures ∙ ap (λ (bytes : Result Segment MemRefusal). without_thunks bytes c.args.thunks.now.items) c.unmap-bytes.ensures.answer;
}
