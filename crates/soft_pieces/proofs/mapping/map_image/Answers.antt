use Rattle.std.proofs.Common.{List, ap, ◌∙◌}
use Rattle.guest_memory.specs.declared.segment.Segment.{Segment}
use Rattle.guest_memory.specs.declared.segment.SegKind.TheVariants as kind
use Rattle.guest_memory.specs.GuestMemory.{unmapped}
use Rattle.soft_pieces.proofs.Unmapping.{unmapped-mapped}
use Rattle.soft_pieces.proofs.mapping.map_image.Goals as goal

pub returns-in-Err-clause-err : goal.returns-in-Err-clause-err
returns-in-Err-clause-err c =
    let contents : Segment = record { base = c.args.block; bytes = c.args.contents.items; kind = kind.Pool } in
    c.unmap.ensures.rest ∙ ap (λ (m : List Segment). unmapped m c.args.block) (c.in-Err.ensures.err ∙ c.in_ok-map_free.ensures.ok) ∙ unmapped-mapped contents c.args.memory.now
