use Rattle.std.proofs.Common.{List, ap, ◌∙◌}
use Rattle.guest_memory.specs.declared.segment.Segment.{Segment}
use Rattle.guest_memory.specs.declared.segment.SegKind.TheVariants as kind
use Rattle.guest_memory.specs.GuestMemory.{unmapped}
use Rattle.soft_pieces.proofs.Unmapping.{unmapped-mapped}
use Rattle.soft_pieces.proofs.stack.map_level.Goals as goal

pub returns-in-Err-clause-err : goal.returns-in-Err-clause-err
returns-in-Err-clause-err c =
    let new : Segment = record { base = c.stack_base-base.result; bytes = c.args.stack.items; kind = kind.Stack } in
    c.unmap.ensures.rest ∙ ap (λ (m : List Segment). unmapped m c.stack_base-base.result) (c.in-Err.ensures.err ∙ c.in_ok-map_free.ensures.ok) ∙ unmapped-mapped new c.args.memory.now
