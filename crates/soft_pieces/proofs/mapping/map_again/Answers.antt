use Rattle.std.proofs.Common.{◌≡◌, true, subst}
use Rattle.guest_memory.specs.GuestMemory.{lie_from, mapped}
use Rattle.guest_memory.specs.declared.segment.Segment.{Segment}
use Rattle.guest_memory.proofs.SegmentLemmas.{lie_from-unmapped}
use Rattle.std.proofs.Common.{List}
use Rattle.soft_pieces.proofs.Unmapping.{unmapped-mapped, unmapped_again}
use Rattle.soft_pieces.proofs.mapping.map_again.Goals as goal

pub put_back-requires : goal.put_back-requires
put_back-requires c =
    let both = mapped c.args.second (mapped c.args.first c.args.memory.now) in
    subst (λ (segments : List Segment). lie_from 0 segments ≡ true) (unmapped-mapped c.args.second (mapped c.args.first c.args.memory.now)) (lie_from-unmapped 0 both c.args.second.base c.requires)

pub returns-then-is_err-clause-err : goal.returns-then-is_err-clause-err
returns-then-is_err-clause-err c =
    unmapped_again c.put_back-mapped.result c.put_back-mapped.new.self c.put_back.new.self c.unmap.new.self c.args.memory.now c.args.first c.put_back-mapped.ensures.err c.in_ok-put_back.ensures.ok c.unmap.ensures.rest
