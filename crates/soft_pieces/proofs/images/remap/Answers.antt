use Rattle.soft_pieces.proofs.Unmapping.{unmapped_both}
use Rattle.soft_pieces.proofs.images.remap.Goals as goal

pub returns-then-is_err-clause-memory_before : goal.returns-then-is_err-clause-memory_before
returns-then-is_err-clause-memory_before c =
    unmapped_both c.undo_remove-installed.result c.map_again.new.memory c.unmap.new.self c.unmap-then-is_err.new.self c.args.memory.now c.args.segment c.args.block c.in_ok-map_again.ensures.ok c.unmap.ensures.rest c.unmap-then-is_err.ensures.rest
