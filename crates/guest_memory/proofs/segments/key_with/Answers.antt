use Rattle.std.proofs.Common.{sym, ◌∙◌}
use Rattle.guest_memory.proofs.FilingLemmas.{holder_key}
use Rattle.guest_memory.proofs.segments.key_with.Goals as goal

-- the segment that was used last has the range
pub returns-then-has : goal.returns-then-has
returns-then-has c =
    holder_key c.args.slots.now c.args.bases.now c.requires.filed c.get-key.result c.args.at c.args.n c.in-Some.segment.now (sym c.in-Some.ensures) c.requires.some (sym c.has.ensures ∙ c.if-has.true)
