use Rattle.std.proofs.Common.{◌≡◌, ◌<◌, false, length, sym, ◌∙◌, arith}
use Rattle.std.proofs.lemmas.Grind.{common_steps}
use Rattle.pe_image.specs.Relocations.{block_of, is_bad_block}
use Rattle.pe_image.proofs.BlockLemmas.{is_bad_directory-first, is_bad_directory-behind, is_bad_directory-none}
use Rattle.pe_image.proofs.relocations.is_bad_directory.Goals as goal

-- the block at the front is bad
pub returns-then-is_bad_block : goal.returns-then-is_bad_block
returns-then-is_bad_block c =
    let some : 0 < length c.loop-rest.rest.now = grind (arith, common_steps) in
    sym (is_bad_directory-first c.args.size c.loop-rest.rest.now some (sym c.is_bad_block.ensures ∙ c.if-is_bad_block.true)) ∙ c.loop-rest.invariant

-- the block at the front is good
pub loop-rest-preserved : goal.loop-rest-preserved
loop-rest-preserved c =
    let some : 0 < length c.loop-rest.rest.now = grind (arith, common_steps) in
    let good : is_bad_block c.args.size (block_of c.loop-rest.rest.now) ≡ false = sym c.is_bad_block.ensures ∙ c.if-is_bad_block.false in
    rw (c.bytes_from-rest.ensures, c.block_size.ensures) (is_bad_directory-behind c.args.size c.loop-rest.rest.now some good ∙ c.loop-rest.invariant)

-- no block is left
pub returns : goal.returns
returns c =
    let none : length c.loop-rest.rest.now ≡ 0 = grind (arith, common_steps) in
    sym (is_bad_directory-none c.args.size c.loop-rest.rest.now none) ∙ c.loop-rest.invariant
