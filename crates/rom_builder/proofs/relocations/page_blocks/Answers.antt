use Rattle.std.proofs.Common.{◌≡◌, ◌<◌, ◌++◌, List, ℕ, length, take, drop, slice_index, ap, sym, ◌∙◌, arith}
use Rattle.std.proofs.lemmas.Grind.{common_steps}
use Rattle.std.proofs.lemmas.List.{append_assoc, append-nil}
use Rattle.rom_builder.specs.MadeImage.{page_block, page_blocks, page_of}
use Rattle.rom_builder.proofs.PageLemmas.{page_blocks-none, first_page_is}
use Rattle.rom_builder.proofs.relocations.page_blocks.Goals as goal

pub page_block-requires-clause-few : goal.page_block-requires-clause-few
page_block-requires-clause-few c =
    let rest = c.loop-rest.rest.now in
    let some : 0 < length rest = grind (arith, common_steps) in
    let first = first_page_is c.count_in_page.result rest some c.loop-rest.invariant.rises c.count_in_page.ensures in
    rw c.split_at.ensures.front first.few

-- the block of the first page, and the places of the others
pub loop-rest-preserved : goal.loop-rest-preserved
loop-rest-preserved c =
    let rest = c.loop-rest.rest.now in
    let some : 0 < length rest = grind (arith, common_steps) in
    let first = first_page_is c.count_in_page.result rest some c.loop-rest.invariant.rises c.count_in_page.ensures in
    record {
      whole = rw (c.in_ok-extend_from_slice.ensures.items, c.deref.ensures.value, c.in_ok-block.ensures, c.split_at.ensures.front, c.split_at.ensures.back)
          (append_assoc c.loop-rest.blocks.items (page_block (page_of (slice_index rest 0)) (take c.count_in_page.result rest)) (page_blocks (drop c.count_in_page.result rest)) ∙ ap (λ (bytes : List ℕ). c.loop-rest.blocks.items ++ bytes) (sym first.split) ∙ c.loop-rest.invariant.whole);
      rises = rw c.split_at.ensures.back first.rises;
    }

-- no place is left
pub returns : goal.returns
returns c =
    let none : length c.loop-rest.rest.now ≡ 0 = grind (arith, common_steps) in
    sym (append-nil c.loop-rest.blocks.items)
    ∙ ap (λ (bytes : List ℕ). c.loop-rest.blocks.items ++ bytes) (sym (page_blocks-none c.loop-rest.rest.now none))
    ∙ c.loop-rest.invariant.whole
