use Rattle.std.proofs.Common.{◌≡◌, ◌<◌, length, fold, drop, sym, ap, ◌∙◌, arith}
use Rattle.std.proofs.lemmas.Grind.{common_steps}
use Rattle.std.proofs.lemmas.List.{length-drop}
use Rattle.std.proofs.lemmas.List.Sums.{fold-append}
use Rattle.pe_image.specs.Relocations.{block_of, entries_in, entries_of_directory}
use Rattle.pe_image.specs.LaidImage.{relocated}
use Rattle.pe_image.proofs.BlockLemmas.{good_directory, entries_of_directory-none}
use Rattle.pe_image.proofs.laying.relocate_directory.Goals as goal

pub relocate_block-requires : goal.relocate_block-requires
relocate_block-requires c =
    let some : 0 < length c.loop-rest.rest.now = grind (arith, common_steps) in
    let good = good_directory (length c.loop-rest.image) c.loop-rest.rest.now some c.loop-rest.invariant.good in
    rw (c.block_page.ensures, c.block_words.ensures) good.entries

pub loop-rest-smaller : goal.loop-rest-smaller
loop-rest-smaller c =
    let some : 0 < length c.loop-rest.rest.now = grind (arith, common_steps) in
    let good = good_directory (length c.loop-rest.image) c.loop-rest.rest.now some c.loop-rest.invariant.good in
    rw (c.bytes_from-rest.ensures, c.block_size.ensures) (omega (arith, good.large, length-drop (block_of c.loop-rest.rest.now).size c.loop-rest.rest.now))

pub loop-rest-preserved : goal.loop-rest-preserved
loop-rest-preserved c =
    let image = c.loop-rest.image in
    let some : 0 < length c.loop-rest.rest.now = grind (arith, common_steps) in
    let good = good_directory (length image) c.loop-rest.rest.now some c.loop-rest.invariant.good in
    let block = block_of c.loop-rest.rest.now in
    let behind = drop block.size c.loop-rest.rest.now in
    let step = relocated c.args.delta in
    let same : length c.relocate_block.new.image ≡ length image = c.relocate_block.auto.image in
    record {
      whole = rw (c.bytes_from-rest.ensures, c.block_size.ensures, c.relocate_block.ensures, c.block_page.ensures, c.block_words.ensures)
          (sym (fold-append step image (entries_in block) (entries_of_directory behind)) ∙ ap (fold step image) (sym good.split) ∙ c.loop-rest.invariant.whole);
      good = rw (same, c.bytes_from-rest.ensures, c.block_size.ensures) good.behind;
    }

pub returns : goal.returns
returns c =
    let none : length c.loop-rest.rest.now ≡ 0 = grind (arith, common_steps) in
    let h = c.loop-rest.invariant.whole in
    rw (entries_of_directory-none c.loop-rest.rest.now none) at h
