use Rattle.std.proofs.Common.{ap, sym, ◌∙◌}
use Rattle.option_rom.specs.RomRanges.{ranges_from}
use Rattle.option_rom.proofs.RangesLemmas.{ranges-by_sizes, rom_in-ranges}
use Rattle.option_rom.proofs.laws.sizes_give_ranges.Goals as goal

pub returns : goal.returns
returns c rom ranges end is =
    ranges-by_sizes 0 rom ranges is.in_a_row is.images
    ∙ ap (λ r. ranges_from 0 r.images) (sym (rom_in-ranges 0 rom ranges end is))
