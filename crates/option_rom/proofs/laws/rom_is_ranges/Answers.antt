use Rattle.std.proofs.Common.{length, ap, sym, ◌∙◌, arith}
use Rattle.option_rom.proofs.RangesLemmas.{divided, rom_in-ranges, same_ranges}
use Rattle.option_rom.proofs.laws.rom_is_ranges.Goals as goal

pub returns-clause-some : goal.returns-clause-some
returns-clause-some c rom = let whole = divided (length rom) 0 rom (omega arith) in (whole.ranges, (whole.is_rom, whole.images))

pub returns-clause-only : goal.returns-clause-only
returns-clause-only c rom ranges end is = rom_in-ranges 0 rom ranges end is

pub returns-clause-one : goal.returns-clause-one
returns-clause-one c rom ranges others end other is too = (
  same_ranges 0 rom ranges others end other is too,
  ap (λ r. r.end) (sym (rom_in-ranges 0 rom ranges end is) ∙ rom_in-ranges 0 rom others other too),
)
