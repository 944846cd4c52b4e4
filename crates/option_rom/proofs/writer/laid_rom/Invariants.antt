use Rattle.std.proofs.Common.{◌≡◌, ◌++◌, drop, take, true}
use Rattle.std.specs.List.{list_all}
use Rattle.option_rom.specs.RomLayout.{has_ids, laid_rom}
use Rattle.option_rom.proofs.writer.laid_rom.Given as goal

-- the images so far, and those of the parts that are left, are the whole
abbrev pub invariant-loop-place : goal.invariant-loop-place
invariant-loop-place l = record {
  rom : l.rom.items ++ laid_rom (drop l.place l.parts) ≡ laid_rom l.parts;
  ids : list_all has_ids (take l.place l.parts) ≡ true;
}
