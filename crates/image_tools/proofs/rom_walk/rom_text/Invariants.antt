-- The lines so far, and those of the images that are left.
use Rattle.std.proofs.Common.{◌≡◌, ◌≤◌, ◌+◌, ◌^◌, ◌++◌, length}
use Rattle.std.specs.Prelude.{string_bytes}
use Rattle.option_rom.specs.RomGrammar.{rom_in, size_of_images}
use Rattle.image_tools.specs.ToolTexts.{image_lines}
use Rattle.image_tools.proofs.rom_walk.rom_text.Given as goal

abbrev pub invariant-loop-image : goal.invariant-loop-image
invariant-loop-image l = record {
  lines : string_bytes l.text ++ image_lines l.number l.place l.walk.images ≡ image_lines 1 0 (rom_in l.rom).images;
  end : l.walk.end ≡ (rom_in l.rom).end;
  number : l.number + length l.walk.images ≤ 2 ^ 62;
  place : l.place + size_of_images l.walk.images ≤ length l.rom;
}

-- how many images are left
abbrev pub decreases-loop-image : goal.decreases-loop-image
decreases-loop-image l = length l.walk.images
