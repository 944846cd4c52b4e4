use Rattle.std.proofs.Common.{◌≡◌, take}
use Rattle.rom_builder.specs.MadeImage.{entry_bytes}
use Rattle.rom_builder.proofs.relocations.entry_bytes.Given as goal

-- the entries of the places so far
abbrev pub invariant-loop-place : goal.invariant-loop-place
invariant-loop-place l = l.entries.items ≡ entry_bytes (take l.place-index l.places)
