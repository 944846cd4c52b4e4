use Rattle.std.proofs.Common.{◌≡◌, take}
use Rattle.rom_builder.specs.RomParts.{parts_of}
use Rattle.rom_builder.proofs.rom.parts_of.Given as goal

-- the files so far are parts
abbrev pub invariant-loop-file : goal.invariant-loop-file
invariant-loop-file l = l.parts.items ≡ parts_of l.vendor l.device l.class (take l.file-index l.files)
