-- The parts of an option ROM, each with a file as its body.
use Rattle.std.specs.Prelude.{ℕ, List, map}
use Rattle.std.specs.declared.vec.Vec.{Vec}
use Rattle.std.specs.declared.alloc.Global.{Global}
use Rattle.option_rom.specs.declared.part.RomPart.{RomPart}

abbrev pub part_of : ℕ → ℕ → ℕ → Vec ℕ Global → RomPart
part_of vendor device class file = record { vendor = vendor; device = device; class = class; body = file.items }

abbrev pub parts_of : ℕ → ℕ → ℕ → List (Vec ℕ Global) → List RomPart
parts_of vendor device class files = map (part_of vendor device class) files
