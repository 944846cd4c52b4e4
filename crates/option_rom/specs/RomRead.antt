-- What may be read of an image, as the walker sees it.
use Rattle.std.specs.Prelude.{ℕ, ◌+◌, ◌≤◌, List, length}
use Rattle.option_rom.specs.RomGrammar.{image_length, pcir_place}

-- the PCI data structure is there
pub record HasPcir (rest : List ℕ) : Type 0 where
  pub header : 26 ≤ length rest
  pub pcir : pcir_place rest + 24 ≤ length rest

-- an image is at the front, of one unit of 512 bytes at least
pub record HasImage (rest : List ℕ) : Type 0 where
  pub reads : HasPcir rest
  pub some : 512 ≤ image_length rest
  pub inside : image_length rest ≤ length rest
