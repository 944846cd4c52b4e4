-- What is left of the walk over an option ROM.
use Rattle.std.specs.Prelude.{◌≡◌, ℕ, List, [], ◌∷◌, Bool, true, false, Option, Some, None, if◌then◌else◌}
use Rattle.fw_types.specs.declared.image.RomEnd.{RomEnd}
use Rattle.fw_types.specs.declared.image.RomEnd.TheVariants.{Done}
use Rattle.option_rom.specs.RomGrammar.{Image, rom_in}
use Rattle.option_rom.specs.declared.walk.Place.{Place}
use Rattle.option_rom.specs.declared.walk.Place.TheVariants.{Reading, AfterLast, Over}

-- the images that were not given yet, how the ROM ends, and whether the walk is over: it has answered that
-- there is no further image
pub record Walk : Type 0 where
  pub images : List Image
  pub end : RomEnd
  pub is_over : Bool

-- the walk before its first step
abbrev pub walk_of : List ℕ → Walk
walk_of bytes = record { images = (rom_in bytes).images; end = (rom_in bytes).end; is_over = false }

-- a step takes the first image from those that are left; if none is left it gives none
abbrev pub Takes : List Image → Option Image → List Image → Type 0
Takes before (Some image) after = before ≡ image ∷ after
Takes before None after = (before ≡ []) × (after ≡ [])

-- how the ROM ended, once the walk is over
abbrev pub walk_end : Walk → Option RomEnd
walk_end walk = if walk.is_over then Some walk.end else None

-- the walk, if these bytes are still before the walker and it is at this place
abbrev pub walk_at : List ℕ → Place → Walk
walk_at rest Reading = walk_of rest
walk_at rest AfterLast = record { images = []; end = Done; is_over = false }
walk_at rest (Over end) = record { images = []; end = end; is_over = true }
