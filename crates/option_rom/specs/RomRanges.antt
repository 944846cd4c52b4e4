-- Option ROMs by the ranges of their images.
use Rattle.std.specs.Prelude.{◌≡◌, ℕ, ◌+◌, ◌≤◌, List, [], ◌∷◌, drop, length, Bool, true, false, Some, None, map}
use Rattle.fw_types.specs.declared.image.RomEnd.{RomEnd}
use Rattle.fw_types.specs.declared.image.RomEnd.TheVariants.{Done}
use Rattle.option_rom.specs.RomGrammar.{Image, end_at, image_at, image_length, is_last}

-- some bytes of a ROM in a row: the place of the first, and how many there are
pub record Range : Type 0 where
  pub at : ℕ
  pub size : ℕ

abbrev pub range_end : Range → ℕ
range_end range = range.at + range.size

-- the range is an image: no condition holds at its place, and it is as long as it says
pub record IsImage (rom : List ℕ) (range : Range) : Type 0 where
  pub passes : end_at (drop range.at rom) ≡ None
  pub size : range.size ≡ image_length (drop range.at rom)
  pub inside : range_end range ≤ length rom

-- each range is an image
abbrev pub AreImages : List ℕ → List Range → Type 0
AreImages rom [] = Unit {0}
AreImages rom (range ∷ ranges) = IsImage rom range × AreImages rom ranges

-- the first range begins at a place, and each other where the one before it ends
abbrev pub LieInARow : ℕ → List Range → Type 0
LieInARow place [] = Unit {0}
LieInARow place (range ∷ ranges) = (range.at ≡ place) × LieInARow (range_end range) ranges

-- the place after ranges that begin at a place
abbrev pub place_after : ℕ → List Range → ℕ
place_after place [] = place
place_after place (range ∷ ranges) = place_after (range_end range) ranges

-- whether a range says that it is the last image
abbrev pub says_last : List ℕ → Range → Bool
says_last rom range = is_last (drop range.at rom)

-- no range except the last one says that it is the last image
abbrev pub OnlyLastSaysSo : List ℕ → List Range → Type 0
OnlyLastSaysSo rom [] = Unit {0}
OnlyLastSaysSo rom (range ∷ []) = Unit {0}
OnlyLastSaysSo rom (range ∷ next ∷ ranges) = (says_last rom range ≡ false) × OnlyLastSaysSo rom (next ∷ ranges)

-- whether the last of the ranges says so
abbrev pub last_says_so : List ℕ → List Range → Bool
last_says_so rom [] = false
last_says_so rom (range ∷ []) = says_last rom range
last_says_so rom (range ∷ next ∷ ranges) = last_says_so rom (next ∷ ranges)

-- after an image that says that it is the last the ROM is done; otherwise a condition holds at the place
-- after it
abbrev pub EndsAs : Bool → List ℕ → ℕ → RomEnd → Type 0
EndsAs true rom place end = end ≡ Done
EndsAs false rom place end = end_at (drop place rom) ≡ Some end

-- from a place on, the ranges are the images of the ROM, and this is its end
pub record IsRomFrom (place : ℕ) (rom : List ℕ) (ranges : List Range) (end : RomEnd) : Type 0 where
  pub in_a_row : LieInARow place ranges
  pub images : AreImages rom ranges
  pub only_last : OnlyLastSaysSo rom ranges
  pub ends : EndsAs (last_says_so rom ranges) rom (place_after place ranges) end

abbrev pub IsRom : List ℕ → List Range → RomEnd → Type 0
IsRom rom ranges end = IsRomFrom 0 rom ranges end

-- what the images in ranges say
abbrev pub images_in : List ℕ → List Range → List Image
images_in rom ranges = map (λ range. image_at (drop range.at rom)) ranges

-- the ranges of images that follow one another from a place on
abbrev pub ranges_from : ℕ → List Image → List Range
ranges_from place [] = []
ranges_from place (image ∷ images) = record { at = place; size = image.size } ∷ ranges_from (place + image.size) images
