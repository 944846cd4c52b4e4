-- A ROM by the ranges of its images.
use Rattle.std.proofs.Common.{◌≡◌, ◌≤◌, ◌+◌, ◌-◌, ℕ, zero, suc, Bool, true, false, List, [], ◌∷◌, length, drop, Option, Some, None, refl, ap, sym, ◌∙◌, subst, arith, length-drop}
use Rattle.std.proofs.lemmas.List.{drop-drop}
use Rattle.fw_types.specs.declared.image.RomEnd.{RomEnd}
use Rattle.fw_types.specs.declared.image.RomEnd.TheVariants.{Done}
use Rattle.option_rom.specs.RomGrammar.{end_at, image_at, image_length, is_last, rom_from, rom_in}
use Rattle.option_rom.specs.RomRanges.{AreImages, EndsAs, IsImage, IsRomFrom, LieInARow, OnlyLastSaysSo, Range, place_after, range_end, images_in, last_says_so, ranges_from, says_last}
use Rattle.option_rom.specs.RomRead.{HasImage}
use Rattle.option_rom.proofs.RomLemmas.{end_at-none, rom_in-step}

-- ---- ranges are the ROM

-- after a range that does not say that it is the last, the others are the ROM
others_from : (place : ℕ) (rom : List ℕ) (range : Range) (ranges : List Range) (end : RomEnd) → IsRomFrom place rom (range ∷ ranges) end → says_last rom range ≡ false → IsRomFrom (range_end range) rom ranges end
others_from place rom range [] end is more = record {
  in_a_row = is.in_a_row.1;
  images = is.images.1;
  only_last = tt;
  ends = let Ends : Bool → Type 0 = λ b. EndsAs b rom (range_end range) end in subst Ends more is.ends;
}
others_from place rom range (next ∷ ranges) end is more = record {
  in_a_row = is.in_a_row.1;
  images = is.images.1;
  only_last = is.only_last.1;
  ends = is.ends;
}

-- after a range that does, there is none, and the ROM is done
none_after : (place : ℕ) (rom : List ℕ) (range : Range) (ranges : List Range) (end : RomEnd) → IsRomFrom place rom (range ∷ ranges) end → says_last rom range ≡ true → (ranges ≡ []) × (end ≡ Done)
none_after place rom range [] end is last = (refl, let Ends : Bool → Type 0 = λ b. EndsAs b rom (range_end range) end in subst Ends last is.ends)
none_after place rom range (next ∷ ranges) end is last = let no : false ≡ true = sym is.only_last.0 ∙ last in absurd cc

-- the ROM from the place of an image on
from_image : (place : ℕ) (rom : List ℕ) (range : Range) → range.at ≡ place → IsImage rom range → rom_in (drop place rom) ≡ rom_from None (says_last rom range) (image_at (drop range.at rom)) (rom_in (drop (range_end range) rom))
from_image place rom range here image =
    let rest = drop range.at rom in
    let next : drop (image_length rest) rest ≡ drop (range_end range) rom = drop-drop (image_length rest) range.at rom ∙ ap (λ (n : ℕ). drop (range.at + n) rom) (sym image.size) in
    ap (λ (n : ℕ). rom_in (drop n rom)) (sym here)
    ∙ rom_in-step rest
    ∙ ap (λ e. rom_from e (is_last rest) (image_at rest) (rom_in (drop (image_length rest) rest))) image.passes
    ∙ ap (λ xs. rom_from None (is_last rest) (image_at rest) (rom_in xs)) next

by_mark : (place : ℕ) (rom : List ℕ) (range : Range) (ranges : List Range) (end : RomEnd) → IsRomFrom place rom (range ∷ ranges) end → (last : Bool) → says_last rom range ≡ last
    → (says_last rom range ≡ false → rom_in (drop (range_end range) rom) ≡ record { images = images_in rom ranges; end = end })
    → rom_from None (says_last rom range) (image_at (drop range.at rom)) (rom_in (drop (range_end range) rom)) ≡ record { images = images_in rom (range ∷ ranges); end = end }
by_mark place rom range ranges end is true last others =
    let alone = none_after place rom range ranges end is last in
    rw (last, alone.0, alone.1) refl
by_mark place rom range ranges end is false last others =
    ap (λ b. rom_from None b (image_at (drop range.at rom)) (rom_in (drop (range_end range) rom))) last ∙ ap (rom_from None false (image_at (drop range.at rom))) (others last)

pub rom_in-ranges : (place : ℕ) (rom : List ℕ) (ranges : List Range) (end : RomEnd) → IsRomFrom place rom ranges end → rom_in (drop place rom) ≡ record { images = images_in rom ranges; end = end }
rom_in-ranges place rom [] end is =
    let rest = drop place rom in
    rom_in-step rest ∙ ap (λ e. rom_from e (is_last rest) (image_at rest) (rom_in (drop (image_length rest) rest))) is.ends
rom_in-ranges place rom (range ∷ ranges) end is =
    from_image place rom range is.in_a_row.0 is.images.0
    ∙ by_mark place rom range ranges end is (says_last rom range) refl (λ more. rom_in-ranges (range_end range) rom ranges end (others_from place rom range ranges end is more))

-- ---- one way

same_range : (range other : Range) → range.at ≡ other.at → range.size ≡ other.size → range ≡ other
same_range range other at size =
    let moved : range ≡ record { at = other.at; size = range.size } = ap (λ (n : ℕ). record { at = n; size = range.size }) at in
    moved ∙ ap (λ (n : ℕ). record { at = other.at; size = n }) size

-- there is no image at the place at which the ROM ends
no_image : (place : ℕ) (rom : List ℕ) (range : Range) (end : RomEnd) → end_at (drop place rom) ≡ Some end → range.at ≡ place → IsImage rom range → ⊥
no_image place rom range end none here image =
    let no : None ≡ Some end = sym image.passes ∙ ap (λ (n : ℕ). end_at (drop n rom)) here ∙ none in cc

same_more : (place : ℕ) (rom : List ℕ) (range other : Range) (ranges others : List Range) (end last : RomEnd) → IsRomFrom place rom (range ∷ ranges) end → IsRomFrom place rom (other ∷ others) last → range ≡ other → (mark : Bool) → says_last rom range ≡ mark
    → (says_last rom range ≡ false → says_last rom other ≡ false → ranges ≡ others) → ranges ≡ others
same_more place rom range other ranges others end last is too same true mark rest =
    (none_after place rom range ranges end is mark).0 ∙ sym (none_after place rom other others last too (ap (says_last rom) (sym same) ∙ mark)).0
same_more place rom range other ranges others end last is too same false mark rest = rest mark (ap (says_last rom) (sym same) ∙ mark)

pub same_ranges : (place : ℕ) (rom : List ℕ) (ranges others : List Range) (end last : RomEnd) → IsRomFrom place rom ranges end → IsRomFrom place rom others last → ranges ≡ others
same_ranges place rom [] [] end last is too = refl
same_ranges place rom [] (other ∷ others) end last is too = absurd (no_image place rom other end is.ends too.in_a_row.0 too.images.0)
same_ranges place rom (range ∷ ranges) [] end last is too = absurd (no_image place rom range last too.ends is.in_a_row.0 is.images.0)
same_ranges place rom (range ∷ ranges) (other ∷ others) end last is too =
    let at : range.at ≡ other.at = is.in_a_row.0 ∙ sym too.in_a_row.0 in
    let size : range.size ≡ other.size = is.images.0.size ∙ ap (λ (n : ℕ). image_length (drop n rom)) at ∙ sym too.images.0.size in
    let same = same_range range other at size in
    let rest = same_more place rom range other ranges others end last is too same (says_last rom range) refl (λ more more_too.
    same_ranges (range_end range) rom ranges others end last (others_from place rom range ranges end is more)
    (subst (λ (r : Range). IsRomFrom (range_end r) rom others last) (sym same) (others_from place rom other others last too more_too))) in
    ap (λ (r : Range). r ∷ ranges) same ∙ ap (λ (rs : List Range). other ∷ rs) rest

-- ---- some way

-- a ROM from a place on, divided
pub record Divided (place : ℕ) (rom : List ℕ) : Type 0 where
  pub ranges : List Range
  pub is_rom : IsRomFrom place rom ranges (rom_in (drop place rom)).end
  pub images : (rom_in (drop place rom)).images ≡ images_in rom ranges

image_here : (place : ℕ) (rom : List ℕ) → end_at (drop place rom) ≡ None → IsImage rom (record { at = place; size = image_length (drop place rom) })
image_here place rom none =
    let stands = end_at-none (drop place rom) none in
    record {
      passes = none;
      size = refl;
      inside = omega (arith, stands.inside, stands.some, length-drop place rom);
    }

only_more : (rom : List ℕ) (range : Range) (ranges : List Range) → says_last rom range ≡ false → OnlyLastSaysSo rom ranges → OnlyLastSaysSo rom (range ∷ ranges)
only_more rom range [] more only = tt
only_more rom range (next ∷ ranges) more only = (more, only)

last_more : (rom : List ℕ) (range : Range) (ranges : List Range) → says_last rom range ≡ false → last_says_so rom (range ∷ ranges) ≡ last_says_so rom ranges
last_more rom range [] more = more
last_more rom range (next ∷ ranges) more = refl

divided_here : (place : ℕ) (rom : List ℕ) (end : Option RomEnd) (last : Bool) → end_at (drop place rom) ≡ end → is_last (drop place rom) ≡ last
    → (HasImage (drop place rom) → Divided (place + image_length (drop place rom)) rom) → Divided place rom
divided_here place rom (Some end) last none mark others =
    let rest = drop place rom in
    let whole : rom_in rest ≡ record { images = []; end = end } = rom_in-step rest ∙ ap (λ e. rom_from e (is_last rest) (image_at rest) (rom_in (drop (image_length rest) rest))) none in
    record {
      ranges = [];
      is_rom = record { in_a_row = tt; images = tt; only_last = tt; ends = none ∙ ap (λ r. Some r.end) (sym whole) };
      images = ap (λ r. r.images) whole;
    }
divided_here place rom None true stands mark others =
    let rest = drop place rom in
    let following = rom_in (drop (image_length rest) rest) in
    let range : Range = record { at = place; size = image_length rest } in
    let whole : rom_in rest ≡ record { images = image_at rest ∷ []; end = Done } =
    rom_in-step rest ∙ ap (λ e. rom_from e (is_last rest) (image_at rest) following) stands ∙ ap (λ b. rom_from None b (image_at rest) following) mark in
    let Ends : Bool → Type 0 = λ b. EndsAs b rom (range_end range) (rom_in rest).end in
    record {
      ranges = range ∷ [];
      is_rom = record {
        in_a_row = (refl, tt);
        images = (image_here place rom stands, tt);
        only_last = tt;
        ends = subst Ends (sym mark) (ap (λ r. r.end) whole);
      };
      images = ap (λ r. r.images) whole;
    }
divided_here place rom None false stands mark others =
    let rest = drop place rom in
    let range : Range = record { at = place; size = image_length rest } in
    let next = others (end_at-none rest stands) in
    let whole : rom_in rest ≡ rom_from None false (image_at rest) (rom_in (drop (range_end range) rom)) =
    from_image place rom range refl (image_here place rom stands) ∙ ap (λ b. rom_from None b (image_at rest) (rom_in (drop (range_end range) rom))) mark in
    let end : (rom_in rest).end ≡ (rom_in (drop (range_end range) rom)).end = ap (λ r. r.end) whole in
    let Ends : Bool → Type 0 = λ b. EndsAs b rom (place_after (range_end range) next.ranges) (rom_in rest).end in
    let Told : RomEnd → Type 0 = λ e. EndsAs (last_says_so rom next.ranges) rom (place_after (range_end range) next.ranges) e in
    record {
      ranges = range ∷ next.ranges;
      is_rom = record {
        in_a_row = (refl, next.is_rom.in_a_row);
        images = (image_here place rom stands, next.is_rom.images);
        only_last = only_more rom range next.ranges mark next.is_rom.only_last;
        ends = subst Ends (sym (last_more rom range next.ranges mark)) (subst Told (sym end) next.is_rom.ends);
      };
      images = ap (λ r. r.images) whole ∙ ap (λ images. image_at rest ∷ images) next.images;
    }

pub divided : (most place : ℕ) (rom : List ℕ) → length rom - place ≤ most → Divided place rom
divided zero place rom h =
    divided_here place rom (end_at (drop place rom)) (is_last (drop place rom)) refl refl (λ stands.
    absurd (omega (arith, h, stands.some, stands.inside, length-drop place rom)))
divided (suc most) place rom h =
    divided_here place rom (end_at (drop place rom)) (is_last (drop place rom)) refl refl (λ stands.
    divided most (place + image_length (drop place rom)) rom (omega (arith, h, stands.some, stands.inside, length-drop place rom)))

-- ---- the places of the images

range-is : (range : Range) (place size : ℕ) → range.at ≡ place → range.size ≡ size → range ≡ record { at = place; size = size }
range-is range place size at is = rw (sym at, sym is) refl

pub ranges-by_sizes : (place : ℕ) (rom : List ℕ) (ranges : List Range) → LieInARow place ranges → AreImages rom ranges → ranges ≡ ranges_from place (images_in rom ranges)
ranges-by_sizes place rom [] row images = refl
ranges-by_sizes place rom (range ∷ ranges) row images =
    let size = image_length (drop range.at rom) in
    let rest : ranges ≡ ranges_from (range_end range) (images_in rom ranges) = ranges-by_sizes (range_end range) rom ranges row.1 images.1 in
    let place_is : range_end range ≡ place + size = ap (λ (n : ℕ). n + range.size) row.0 ∙ ap (λ (n : ℕ). place + n) images.0.size in
    ap (λ (r : Range). r ∷ ranges) (range-is range place size row.0 images.0.size)
    ∙ ap (λ (rs : List Range). record { at = place; size = size } ∷ rs) (rest ∙ ap (λ (n : ℕ). ranges_from n (images_in rom ranges)) place_is)
