-- What the walk reads of the images that the writer lays.
use Rattle.std.proofs.Common.{◌≡◌, ◌≤◌, ◌<◌, ◌+◌, ◌-◌, ◌*◌, ◌^◌, ℕ, Bool, true, false, ◌||◌, ◌&&◌, nat_lt, nat_eq, cond, List, [], ◌∷◌, ◌++◌, length, drop, take, replicate, slice_index, Some, None, refl, ap, sym, ◌∙◌, subst, arith, append_assoc, length-append}
use Rattle.std.specs.Prelude.{option_map}
use Rattle.std.specs.List.{list_any, list_all}
use Rattle.std.proofs.lemmas.List.{length-replicate, take_at, drop_at}
use Rattle.std.proofs.lemmas.Bool.Decides.{nat_tests}
use Rattle.byteorder.specs.Numbers.{little_number-reads_back}
use Rattle.byteorder.specs.Endian.{little_number}
use Rattle.fw_types.specs.Layout.{put, uint16_at, uint32_at}
use Rattle.option_rom.specs.RomGrammar.{Condition, end_at, has_no_length, image_at, image_bytes, image_length, is_cut_off, is_efi, is_last, lacks_header, lacks_pcir, pcir, rom_from, rom_in}
use Rattle.option_rom.specs.RomLayout.{front_of, has_ids, highest_class, image_of, is_none_left, is_too_long, laid_part, laid_rom, longest_body, padded_body, rom_of_parts, units_of}
use Rattle.option_rom.specs.declared.part.RomPart.{RomPart}
use Rattle.option_rom.proofs.RomLemmas.{rom_in-step}

-- ---- the front

-- what is read of a front with bytes after it
record FrontReads (units : ℕ) (last : Bool) (part : RomPart) (rest : List ℕ) : Type 0 where
  signed : lacks_header rest ≡ nat_lt (length rest) 26 || false
  found : lacks_pcir rest ≡ nat_lt (length rest) 52 || false
  marked : is_last rest ≡ last
  efi : is_efi rest ≡ true
  machine : uint16_at 10 rest ≡ 0x0EBC
  compression : uint16_at 12 rest ≡ 0
  body : uint16_at 22 rest ≡ 64
  code_type : slice_index (pcir rest) 20 ≡ 3
  size : units < 2 ^ 16 → image_length rest ≡ 512 * units
  vendor : part.vendor < 2 ^ 16 → uint16_at 4 (pcir rest) ≡ part.vendor
  device : part.device < 2 ^ 16 → uint16_at 6 (pcir rest) ≡ part.device
  class : part.class ≤ highest_class → little_number 3 (drop 13 (pcir rest)) ≡ part.class

front_reads : (units : ℕ) (last : Bool) (part : RomPart) (following : List ℕ) → FrontReads units last part (front_of units last part ++ following)
unfolding front_of put uint16_at uint32_at
front_reads units true part following = record {
  signed = refl;
  found = refl;
  marked = refl;
  efi = refl;
  machine = refl;
  compression = refl;
  body = refl;
  code_type = refl;
  size = λ h. ap (λ (n : ℕ). 512 * n) (little_number-reads_back 2 units [] h);
  vendor = λ h. little_number-reads_back 2 part.vendor [] h;
  device = λ h. little_number-reads_back 2 part.device [] h;
  class = λ h. little_number-reads_back 3 part.class [] (omega (arith, h));
}
front_reads units false part following = record {
  signed = refl;
  found = refl;
  marked = refl;
  efi = refl;
  machine = refl;
  compression = refl;
  body = refl;
  code_type = refl;
  size = λ h. ap (λ (n : ℕ). 512 * n) (little_number-reads_back 2 units [] h);
  vendor = λ h. little_number-reads_back 2 part.vendor [] h;
  device = λ h. little_number-reads_back 2 part.device [] h;
  class = λ h. little_number-reads_back 3 part.class [] (omega (arith, h));
}

length-front : (units : ℕ) (last : Bool) (part : RomPart) → length (front_of units last part) ≡ 64
unfolding front_of put
length-front units last part = refl

-- ---- the image of a part

-- the numbers of a part fit their fields
record Fits (part : RomPart) : Type 0 where
  vendor : part.vendor < 2 ^ 16
  device : part.device < 2 ^ 16
  class : part.class ≤ highest_class
  body : length part.body ≤ longest_body

-- so does the length of its image, which has at least the front and the body
record UnitsFit (body : List ℕ) : Type 0 where
  fits : units_of body < 2 ^ 16
  some : 1 ≤ units_of body
  room : 64 + length body ≤ 512 * units_of body

units_fit : (body : List ℕ) → length body ≤ longest_body → UnitsFit body
units_fit body h = record { fits = omega (arith, h); some = omega arith; room = omega arith }

length-padded_body : (body : List ℕ) → length body ≤ longest_body → 64 + length (padded_body body) ≡ 512 * units_of body
length-padded_body body h =
    let spare : ℕ = 512 * units_of body - 64 - length body in
    omega (arith, length-append body (replicate spare 0), length-replicate {A = ℕ} spare 0, (units_fit body h).room)

-- no condition holds
none_of : (a b c d : Bool) (w x y z : Condition) → a ≡ false → b ≡ false → c ≡ false → d ≡ false → option_map (λ condition. condition.end) (cond a (Some w) (cond b (Some x) (cond c (Some y) (cond d (Some z) None)))) ≡ None
none_of a b c d w x y z p q r s = rw (p, q, r, s) refl

not_below : (a b : ℕ) → b ≤ a → nat_lt a b || false ≡ false
not_below a b h = grind (arith, nat_tests)

not_under : (a b : ℕ) → b ≤ a → nat_lt a b ≡ false
not_under a b h = grind (arith, nat_tests)

not_none : (n : ℕ) → 1 ≤ n → nat_eq (512 * n) 0 ≡ false
not_none n h = grind (arith, nat_tests)

-- what the walk reads at the image of a part
record PartReads (last : Bool) (part : RomPart) (tail rest : List ℕ) : Type 0 where
  stands : end_at rest ≡ None
  marked : is_last rest ≡ last
  image : image_at rest ≡ image_of part
  following : drop (image_length rest) rest ≡ tail

part_reads_at : (last : Bool) (part : RomPart) (tail : List ℕ) → Fits part → let rest = front_of (units_of part.body) last part ++ (padded_body part.body ++ tail) in PartReads last part tail rest
part_reads_at last part tail fits =
    let units = units_of part.body in
    let front = front_of units last part in
    let rest = front ++ (padded_body part.body ++ tail) in
    let reads = front_reads units last part (padded_body part.body ++ tail) in
    let enough = units_fit part.body fits.body in
    let fronted = length-front units last part in
    let padding = length-padded_body part.body fits.body in
    let size : image_length rest ≡ 512 * units = reads.size enough.fits in
    let whole : rest ≡ (front ++ padded_body part.body) ++ tail = sym (append_assoc front (padded_body part.body) tail) in
    let laid : length (front ++ padded_body part.body) ≡ 512 * units = omega (arith, length-append front (padded_body part.body), fronted, padding) in
    let long : 512 * units ≤ length rest = omega (arith, length-append front (padded_body part.body ++ tail), length-append (padded_body part.body) tail, fronted, padding) in
    let bytes : image_bytes rest ≡ front ++ padded_body part.body = rw size (ap (take (512 * units)) whole ∙ take_at (front ++ padded_body part.body) tail (512 * units) laid) in
    let body : drop (uint16_at 22 rest) (image_bytes rest) ≡ padded_body part.body = rw (reads.body, bytes) (drop_at front (padded_body part.body) 64 fronted) in
    record {
      stands = none_of (lacks_header rest) (lacks_pcir rest) (has_no_length rest) (is_cut_off rest) _ _ _ _
          (reads.signed ∙ not_below (length rest) 26 (omega (arith, long, enough.some)))
          (reads.found ∙ not_below (length rest) 52 (omega (arith, long, enough.some)))
          (ap (λ (n : ℕ). nat_eq n 0) size ∙ not_none units enough.some)
          (ap (λ (n : ℕ). nat_lt (length rest) n) size ∙ not_under (length rest) (512 * units) long);
      marked = reads.marked;
      image = rw (reads.efi, reads.machine, reads.compression, body, reads.code_type, reads.vendor fits.vendor, reads.device fits.device, reads.class fits.class, size) refl;
      following = rw size (ap (drop (512 * units)) whole ∙ drop_at (front ++ padded_body part.body) tail (512 * units) laid);
    }

part_reads : (last : Bool) (part : RomPart) (tail : List ℕ) → Fits part → PartReads last part tail (laid_part last part ++ tail)
part_reads last part tail fits =
    let Reads : List ℕ → Type 0 = PartReads last part tail in
    subst Reads (sym (append_assoc (front_of (units_of part.body) last part) (padded_body part.body) tail)) (part_reads_at last part tail fits)

-- ---- the whole ROM

fits_of : (part : RomPart) → is_too_long part ≡ false → has_ids part ≡ true → Fits part
fits_of part short ids = record {
  vendor = grind (arith, nat_tests);
  device = grind (arith, nat_tests);
  class = grind (arith, nat_tests);
  body = grind (arith, nat_tests);
}

or_false : (a b : Bool) → a || b ≡ false → (a ≡ false) × (b ≡ false)
or_false true b h = absurd cc
or_false false b h = (refl, h)

and_true : (a b : Bool) → a && b ≡ true → (a ≡ true) × (b ≡ true)
and_true true b h = (refl, h)
and_true false b h = absurd cc

-- one image, and the ROM after it
rom_in-part : (last : Bool) (part : RomPart) (tail : List ℕ) → Fits part → rom_in (laid_part last part ++ tail) ≡ rom_from None last (image_of part) (rom_in tail)
rom_in-part last part tail fits =
    let rest = laid_part last part ++ tail in
    let reads = part_reads last part tail fits in
    rom_in-step rest ∙ rw (reads.stands, reads.marked, reads.image, reads.following) refl

-- what is written reads as the parts
pub rom_in-laid : (part : RomPart) (parts : List RomPart) → list_any is_too_long (part ∷ parts) ≡ false → list_all has_ids (part ∷ parts) ≡ true → rom_in (laid_rom (part ∷ parts)) ≡ rom_of_parts (part ∷ parts)
rom_in-laid part [] short ids =
    rom_in-part true part [] (fits_of part (or_false (is_too_long part) false short).0 (and_true (has_ids part) true ids).0)
rom_in-laid part (next ∷ parts) short ids =
    let shorts = or_false (is_too_long part) (list_any is_too_long (next ∷ parts)) short in
    let all = and_true (has_ids part) (list_all has_ids (next ∷ parts)) ids in
    rom_in-part false part (laid_rom (next ∷ parts)) (fits_of part shorts.0 all.0)
    ∙ ap (rom_from None false (image_of part)) (rom_in-laid next parts shorts.1 all.1)

pub rom_in-laid_some : (parts : List RomPart) → is_none_left parts ≡ false → list_any is_too_long parts ≡ false → list_all has_ids parts ≡ true → rom_in (laid_rom parts) ≡ rom_of_parts parts
rom_in-laid_some [] some short ids = absurd cc
rom_in-laid_some (part ∷ parts) some short ids = rom_in-laid part parts short ids
