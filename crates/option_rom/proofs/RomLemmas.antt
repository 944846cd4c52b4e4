-- The ROM in bytes, an image at a time.
use Rattle.std.proofs.Common.{◌≡◌, ◌≤◌, ◌+◌, ◌-◌, ◌*◌, ℕ, zero, suc, Bool, true, false, ◌||◌, nat_eq, nat_lt, cond, List, [], ◌∷◌, length, drop, take, Option, Some, None, if◌then◌else◌, refl, ap, sym, ◌∙◌, arith, length-drop}
use Rattle.std.specs.Prelude.{option_map}
use Rattle.std.proofs.lemmas.Bool.Decides.{nat_tests}
use Rattle.fw_types.specs.declared.image.RomEnd.{RomEnd}
use Rattle.fw_types.specs.Layout.{uint16_at}
use Rattle.option_rom.specs.RomGrammar.{Condition, Image, Rom, end_at, has_no_length, image_at, image_length, is_cut_off, is_last, lacks_header, lacks_pcir, pcir_place, rom_from, rom_in, rom_within, pcir, size_of_images}
use Rattle.option_rom.specs.RomRead.{HasImage}
use Rattle.option_rom.specs.RomWalk.{Walk, walk_of, walk_at}
use Rattle.option_rom.specs.declared.walk.Place.{Place}
use Rattle.option_rom.specs.declared.walk.Place.TheVariants.{Reading, AfterLast}
use Rattle.std.proofs.lemmas.List.{take_rest}

-- there is an image if no condition holds
record NoneHolds (a b c d : Bool) : Type 0 where
  first : a ≡ false
  second : b ≡ false
  third : c ≡ false
  fourth : d ≡ false

none_holds : (a b c d : Bool) (w x y z : Condition) → option_map (λ condition. condition.end) (cond a (Some w) (cond b (Some x) (cond c (Some y) (cond d (Some z) None)))) ≡ None → NoneHolds a b c d
none_holds true b c d w x y z h = cc
none_holds false true c d w x y z h = cc
none_holds false false true d w x y z h = cc
none_holds false false false true w x y z h = cc
none_holds false false false false w x y z h = record { first = refl; second = refl; third = refl; fourth = refl }

left_false : (a b : Bool) → a || b ≡ false → a ≡ false
left_false true b h = cc
left_false false b h = refl

nat_lt-false : (a b : ℕ) → nat_lt a b ≡ false → b ≤ a
nat_lt-false a b h = grind (arith, nat_tests)

units-some : (n : ℕ) → nat_eq (512 * n) 0 ≡ false → 512 ≤ 512 * n
units-some zero h = absurd cc
units-some (suc n) h = omega arith

pub end_at-none : (rest : List ℕ) → end_at rest ≡ None → HasImage rest
end_at-none rest h =
    let holds = none_holds (lacks_header rest) (lacks_pcir rest) (has_no_length rest) (is_cut_off rest) _ _ _ _ h in
    record {
      reads = record {
        header = nat_lt-false (length rest) 26 (left_false _ _ holds.first);
        pcir = nat_lt-false (length rest) (pcir_place rest + 24) (left_false _ _ holds.second);
      };
      some = units-some (uint16_at 16 (pcir rest)) holds.third;
      inside = nat_lt-false (length rest) (image_length rest) holds.fourth;
    }

-- what follows counts only if there is an image
rom_from-same : (end : Option RomEnd) (last : Bool) (image : Image) (one other : Rom) → (end ≡ None → one ≡ other) → rom_from end last image one ≡ rom_from end last image other
rom_from-same (Some end) last image one other same = refl
rom_from-same None last image one other same = ap (rom_from None last image) (same refl)

-- bytes of which there are fewer than allowed are the same ROM
rom_within-enough : (n m : ℕ) (rest : List ℕ) → length rest ≤ n → length rest ≤ m → rom_within n rest ≡ rom_within m rest
unfolding rom_within
rom_within-enough zero zero rest h k = refl
rom_within-enough zero (suc m) [] h k = refl
rom_within-enough zero (suc m) (b ∷ rest) h k = absurd (omega arith)
rom_within-enough (suc n) zero [] h k = refl
rom_within-enough (suc n) zero (b ∷ rest) h k = absurd (omega arith)
rom_within-enough (suc n) (suc m) rest h k =
    rom_from-same (end_at rest) (is_last rest) (image_at rest) (rom_within n (drop (image_length rest) rest)) (rom_within m (drop (image_length rest) rest)) (λ none.
    let stands = end_at-none rest none in
    let size = length-drop (image_length rest) rest in
    rom_within-enough n m (drop (image_length rest) rest) (omega (arith, size, stands.some, h)) (omega (arith, size, stands.some, k)))

-- the ROM is an end, only an image, or an image and the ROM after it
pub rom_in-step : (rest : List ℕ) → rom_in rest ≡ rom_from (end_at rest) (is_last rest) (image_at rest) (rom_in (drop (image_length rest) rest))
unfolding rom_in rom_within
rom_in-step [] = refl
rom_in-step (b ∷ bytes) =
    let rest = b ∷ bytes in
    let following = drop (image_length rest) rest in
    rom_from-same (end_at rest) (is_last rest) (image_at rest) (rom_within (length bytes) following) (rom_within (length following) following) (λ none.
    let stands = end_at-none rest none in
    rom_within-enough (length bytes) (length following) following (omega (arith, length-drop (image_length rest) rest, stands.some)) (omega arith))

-- ---- how many images there are

-- one more image, if there is one
images-more : (end : Option RomEnd) (last : Bool) (image : Image) (more : Rom) (size : ℕ) (rest : List ℕ) → (end ≡ None → (512 ≤ size) × (size ≤ length rest)) → 512 * length more.images ≤ length rest - size
    → 512 * length (rom_from end last image more).images ≤ length rest
images-more (Some end) last image more size rest stands fewer = omega arith
images-more None true image more size rest stands fewer = let room = stands refl in omega (arith, room.0, room.1)
images-more None false image more size rest stands fewer = let room = stands refl in omega (arith, room.0, room.1, fewer)

images-within : (most : ℕ) (rest : List ℕ) → 512 * length (rom_within most rest).images ≤ length rest
unfolding rom_within
images-within zero rest = omega arith
images-within (suc most) rest =
    let following = drop (image_length rest) rest in
    images-more (end_at rest) (is_last rest) (image_at rest) (rom_within most following) (image_length rest) rest
    (λ none. let stands = end_at-none rest none in (stands.some, stands.inside))
    (omega (arith, images-within most following, length-drop (image_length rest) rest))

pub images-most : (bytes : List ℕ) → 512 * length (rom_in bytes).images ≤ length bytes
unfolding rom_in
images-most bytes = images-within (length bytes) bytes

-- ---- how many bytes they have together

sizes-more : (end : Option RomEnd) (last : Bool) (image : Image) (more : Rom) (rest : List ℕ) → (end ≡ None → image.size ≤ length rest) → size_of_images more.images ≤ length rest - image.size
    → size_of_images (rom_from end last image more).images ≤ length rest
sizes-more (Some end) last image more rest stands fewer = omega arith
sizes-more None true image more rest stands fewer = let room = stands refl in omega (arith, room)
sizes-more None false image more rest stands fewer = let room = stands refl in omega (arith, room, fewer)

sizes-within : (most : ℕ) (rest : List ℕ) → size_of_images (rom_within most rest).images ≤ length rest
unfolding rom_within
sizes-within zero rest = omega arith
sizes-within (suc most) rest =
    let following = drop (image_length rest) rest in
    sizes-more (end_at rest) (is_last rest) (image_at rest) (rom_within most following) rest
    (λ none. (end_at-none rest none).inside)
    (omega (arith, sizes-within most following, length-drop (image_length rest) rest))

pub images-fit : (bytes : List ℕ) → size_of_images (rom_in bytes).images ≤ length bytes
unfolding rom_in
images-fit bytes = sizes-within (length bytes) bytes

-- ---- a step of the walk

-- there is no image at the front of the walk
pub walk_at-end : (rest : List ℕ) (place : Place) (walk : Walk) (end : RomEnd) → place ≡ Reading → walk_at rest place ≡ walk → Some end ≡ end_at rest → (walk.images ≡ []) × (walk.end ≡ end)
walk_at-end rest place walk end here view none =
    let rom : rom_in rest ≡ record { images = []; end = end } = rom_in-step rest ∙ ap (λ e. rom_from e (is_last rest) (image_at rest) (rom_in (drop (image_length rest) rest))) (sym none) in
    let before : walk_of rest ≡ walk = ap (walk_at rest) (sym here) ∙ view in (
      ap (λ w. w.images) (sym before) ∙ ap (λ r. r.images) rom,
      ap (λ w. w.end) (sym before) ∙ ap (λ r. r.end) rom,
    )

-- there is an image, and the walk after it is of what is left
walk_after : (last : Bool) (rest : List ℕ) (image : Image) (following : List ℕ) → let after = walk_at following (if last then AfterLast else Reading) in
    rom_from None last image (rom_in following) ≡ record { images = image ∷ after.images; end = after.end }
walk_after true rest image following = refl
walk_after false rest image following = refl

pub walk_at-image : (rest : List ℕ) (place : Place) (walk : Walk) (size : ℕ) (image : Image) (after : Place) → place ≡ Reading → walk_at rest place ≡ walk → None ≡ end_at rest → size ≡ image_length rest → image ≡ image_at rest
    → after ≡ (if is_last rest then AfterLast else Reading)
    → let left = walk_at (take (length rest - size) (drop size rest)) after in (walk.images ≡ image ∷ left.images) × (walk.end ≡ left.end)
walk_at-image rest place walk size image after here view stands size_is image_is after_is =
    let next : Place = if is_last rest then AfterLast else Reading in
    let following = drop (image_length rest) rest in
    let rom : rom_in rest ≡ record { images = image_at rest ∷ (walk_at following next).images; end = (walk_at following next).end } =
    rom_in-step rest ∙ ap (λ e. rom_from e (is_last rest) (image_at rest) (rom_in following)) (sym stands) ∙ walk_after (is_last rest) rest (image_at rest) following in
    let before : walk_of rest ≡ walk = ap (walk_at rest) (sym here) ∙ view in
    let left : take (length rest - size) (drop size rest) ≡ following = take_rest rest size ∙ ap (λ (n : ℕ). drop n rest) size_is in
    rw (left, image_is, after_is) (
      ap (λ w. w.images) (sym before) ∙ ap (λ r. r.images) rom,
      ap (λ w. w.end) (sym before) ∙ ap (λ r. r.end) rom,
    )
