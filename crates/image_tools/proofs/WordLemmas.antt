-- The words of `rom`.
use Rattle.std.proofs.Common.{◌≡◌, ◌≤◌, ◌<◌, List, [], ◌∷◌, length, drop, get_or, refl, arith}
use Rattle.std.specs.Prelude.{None, String, string_bytes}
use Rattle.std.specs.declared.alloc.Global.{Global}
use Rattle.script_text.specs.Numbers.{number_in}
use Rattle.image_tools.specs.Tools.{rom_form, rom_form_of, words_in}

-- fewer than four are of no form
pub few_words : (words : List (String Global)) → length words < 4 → rom_form (words_in words) ≡ None
few_words [] few = refl
few_words (a ∷ []) few = refl
few_words (a ∷ b ∷ []) few = refl
few_words (a ∷ b ∷ c ∷ []) few = refl
few_words (a ∷ b ∷ c ∷ d ∷ words) few = absurd (omega arith)

-- the first three are numbers, and the others are files
pub rom_words : (words : List (String Global)) (vendor device class : String Global) → 4 ≤ length words → vendor ≡ get_or words 0 vendor → device ≡ get_or words 1 device → class ≡ get_or words 2 class
    → rom_form (words_in words) ≡ rom_form_of (number_in 0 0xFFFF (string_bytes vendor)) (number_in 0 0xFFFF (string_bytes device)) (number_in 0 0xFFFFFF (string_bytes class)) (words_in (drop 3 words))
rom_words [] vendor device class many v d c = absurd (omega arith)
rom_words (a ∷ []) vendor device class many v d c = absurd (omega arith)
rom_words (a ∷ b ∷ []) vendor device class many v d c = absurd (omega arith)
rom_words (a ∷ b ∷ e ∷ []) vendor device class many v d c = absurd (omega arith)
rom_words (a ∷ b ∷ e ∷ file ∷ files) vendor device class many v d c =
    let first : vendor ≡ a = v in
    let second : device ≡ b = d in
    let third : class ≡ e = c in
    rw (first, second, third) refl
