-- The test of the table of names, computed, and what it says about each entry.
use Rattle.std.proofs.Common.{◌≡◌, ℕ, ◌+◌, ◌*◌, ◌/◌, ◌%◌, ◌<◌, Bool, true, not, ◌&&◌, ◌||◌, nat_lt, List, [], ◌∷◌, length, refl, subst, arith}
use Rattle.std.specs.Prelude.{bytes_eq, codes, is_some}
use Rattle.std.specs.List.{list_all}
use Rattle.ebc_names.specs.Names.{Name, names}
use Rattle.ebc_asm.proofs.TestLemmas.{below, at_below}
use Rattle.ebc_asm.proofs.ReadBack.{op_good}
use Rattle.ebc_asm.proofs.SafeText.{is_safe}

-- eight opcodes, one task each
eight_good : ℕ → Bool
eight_good eighth = list_all (λ k. op_good (8 * eighth + k)) (below 8)

good_0 : eight_good 0 ≡ true
unfolding eight_good op_good names
good_0 = refl

good_1 : eight_good 1 ≡ true
unfolding eight_good op_good names
good_1 = refl

good_2 : eight_good 2 ≡ true
unfolding eight_good op_good names
good_2 = refl

good_3 : eight_good 3 ≡ true
unfolding eight_good op_good names
good_3 = refl

good_4 : eight_good 4 ≡ true
unfolding eight_good op_good names
good_4 = refl

good_5 : eight_good 5 ≡ true
unfolding eight_good op_good names
good_5 = refl

good_6 : eight_good 6 ≡ true
unfolding eight_good op_good names
good_6 = refl

good_7 : eight_good 7 ≡ true
unfolding eight_good op_good names
good_7 = refl

eighths_good : list_all eight_good (below 8) ≡ true
eighths_good = rw (good_0, good_1, good_2, good_3, good_4, good_5, good_6, good_7) refl

-- the test holds at each opcode
pub each_op_good : (op : ℕ) → op < 64 → op_good op ≡ true
unfolding eight_good
each_op_good op small =
    let whole : 8 * (op / 8) + op % 8 ≡ op = omega arith in
    subst (λ n. op_good n ≡ true) whole (at_below (λ k. op_good (8 * (op / 8) + k)) 8 (op % 8) (at_below eight_good 8 (op / 8) eighths_good (omega arith)) (omega arith))

-- ---- the texts of names

-- A name has only such characters and is not `.byte`; one that has an operand 2 has an operand 1.
abbrev pub is_name : Name → Bool
is_name n = list_all is_safe n.text && (nat_lt 0 (length n.text) && (not (bytes_eq n.text (codes ".byte")) && (is_some n.pattern.one || not (is_some n.pattern.two))))

-- no two names have the same text
abbrev pub are_apart : List Name → Bool
are_apart [] = true
are_apart (n ∷ ns) = list_all (λ m. not (bytes_eq n.text m.text)) ns && are_apart ns

pub all_names : list_all is_name names ≡ true
unfolding names
all_names = refl

pub names_apart : are_apart names ≡ true
unfolding names
names_apart = refl
