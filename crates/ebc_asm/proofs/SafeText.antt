-- Characters that separate nothing, and lists of them.
use Rattle.std.proofs.Common.{◌≡◌, ℕ, zero, suc, ◌+◌, ◌-◌, ◌*◌, ◌/◌, ◌%◌, ◌<◌, ◌≤◌, Bool, true, false, not, ◌||◌, nat_eq, List, [], ◌∷◌, ◌++◌, length, take, drop, replicate, cond, refl, ap, ◌∙◌, arith, ℤ, pos, negsuc}
use Rattle.std.specs.Prelude.{slice_index, codes}
use Rattle.std.specs.List.{list_all, list_any, prefix_len, position_or_len, before_first, after_first}
use Rattle.std.specs.Fmt.{decimal, digits, digits_onto, digit_glyph, signed_decimal}
use Rattle.std.proofs.Math.Nat.{mod-lt}
use Rattle.std.proofs.Math.Seq.{take-append_seam}
use Rattle.ebc_decode.specs.Columns.{is_set}
use Rattle.ebc_decode.specs.declared.instr.Instr.{Instr}
use Rattle.ebc_names.specs.declared.slots.Suffix.{Suffix}
use Rattle.ebc_names.specs.declared.slots.Suffix.TheVariants.{Nothing, Signed, SignedOrLabel, Index}
use Rattle.ebc_decode.specs.declared.size.Size.{Size}
use Rattle.ebc_names.specs.declared.slots.Slot.{Slot}
use Rattle.ebc_names.specs.declared.slots.Slot.TheVariants.{Register, Flags, FlagsOrIp, Immediate, ImmediateOrLabel, RawIndex, Step, Code}
use Rattle.ebc_decode.specs.Sizes.{byte_count}
use Rattle.ebc_listing.specs.Listing.{register, is_indirect, part, shows, suffix_text, slot_text, index_text, hex}
use Rattle.ebc_names.specs.Names.{suffix_of}
use Rattle.ebc_asm.specs.Assembly.{is_semicolon, is_comma}
use Rattle.text_lines.specs.Words.{is_blank, after_blanks, first_word, after_word, only_word}
use Rattle.ebc_asm.proofs.TestLemmas.{and_true, and_parts, not_is, below, at_below}

-- ---- tests of lists

pub all_append : (p : ℕ → Bool) (xs ys : List ℕ) → list_all p xs ≡ true → list_all p ys ≡ true → list_all p (xs ++ ys) ≡ true
all_append p [] ys a b = b
all_append p (x ∷ xs) ys a b = let parts = and_parts (p x) (list_all p xs) a in and_true (p x) (list_all p (xs ++ ys)) parts.0 (all_append p xs ys parts.1 b)

pub all_take : (p : ℕ → Bool) (n : ℕ) (xs : List ℕ) → list_all p xs ≡ true → list_all p (take n xs) ≡ true
all_take p zero xs a = refl
all_take p (suc n) [] a = refl
all_take p (suc n) (x ∷ xs) a = let parts = and_parts (p x) (list_all p xs) a in and_true (p x) (list_all p (take n xs)) parts.0 (all_take p n xs parts.1)

pub all_drop : (p : ℕ → Bool) (n : ℕ) (xs : List ℕ) → list_all p xs ≡ true → list_all p (drop n xs) ≡ true
all_drop p zero xs a = a
all_drop p (suc n) [] a = refl
all_drop p (suc n) (x ∷ xs) a = all_drop p n xs (and_parts (p x) (list_all p xs) a).1

pub all_turn : (p q : ℕ → Bool) → ((x : ℕ) → p x ≡ true → q x ≡ true) → (xs : List ℕ) → list_all p xs ≡ true → list_all q xs ≡ true
all_turn p q h [] a = refl
all_turn p q h (x ∷ xs) a = let parts = and_parts (p x) (list_all p xs) a in and_true (q x) (list_all q xs) (h x parts.0) (all_turn p q h xs parts.1)

-- ---- the first that passes

suc-is : (n : ℕ) → 1 + n ≡ suc n
suc-is n = omega arith

position_at : (p : ℕ → Bool) (xs : List ℕ) (y : ℕ) (ys : List ℕ) → list_all (λ x. not (p x)) xs ≡ true → p y ≡ true → position_or_len p (xs ++ y ∷ ys) ≡ length xs
position_at p [] y ys a h = ap (λ b. cond (not b) (1 + prefix_len (λ x. not (p x)) ys) 0) h
position_at p (x ∷ xs) y ys a h =
    let parts = and_parts (not (p x)) (list_all (λ z. not (p z)) xs) a in
    ap (λ b. cond b (1 + prefix_len (λ z. not (p z)) (xs ++ y ∷ ys)) 0) parts.0 ∙ ap (λ n. 1 + n) (position_at p xs y ys parts.1 h) ∙ suc-is (length xs)

position_none : (p : ℕ → Bool) (xs : List ℕ) → list_all (λ x. not (p x)) xs ≡ true → position_or_len p xs ≡ length xs
position_none p [] a = refl
position_none p (x ∷ xs) a =
    let parts = and_parts (not (p x)) (list_all (λ z. not (p z)) xs) a in
    ap (λ b. cond b (1 + prefix_len (λ z. not (p z)) xs) 0) parts.0 ∙ ap (λ n. 1 + n) (position_none p xs parts.1) ∙ suc-is (length xs)

take_whole : (xs : List ℕ) → take (length xs) xs ≡ xs
take_whole [] = refl
take_whole (x ∷ xs) = ap (λ l. x ∷ l) (take_whole xs)

drop_past : (xs : List ℕ) (y : ℕ) (ys : List ℕ) → drop (length xs + 1) (xs ++ y ∷ ys) ≡ ys
drop_past [] y ys = refl
drop_past (x ∷ xs) y ys = let more : suc (length xs) + 1 ≡ suc (length xs + 1) = omega arith in ap (λ n. drop n (x ∷ (xs ++ y ∷ ys))) more ∙ drop_past xs y ys

drop_whole : (xs : List ℕ) → drop (length xs + 1) xs ≡ []
drop_whole [] = refl
drop_whole (x ∷ xs) = let more : suc (length xs) + 1 ≡ suc (length xs + 1) = omega arith in ap (λ n. drop n (x ∷ xs)) more ∙ drop_whole xs

pub before_at : (p : ℕ → Bool) (xs : List ℕ) (y : ℕ) (ys : List ℕ) → list_all (λ x. not (p x)) xs ≡ true → p y ≡ true → before_first p (xs ++ y ∷ ys) ≡ xs
before_at p xs y ys a h = ap (λ n. take n (xs ++ y ∷ ys)) (position_at p xs y ys a h) ∙ take-append_seam xs (y ∷ ys)

pub after_at : (p : ℕ → Bool) (xs : List ℕ) (y : ℕ) (ys : List ℕ) → list_all (λ x. not (p x)) xs ≡ true → p y ≡ true → after_first p (xs ++ y ∷ ys) ≡ ys
after_at p xs y ys a h = ap (λ n. drop (n + 1) (xs ++ y ∷ ys)) (position_at p xs y ys a h) ∙ drop_past xs y ys

pub before_none : (p : ℕ → Bool) (xs : List ℕ) → list_all (λ x. not (p x)) xs ≡ true → before_first p xs ≡ xs
before_none p xs a = ap (λ n. take n xs) (position_none p xs a) ∙ take_whole xs

pub after_none : (p : ℕ → Bool) (xs : List ℕ) → list_all (λ x. not (p x)) xs ≡ true → after_first p xs ≡ []
after_none p xs a = ap (λ n. drop (n + 1) xs) (position_none p xs a) ∙ drop_whole xs

-- ---- characters

-- characters that separate nothing
abbrev pub is_safe : ℕ → Bool
is_safe c = not (list_any (nat_eq c) (9 ∷ 10 ∷ 13 ∷ 32 ∷ 44 ∷ 58 ∷ 59 ∷ []))

-- characters that end no line, begin no comment and name no label
abbrev pub is_inner : ℕ → Bool
is_inner c = not (list_any (nat_eq c) (10 ∷ 13 ∷ 58 ∷ 59 ∷ []))

neither : (a b : Bool) → not (a || b) ≡ true → (a ≡ false) × (not b ≡ true)
neither true b e = absurd cc
neither false b e = (refl, e)

pub record IsSafe (c : ℕ) : Type 0 where
  pub tab : nat_eq c 9 ≡ false
  pub feed : nat_eq c 10 ≡ false
  pub «return» : nat_eq c 13 ≡ false
  pub space : nat_eq c 32 ≡ false
  pub comma : nat_eq c 44 ≡ false
  pub colon : nat_eq c 58 ≡ false
  pub semicolon : nat_eq c 59 ≡ false

pub safe_is : (c : ℕ) → is_safe c ≡ true → IsSafe c
safe_is c e =
    let a = neither (nat_eq c 9) (list_any (nat_eq c) (10 ∷ 13 ∷ 32 ∷ 44 ∷ 58 ∷ 59 ∷ [])) e in
    let b = neither (nat_eq c 10) (list_any (nat_eq c) (13 ∷ 32 ∷ 44 ∷ 58 ∷ 59 ∷ [])) a.1 in
    let d = neither (nat_eq c 13) (list_any (nat_eq c) (32 ∷ 44 ∷ 58 ∷ 59 ∷ [])) b.1 in
    let f = neither (nat_eq c 32) (list_any (nat_eq c) (44 ∷ 58 ∷ 59 ∷ [])) d.1 in
    let g = neither (nat_eq c 44) (list_any (nat_eq c) (58 ∷ 59 ∷ [])) f.1 in
    let h = neither (nat_eq c 58) (list_any (nat_eq c) (59 ∷ [])) g.1 in
    let i = neither (nat_eq c 59) false h.1 in
    record { tab = a.0; feed = b.0; «return» = d.0; space = f.0; comma = g.0; colon = h.0; semicolon = i.0 }

safe_blank : (c : ℕ) → is_safe c ≡ true → not (is_blank c) ≡ true
safe_blank c e = let s = safe_is c e in rw (s.space, s.tab) refl

safe_comma : (c : ℕ) → is_safe c ≡ true → not (is_comma c) ≡ true
safe_comma c e = let s = safe_is c e in rw (s.comma) refl

safe_inner : (c : ℕ) → is_safe c ≡ true → is_inner c ≡ true
safe_inner c e = let s = safe_is c e in rw (s.feed, s.«return», s.colon, s.semicolon) refl

pub no_blank : (text : List ℕ) → list_all is_safe text ≡ true → list_all (λ c. not (is_blank c)) text ≡ true
no_blank text a = all_turn is_safe (λ c. not (is_blank c)) safe_blank text a

pub no_comma : (text : List ℕ) → list_all is_safe text ≡ true → list_all (λ c. not (is_comma c)) text ≡ true
no_comma text a = all_turn is_safe (λ c. not (is_comma c)) safe_comma text a

pub inner_safe : (text : List ℕ) → list_all is_safe text ≡ true → list_all is_inner text ≡ true
inner_safe text a = all_turn is_safe is_inner safe_inner text a

inner_semicolon : (c : ℕ) → is_inner c ≡ true → not (is_semicolon c) ≡ true
inner_semicolon c e =
    let a = neither (nat_eq c 10) (list_any (nat_eq c) (13 ∷ 58 ∷ 59 ∷ [])) e in
    let b = neither (nat_eq c 13) (list_any (nat_eq c) (58 ∷ 59 ∷ [])) a.1 in
    let d = neither (nat_eq c 58) (list_any (nat_eq c) (59 ∷ [])) b.1 in
    let f = neither (nat_eq c 59) false d.1 in
    rw (f.0) refl

pub no_semicolon : (text : List ℕ) → list_all is_inner text ≡ true → list_all (λ c. not (is_semicolon c)) text ≡ true
no_semicolon text a = all_turn is_inner (λ c. not (is_semicolon c)) inner_semicolon text a

inner_parts : (c : ℕ) → is_inner c ≡ true → (nat_eq c 10 ≡ false) × (nat_eq c 13 ≡ false) × (nat_eq c 58 ≡ false)
inner_parts c e =
    let a = neither (nat_eq c 10) (list_any (nat_eq c) (13 ∷ 58 ∷ 59 ∷ [])) e in
    let b = neither (nat_eq c 13) (list_any (nat_eq c) (58 ∷ 59 ∷ [])) a.1 in
    let d = neither (nat_eq c 58) (list_any (nat_eq c) (59 ∷ [])) b.1 in
    (a.0, b.0, d.0)

pub no_feed : (text : List ℕ) → list_all is_inner text ≡ true → list_all (λ c. not (nat_eq c 10)) text ≡ true
no_feed text a = all_turn is_inner (λ c. not (nat_eq c 10)) (λ c e. ap not (inner_parts c e).0) text a

-- no place of such a text has a colon or a carriage return
pub no_colon_at : (text : List ℕ) (i : ℕ) → list_all is_inner text ≡ true → nat_eq (slice_index text i) 58 ≡ false
no_colon_at [] i a = refl
no_colon_at (c ∷ cs) zero a = (inner_parts c (and_parts (is_inner c) (list_all is_inner cs) a).0).2
no_colon_at (c ∷ cs) (suc i) a = no_colon_at cs i (and_parts (is_inner c) (list_all is_inner cs) a).1

pub no_return_at : (text : List ℕ) (i : ℕ) → list_all is_inner text ≡ true → nat_eq (slice_index text i) 13 ≡ false
no_return_at [] i a = refl
no_return_at (c ∷ cs) zero a = (inner_parts c (and_parts (is_inner c) (list_all is_inner cs) a).0).1
no_return_at (c ∷ cs) (suc i) a = no_return_at cs i (and_parts (is_inner c) (list_all is_inner cs) a).1

-- ---- words

pub no_blanks_at_front : (text : List ℕ) → list_all (λ c. not (is_blank c)) text ≡ true → after_blanks text ≡ text
no_blanks_at_front [] a = refl
no_blanks_at_front (c ∷ cs) a =
    let first : is_blank c ≡ false = not_is (is_blank c) (and_parts (not (is_blank c)) (list_all (λ d. not (is_blank d)) cs) a).0 in
    ap (λ b. drop (cond b (1 + prefix_len is_blank cs) 0) (c ∷ cs)) first

-- a word is the only one of itself, and after a space
only_of : (text inner : List ℕ) → after_blanks text ≡ inner → list_all (λ c. not (is_blank c)) inner ≡ true → only_word text ≡ inner
only_of text inner is a =
    ap (λ (l : List ℕ). cond (list_all is_blank (after_word l)) (first_word l) []) is
    ∙ ap (λ (l : List ℕ). cond (list_all is_blank l) (first_word inner) []) (after_none is_blank inner a)
    ∙ before_none is_blank inner a

pub only_word_is : (text : List ℕ) → list_all is_safe text ≡ true → only_word text ≡ text
only_word_is text a = only_of text text (no_blanks_at_front text (no_blank text a)) (no_blank text a)

after_space : (text : List ℕ) → list_all (λ c. not (is_blank c)) text ≡ true → after_blanks (32 ∷ text) ≡ text
after_space [] a = refl
after_space (c ∷ cs) a =
    let first : is_blank c ≡ false = not_is (is_blank c) (and_parts (not (is_blank c)) (list_all (λ d. not (is_blank d)) cs) a).0 in
    ap (λ b. drop (1 + cond b (1 + prefix_len is_blank cs) 0) (32 ∷ c ∷ cs)) first

pub only_word_after_space : (text : List ℕ) → list_all is_safe text ≡ true → only_word (32 ∷ text) ≡ text
only_word_after_space text a = only_of (32 ∷ text) text (after_space text (no_blank text a)) (no_blank text a)

-- ---- what is printed

glyphs_safe : (upper : Bool) → list_all (λ d. is_safe (digit_glyph upper d)) (below 16) ≡ true
glyphs_safe true = refl
glyphs_safe false = refl

onto_safe : (k base : ℕ) (upper : Bool) (n : ℕ) (acc : List ℕ) → 0 < base → base ≤ 16 → list_all is_safe acc ≡ true → list_all is_safe (digits_onto k base upper n acc) ≡ true
onto_safe zero base upper n acc low high a = a
onto_safe (suc k) base upper n acc low high a =
    let glyph : is_safe (digit_glyph upper (n % base)) ≡ true = at_below (λ d. is_safe (digit_glyph upper d)) 16 (n % base) (glyphs_safe upper) (omega (arith, mod-lt n low)) in
    let more : list_all is_safe (digit_glyph upper (n % base) ∷ acc) ≡ true = and_true (is_safe (digit_glyph upper (n % base))) (list_all is_safe acc) glyph a in
    either (nat_eq (n / base) 0) _ _ more (onto_safe k base upper (n / base) (digit_glyph upper (n % base) ∷ acc) low high more)
  where
    either : (b : Bool) (xs ys : List ℕ) → list_all is_safe xs ≡ true → list_all is_safe ys ≡ true → list_all is_safe (cond b xs ys) ≡ true
    either true xs ys p q = p
    either false xs ys p q = q

digits_safe : (base : ℕ) (upper : Bool) (n : ℕ) → 0 < base → base ≤ 16 → list_all is_safe (digits base upper n) ≡ true
unfolding digits
digits_safe base upper n low high = onto_safe 64 base upper n [] low high refl

decimal_safe : (n : ℕ) → list_all is_safe (decimal n) ≡ true
decimal_safe n = digits_safe 10 false n (omega arith) (omega arith)

signed_safe : (z : ℤ) → list_all is_safe (signed_decimal z) ≡ true
signed_safe (pos n) = decimal_safe n
signed_safe (negsuc n) = decimal_safe (suc n)

zeros_safe : (k : ℕ) (text : List ℕ) → list_all is_safe text ≡ true → list_all is_safe (replicate k 48 ++ text) ≡ true
zeros_safe zero text a = a
zeros_safe (suc k) text a = zeros_safe k text a

index_safe : (size : Size) (n : ℕ) → list_all is_safe (index_text size n) ≡ true
index_safe size n = all_append is_safe (hex (2 * byte_count size) n) (93 ∷ []) (zeros_safe (2 * byte_count size - length (digits 16 true n)) (digits 16 true n) (digits_safe 16 true n (omega arith) (omega arith))) refl

braces_safe : (z : ℤ) → list_all is_safe ((123 ∷ signed_decimal z) ++ 125 ∷ []) ≡ true
braces_safe z = all_append is_safe (signed_decimal z) (125 ∷ []) (signed_safe z) refl

suffix_safe : (b : Suffix) (size : Size) (n : ℕ) → list_all is_safe (suffix_text b size n) ≡ true
suffix_safe Nothing size n = refl
suffix_safe Signed size n = braces_safe _
suffix_safe SignedOrLabel size n = braces_safe _
suffix_safe Index size n = index_safe size n

register_safe : (ind shown : Bool) (k : ℕ) (rest : List ℕ) → list_all is_safe rest ≡ true → list_all is_safe ((cond ind (codes "@R") (codes "R") ++ decimal k) ++ cond shown rest []) ≡ true
register_safe true true k rest a = all_append is_safe (decimal k) rest (decimal_safe k) a
register_safe true false k rest a = all_append is_safe (decimal k) [] (decimal_safe k) refl
register_safe false true k rest a = all_append is_safe (decimal k) rest (decimal_safe k) a
register_safe false false k rest a = all_append is_safe (decimal k) [] (decimal_safe k) refl

flags_safe : (b : Bool) → list_all is_safe (cond b (codes "IP") (codes "FLAGS")) ≡ true
flags_safe true = refl
flags_safe false = refl

-- the text of an operand has no separators
pub slot_safe : (slot : Slot) (instr : Instr) → list_all is_safe (slot_text slot instr) ≡ true
slot_safe (Register side shown_by size direct indirect) instr =
    register_safe (is_indirect side instr) (shows shown_by instr) (register side instr) (suffix_text (suffix_of direct indirect (is_indirect side instr)) size (part side instr)) (suffix_safe (suffix_of direct indirect (is_indirect side instr)) size (part side instr))
slot_safe Flags instr = refl
slot_safe FlagsOrIp instr = flags_safe (is_set instr.operands 4)
slot_safe (Immediate size) instr = signed_safe _
slot_safe (ImmediateOrLabel size) instr = signed_safe _
slot_safe (RawIndex size) instr = index_safe size instr.second
slot_safe Step instr = signed_safe _
slot_safe Code instr = decimal_safe instr.operands
