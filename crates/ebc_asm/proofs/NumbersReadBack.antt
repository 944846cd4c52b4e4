-- A number that is printed is read back.
use Rattle.std.proofs.Common.{◌≡◌, ℕ, zero, suc, ◌+◌, ◌-◌, ◌%◌, ◌^◌, ◌<◌, ◌≤◌, true, false, nat_lt, List, [], ◌∷◌, ◌++◌, length, take, drop, replicate, cond, refl, ap, sym, subst, ◌∙◌, arith, Result, Ok, Err, length-append, ℤ, pos, negsuc, ◌-ℤ◌, ◌⊎◌, inl, inr}
use Rattle.std.specs.Prelude.{slice_index}
use Rattle.std.specs.List.{list_all}
use Rattle.std.specs.Char.{digit_value}
use Rattle.std.specs.Fmt.{decimal, digits, signed_decimal}
use Rattle.std.specs.Str.Parse.{AllDigits, digits_value, starts_with_minus}
use Rattle.std.proofs.Math.Nat.{mod-eq_of_lt}
use Rattle.std.proofs.lemmas.Fmt.{digits_is_IsNumeral, decimal_is_IsNumeral}
use Rattle.std.proofs.lemmas.Str.Parse.{digit_from_value}
use Rattle.ebc_asm.specs.declared.fault.AsmKind.{AsmKind}
use Rattle.ebc_asm.specs.declared.fault.AsmKind.TheVariants as kind
use Rattle.ebc_decode.specs.declared.size.Size.{Size}
use Rattle.ebc_decode.specs.declared.size.Size.TheVariants.{Byte, Word, Doubleword, Quadword}
use Rattle.ebc_decode.specs.Sizes.{byte_count}
use Rattle.ebc_listing.specs.Listing.{hex, signed_text, index_text}
use Rattle.ebc_asm.specs.Assembly.{numeral, is_numeral, within, ◌>>=◌, signed_number, raw_number, index_in_brackets, is_enclosed, inside}
use Rattle.ebc_asm.proofs.TestLemmas.{and_true, le-true, lt-true, lt-false, eq-false, eq-true}

-- ---- digits

-- digits are a numeral
all_digits : (base : ℕ) (ds : List ℕ) → AllDigits base ds → list_all (λ c. nat_lt (digit_value c) base) ds ≡ true
all_digits base [] h = refl
all_digits base (c ∷ cs) h = and_true (nat_lt (digit_value c) base) (list_all (λ d. nat_lt (digit_value d) base) cs) (lt-true (digit_value c) base h.0) (all_digits base cs h.1)

read_by : (base most n m : ℕ) (text : List ℕ) → is_numeral base text ≡ true → m ≡ n → n ≤ most → cond (is_numeral base text) (within most m) (Err kind.Number) ≡ Ok n
read_by base most n m text is e h =
    ap (λ b. cond b (within most m) (Err kind.Number)) is ∙ ap (within most) e ∙ ap (λ b. cond b (Ok n) (Err kind.Range)) (le-true n most h)

numeral_of : (base most n : ℕ) (text : List ℕ) → 0 < length text → list_all (λ c. nat_lt (digit_value c) base) text ≡ true → digits_value base text ≡ n → n ≤ most → numeral base most text ≡ Ok n
numeral_of base most n text some all is fits =
    read_by base most n (digits_value base text) text (and_true (nat_lt 0 (length text)) (list_all (λ c. nat_lt (digit_value c) base) text) (lt-true 0 (length text) some) all) is fits

pub decimal_is_read : (most n : ℕ) → n < 2 ^ 64 → n ≤ most → numeral 10 most (decimal n) ≡ Ok n
decimal_is_read most n small fits =
    let is = decimal_is_IsNumeral n small in
    numeral_of 10 most n (decimal n) is.0.0 (all_digits 10 (decimal n) is.0.1) is.1 fits

-- zeros in front change nothing
zeros_all : (k : ℕ) (ds : List ℕ) → list_all (λ c. nat_lt (digit_value c) 16) ds ≡ true → list_all (λ c. nat_lt (digit_value c) 16) (replicate k 48 ++ ds) ≡ true
zeros_all zero ds h = h
zeros_all (suc k) ds h = zeros_all k ds h

zeros_value : (k : ℕ) (ds : List ℕ) → digits_value 16 (replicate k 48 ++ ds) ≡ digits_value 16 ds
zeros_value zero ds = refl
zeros_value (suc k) ds = zeros_value k ds

pub hex_is_read : (least most n : ℕ) → n < 2 ^ 64 → n ≤ most → numeral 16 most (hex least n) ≡ Ok n
hex_is_read least most n small fits =
    let is = digits_is_IsNumeral 16 true (omega arith) (omega arith) n (omega arith) in
    let ds = digits 16 true n in
    let k = least - length ds in
    numeral_of 16 most n (hex least n) (omega (arith, is.0.0, length-append (replicate k 48) ds)) (zeros_all k ds (all_digits 16 ds is.0.1)) (zeros_value k ds ∙ is.1) fits

-- ---- the first character of a number

pub first_digit : (ds : List ℕ) → AllDigits 10 ds → 0 < length ds → (48 ≤ slice_index ds 0) × (slice_index ds 0 ≤ 57)
first_digit [] h some = absurd (omega arith)
first_digit (c ∷ cs) h some = let is = digit_from_value c h.0 in (omega (arith, is), omega (arith, is))

pub record Begins (text : List ℕ) : Type 0 where
  pub some : 0 < length text
  pub first : ((48 ≤ slice_index text 0) × (slice_index text 0 ≤ 57)) ⊎ (slice_index text 0 ≡ 45)

pub decimal_some : (n : ℕ) → n < 2 ^ 64 → 0 < length (decimal n)
decimal_some n small = (decimal_is_IsNumeral n small).0.0

pub decimal_begins : (n : ℕ) → n < 2 ^ 64 → (48 ≤ slice_index (decimal n) 0) × (slice_index (decimal n) 0 ≤ 57)
decimal_begins n small = let is = decimal_is_IsNumeral n small in first_digit (decimal n) is.0.1 is.0.0

-- ---- signed numbers

minus : (n K : ℕ) → n < K → pos n -ℤ pos K ≡ negsuc (K - suc n)
minus n zero h = absurd (omega arith)
minus n (suc k) h = ap (λ b. cond b (negsuc (suc k - suc n)) (pos (n - suc k))) (lt-true n (suc k) h)

-- how a signed number is read, if numbers of its size are below a limit, and positive ones below a half
reading : ℕ → ℕ → List ℕ → Result ℕ AsmKind
reading half limit text =
    cond (starts_with_minus text) (numeral 10 half (drop 1 text) >>= λ d. Ok ((limit - d) % limit)) (numeral 10 (half - 1) text)

writing : ℕ → ℕ → ℕ → ℤ
writing half limit n = cond (nat_lt (n % limit) half) (pos (n % limit)) (pos (n % limit) -ℤ pos limit)

writing_below : (half limit n : ℕ) → n < limit → n < half → writing half limit n ≡ pos n
unfolding writing
writing_below half limit n fits low =
    let same : n % limit ≡ n = mod-eq_of_lt fits in
    rw same (ap (λ b. cond b (pos n) (pos n -ℤ pos limit)) (lt-true n half low))

writing_above : (half limit n : ℕ) → n < limit → half ≤ n → writing half limit n ≡ negsuc (limit - suc n)
unfolding writing
writing_above half limit n fits high =
    let same : n % limit ≡ n = mod-eq_of_lt fits in
    rw same (ap (λ b. cond b (pos n) (pos n -ℤ pos limit)) (lt-false n half high) ∙ minus n limit fits)

no_minus : (ds : List ℕ) → 48 ≤ slice_index ds 0 → starts_with_minus ds ≡ false
no_minus ds h = eq-false (slice_index ds 0) 45 (λ e. omega arith)

reading_pos : (half limit n : ℕ) → n < half → n < 2 ^ 64 → reading half limit (decimal n) ≡ Ok n
unfolding reading
reading_pos half limit n low small =
    ap (λ b. cond b (numeral 10 half (drop 1 (decimal n)) >>= λ d. Ok ((limit - d) % limit)) (numeral 10 (half - 1) (decimal n))) (no_minus (decimal n) (decimal_begins n small).0)
    ∙ decimal_is_read (half - 1) n small (omega arith)

reading_neg : (half limit n m : ℕ) → limit ≡ half + half → half ≤ n → n < limit → limit ≤ 2 ^ 64 → m ≡ limit - n → reading half limit (45 ∷ decimal m) ≡ Ok n
unfolding reading
reading_neg half limit n m twice high fits most is =
    ap (λ (r : Result ℕ AsmKind). r >>= λ d. Ok ((limit - d) % limit)) (decimal_is_read half m (omega arith) (omega arith))
    ∙ ap Ok (let same : limit - m ≡ n = omega arith in rw same (mod-eq_of_lt fits))

-- such a number
record IsSignedText (half limit n : ℕ) (text : List ℕ) : Type 0 where
  pub read : reading half limit text ≡ Ok n
  pub begins : Begins text

read_back_below : (half limit n : ℕ) (z : ℤ) → n < half → n < 2 ^ 64 → z ≡ pos n → IsSignedText half limit n (signed_decimal z)
read_back_below half limit n z low small is =
    subst (λ (x : ℤ). IsSignedText half limit n (signed_decimal x)) (sym is)
    (record { read = reading_pos half limit n low small; begins = record { some = (decimal_is_IsNumeral n small).0.0; first = inl (decimal_begins n small) } })

read_back_above : (half limit n : ℕ) (z : ℤ) → limit ≡ half + half → half ≤ n → n < limit → limit ≤ 2 ^ 64 → z ≡ negsuc (limit - suc n) → IsSignedText half limit n (signed_decimal z)
read_back_above half limit n z twice high fits most is =
    subst (λ (x : ℤ). IsSignedText half limit n (signed_decimal x)) (sym is)
    (record { read = reading_neg half limit n (suc (limit - suc n)) twice high fits most (omega arith); begins = record { some = omega arith; first = inr refl } })

signed_text_is : (half limit n : ℕ) → limit ≡ half + half → limit ≤ 2 ^ 64 → n < limit → IsSignedText half limit n (signed_decimal (writing half limit n))
signed_text_is half limit n twice most fits =
    let which : (n < half) ⊎ (half ≤ n) = grind arith in
    elim which [
      | inl low ↦ read_back_below half limit n (writing half limit n) low (omega arith) (writing_below half limit n fits low)
      | inr high ↦ read_back_above half limit n (writing half limit n) twice high fits most (writing_above half limit n fits high)
    ]

-- a signed number of a size is read back
pub signed_is_read : (size : Size) (n : ℕ) → n < 256 ^ byte_count size → (signed_number size (signed_text size n) ≡ Ok n) × Begins (signed_text size n)
unfolding reading writing
signed_is_read Byte n fits = let is = signed_text_is 0x80 0x100 n (omega arith) (omega arith) fits in (is.read, is.begins)
signed_is_read Word n fits = let is = signed_text_is 0x8000 0x10000 n (omega arith) (omega arith) fits in (is.read, is.begins)
signed_is_read Doubleword n fits = let is = signed_text_is 0x80000000 0x100000000 n (omega arith) (omega arith) fits in (is.read, is.begins)
signed_is_read Quadword n fits = let is = signed_text_is 0x8000000000000000 0x10000000000000000 n (omega arith) (omega arith) fits in (is.read, is.begins)

-- ---- text between brackets

last_of : (xs : List ℕ) (y : ℕ) → slice_index (xs ++ y ∷ []) (length xs) ≡ y
last_of [] y = refl
last_of (x ∷ xs) y = last_of xs y

front_of : (xs : List ℕ) (y : ℕ) → take (length xs) (xs ++ y ∷ []) ≡ xs
front_of [] y = refl
front_of (x ∷ xs) y = ap (λ l. x ∷ l) (front_of xs y)

pub framed_inner : (left right : ℕ) (inner : List ℕ) → inside (left ∷ (inner ++ right ∷ [])) ≡ inner
framed_inner left right inner =
    let size : length (left ∷ (inner ++ right ∷ [])) - 2 ≡ length inner = omega (arith, length-append inner (right ∷ [])) in
    ap (λ n. take n (inner ++ right ∷ [])) size ∙ front_of inner right

pub framed_is : (left right : ℕ) (inner : List ℕ) → is_enclosed left right (left ∷ (inner ++ right ∷ [])) ≡ true
framed_is left right inner =
    let size : length (left ∷ (inner ++ right ∷ [])) - 1 ≡ suc (length inner) = omega (arith, length-append inner (right ∷ [])) in
    let last : slice_index (left ∷ (inner ++ right ∷ [])) (length (left ∷ (inner ++ right ∷ [])) - 1) ≡ right = ap (slice_index (left ∷ (inner ++ right ∷ []))) size ∙ last_of inner right in
    and_true _ _ (and_true _ _ (le-true 2 (length (left ∷ (inner ++ right ∷ []))) (omega (arith, length-append inner (right ∷ [])))) (eq-true left left refl)) (eq-true _ right last)

-- ---- indices

in_brackets : (size : Size) (inner : List ℕ) (n : ℕ) → raw_number size inner ≡ Ok n → index_in_brackets size (91 ∷ (inner ++ 93 ∷ [])) ≡ Ok n
in_brackets size inner n is =
    ap (λ b. cond b (raw_number size (inside (91 ∷ (inner ++ 93 ∷ [])))) (Err kind.Operand)) (framed_is 91 93 inner)
    ∙ ap (raw_number size) (framed_inner 91 93 inner) ∙ is

pub index_is_read : (size : Size) (n : ℕ) → n < 256 ^ byte_count size → index_in_brackets size (index_text size n) ≡ Ok n
index_is_read Byte n fits = in_brackets Byte (48 ∷ 120 ∷ hex 2 n) n (hex_is_read 2 0xff n (omega arith) (omega arith))
index_is_read Word n fits = in_brackets Word (48 ∷ 120 ∷ hex 4 n) n (hex_is_read 4 0xffff n (omega arith) (omega arith))
index_is_read Doubleword n fits = in_brackets Doubleword (48 ∷ 120 ∷ hex 8 n) n (hex_is_read 8 0xffffffff n (omega arith) (omega arith))
index_is_read Quadword n fits = in_brackets Quadword (48 ∷ 120 ∷ hex 16 n) n (hex_is_read 16 0xffffffffffffffff n (omega arith) (omega arith))
