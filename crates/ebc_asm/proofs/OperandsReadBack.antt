-- An operand that is printed is read back.
use Rattle.std.proofs.Common.{◌≡◌, ℕ, ◌+◌, ◌-◌, ◌^◌, ◌<◌, Bool, true, false, not, ◌&&◌, ◌||◌, nat_eq, List, [], ◌∷◌, ◌++◌, length, drop, cond, refl, ap, ◌∙◌, arith, Result, Ok, Err, Option, inl, inr}
use Rattle.std.specs.Prelude.{slice_index, nat_le, codes, is_some}
use Rattle.std.specs.Fmt.{decimal}
use Rattle.std.proofs.lemmas.Fmt.{decimal_digit}
use Rattle.ebc_decode.specs.Columns.{is_set}
use Rattle.ebc_decode.specs.declared.instr.Instr.{Instr}
use Rattle.ebc_asm.specs.declared.fault.AsmKind.{AsmKind}
use Rattle.ebc_asm.specs.declared.fault.AsmKind.TheVariants as kind
use Rattle.ebc_names.specs.declared.slots.Bits.{Bits}
use Rattle.ebc_names.specs.declared.slots.Side.{Side}
use Rattle.ebc_names.specs.declared.slots.Side.TheVariants.{One, Two}
use Rattle.ebc_names.specs.declared.slots.Suffix.{Suffix}
use Rattle.ebc_names.specs.declared.slots.Suffix.TheVariants.{Nothing, Signed, SignedOrLabel, Index}
use Rattle.ebc_decode.specs.declared.size.Size.{Size}
use Rattle.ebc_decode.specs.declared.size.Size.TheVariants.{Byte}
use Rattle.ebc_names.specs.declared.slots.Slot.{Slot}
use Rattle.ebc_names.specs.declared.slots.Slot.TheVariants.{Register, Flags, FlagsOrIp, Immediate, ImmediateOrLabel, RawIndex, Step, Code}
use Rattle.ebc_names.specs.Names.{bits, suffix_of}
use Rattle.ebc_decode.specs.Sizes.{byte_count}
use Rattle.ebc_listing.specs.Listing.{register, is_indirect, part, shows, suffix_text, slot_text, signed_text}
use Rattle.ebc_asm.specs.Assembly.{Label, contribution, register_contribution, part_contribution, union_of, slot_operand, register_operand, number_after_register, number_in_braces, begins_register, is_in_braces, is_reference, is_other_operand, plain_number, number_or_label, signed_or_label, is_label_name, label_distance, signed_number, numeral, inside, in_second_part, in_second_byte, ◌>>=◌}
use Rattle.ebc_asm.proofs.TestLemmas.{and_true, and_parts, le-true, eq-false, eq-from}
use Rattle.ebc_asm.proofs.NumbersReadBack.{Begins, signed_is_read, index_is_read, framed_is, framed_inner, decimal_is_read, decimal_begins, decimal_some}
use Rattle.ebc_asm.proofs.ReadBack.{no_contribution, slot_adds, is_something, of_side, slot_fits}

-- ---- a number in its place

-- no number begins as a label or another operand
not_first : (text : List ℕ) (c : ℕ) → Begins text → 57 < c → nat_eq (slice_index text 0) c ≡ false
not_first text c b high = eq-false (slice_index text 0) c (λ e. elim b.first [ inl digit ↦ omega arith | inr sign ↦ omega arith ])

not_reference : (text : List ℕ) → Begins text → is_reference text ≡ false
not_reference text b = not_first text 61 b (omega arith)

not_other : (text : List ℕ) → Begins text → is_other_operand text ≡ false
not_other text b =
    let some : nat_eq (length text) 0 ≡ false = eq-false (length text) 0 (λ e. omega (arith, b.some)) in
    rw (some, not_first text 82 b (omega arith), not_first text 64 b (omega arith), not_first text 91 b (omega arith), not_first text 61 b (omega arith)) refl

plain_is_read : (read : List ℕ → Result ℕ AsmKind) (text : List ℕ) (n : ℕ) → Begins text → read text ≡ Ok n → plain_number read text ≡ Ok n
plain_is_read read text n b e = ap (λ t. cond t (Err kind.Operand) (read text)) (not_other text b) ∙ e

number_is_read : (labels : Option (List Label)) (next unit : ℕ) (size : Size) (n : ℕ) → n < 256 ^ byte_count size → number_or_label labels next unit size (signed_text size n) ≡ Ok n
number_is_read labels next unit size n fits =
    let is = signed_is_read size n fits in
    let text = signed_text size n in
    ap (λ t. cond t (signed_or_label labels next unit size text) (plain_number (signed_number size) text)) (not_reference text is.1)
    ∙ plain_is_read (signed_number size) text n is.1 is.0

-- ---- what follows a register

or_true : (a : Bool) → (a || true) ≡ true
or_true true = refl
or_true false = refl

braces_by : (allowed : Bool) (labels : Option (List Label)) (next : ℕ) (size : Size) (text inner : List ℕ) (n : ℕ) → inside text ≡ inner → is_in_braces text ≡ true → is_reference inner ≡ false
    → signed_number size inner ≡ Ok n → number_in_braces allowed labels next size text ≡ Ok n
braces_by allowed labels next size text inner n is braces plain reads =
    ap (λ (f : List ℕ). cond (is_in_braces text && (allowed || not (is_reference f))) (signed_or_label labels next 1 size f) (Err kind.Operand)) is
    ∙ ap (λ b. cond (b && (allowed || not (is_reference inner))) (signed_or_label labels next 1 size inner) (Err kind.Operand)) braces
    ∙ ap (λ b. cond (allowed || not b) (signed_or_label labels next 1 size inner) (Err kind.Operand)) plain
    ∙ ap (λ b. cond b (signed_or_label labels next 1 size inner) (Err kind.Operand)) (or_true allowed)
    ∙ ap (λ b. cond b (cond (is_label_name (drop 1 inner)) (label_distance labels next 1 size (drop 1 inner)) (Err kind.Operand)) (signed_number size inner)) plain
    ∙ reads

braces_are_read : (allowed : Bool) (labels : Option (List Label)) (next : ℕ) (size : Size) (n : ℕ) → n < 256 ^ byte_count size
    → number_in_braces allowed labels next size (123 ∷ (signed_text size n ++ 125 ∷ [])) ≡ Ok n
braces_are_read allowed labels next size n fits =
    let is = signed_is_read size n fits in
    let inner = signed_text size n in
    braces_by allowed labels next size (123 ∷ (inner ++ 125 ∷ [])) inner n (framed_inner 123 125 inner) (framed_is 123 125 inner) (not_reference inner is.1) is.0

suffix_is_read : (b : Suffix) (plain : Bool) (labels : Option (List Label)) (next : ℕ) (size : Size) (n : ℕ) → is_something b ≡ true → n < 256 ^ byte_count size
    → (number_after_register b plain labels next size (suffix_text b size n) ≡ Ok n) × (0 < length (suffix_text b size n))
suffix_is_read Nothing plain labels next size n some fits = absurd cc
suffix_is_read Signed plain labels next size n some fits = (braces_are_read false labels next size n fits, omega arith)
suffix_is_read SignedOrLabel plain labels next size n some fits = (braces_are_read plain labels next size n fits, omega arith)
suffix_is_read Index plain labels next size n some fits = (index_is_read size n fits, omega arith)

-- the text after a register
tail_is_read : (side : Side) (shown_by : Bits) (size : Size) (b : Suffix) (ind shown : Bool) (k m n : ℕ) (labels : Option (List Label)) (next : ℕ)
    → m ≡ k → (shown ≡ true → (is_something b ≡ true) × (n < 256 ^ byte_count size))
    → register_operand side shown_by size b ind m labels next (cond shown (suffix_text b size n) [])
    ≡ Ok (cond shown (union_of (register_contribution side ind k) (part_contribution side shown_by n)) (register_contribution side ind k))
tail_is_read side shown_by size b ind false k m n labels next same h = ap (λ i. Ok (register_contribution side ind i)) same
tail_is_read side shown_by size b ind true k m n labels next same h =
    let is = suffix_is_read b (nat_eq m 0 && not ind) labels next size n (h refl).0 (h refl).1 in
    ap (λ t. cond t (Ok (register_contribution side ind m)) (number_after_register b (nat_eq m 0 && not ind) labels next size (suffix_text b size n) >>= λ i. Ok (union_of (register_contribution side ind m) (part_contribution side shown_by i)))) (eq-false (length (suffix_text b size n)) 0 (λ e. omega (arith, is.1)))
    ∙ ap (λ (r : Result ℕ AsmKind). r >>= λ i. Ok (union_of (register_contribution side ind m) (part_contribution side shown_by i))) is.0
    ∙ ap (λ i. Ok (union_of (register_contribution side ind i) (part_contribution side shown_by n))) same

-- an operand by a register
digit_is_register : (k : ℕ) (rest : List ℕ) → k < 8 → begins_register (82 ∷ (48 + k) ∷ rest) ≡ true
digit_is_register k rest low = and_true (nat_le 48 (48 + k)) (nat_le (48 + k) 55) (le-true 48 (48 + k) (omega arith)) (le-true (48 + k) 55 (omega arith))

register_is_read : (side : Side) (shown_by : Bits) (size : Size) (direct : Suffix) (indirect : Option Suffix) (ind shown : Bool) (k n : ℕ) (labels : Option (List Label)) (next : ℕ)
    → k < 8 → is_some indirect || not ind ≡ true → (shown ≡ true → (is_something (suffix_of direct indirect ind) ≡ true) × (n < 256 ^ byte_count size))
    → slot_operand (Register side shown_by size direct indirect) labels next (((cond ind (codes "@R") (codes "R")) ++ (48 + k) ∷ []) ++ cond shown (suffix_text (suffix_of direct indirect ind) size n) [])
    ≡ Ok (cond shown (union_of (register_contribution side ind k) (part_contribution side shown_by n)) (register_contribution side ind k))
register_is_read side shown_by size direct indirect true shown k n labels next low allowed h =
    let tail : List ℕ = cond shown (suffix_text (suffix_of direct indirect true) size n) [] in
    let reading : Result Instr AsmKind = register_operand side shown_by size (suffix_of direct indirect true) true ((48 + k) - 48) labels next tail in
    ap (λ b. cond (b && (is_some indirect || false)) reading (Err kind.Operand)) (digit_is_register k tail low)
    ∙ ap (λ b. cond b reading (Err kind.Operand)) allowed
    ∙ tail_is_read side shown_by size (suffix_of direct indirect true) true shown k ((48 + k) - 48) n labels next (omega arith) h
register_is_read side shown_by size direct indirect false shown k n labels next low allowed h =
    let tail : List ℕ = cond shown (suffix_text (suffix_of direct indirect false) size n) [] in
    let reading : Result Instr AsmKind = register_operand side shown_by size (suffix_of direct indirect false) false ((48 + k) - 48) labels next tail in
    ap (λ b. cond (b && (is_some indirect || true)) reading (Err kind.Operand)) (digit_is_register k tail low)
    ∙ ap (λ b. cond b reading (Err kind.Operand)) allowed
    ∙ tail_is_read side shown_by size (suffix_of direct indirect false) false shown k ((48 + k) - 48) n labels next (omega arith) h

-- ---- operands

register_small : (side : Side) (instr : Instr) → register side instr < 8
register_small One instr = omega arith
register_small Two instr = omega arith

-- a part that is shown fits its size
part_fits : (side : Side) (instr : Instr) (f s n : ℕ) → instr.first < 256 ^ f → instr.second < 256 ^ s → of_side side f s ≡ n → part side instr < 256 ^ n
part_fits One instr f s n first second e = rw (← e) first
part_fits Two instr f s n first second e = rw (← e) second

second_fits : (second s n : ℕ) → second < 256 ^ s → nat_eq s n ≡ true → second < 256 ^ n
second_fits second s n fits e = let same : s ≡ n = eq-from s n e in rw (← same) fits

shown_fits : (b shown : Bool) (side : Side) (instr : Instr) (f s n : ℕ) → instr.first < 256 ^ f → instr.second < 256 ^ s → cond shown (b && nat_eq (of_side side f s) n) true ≡ true
    → shown ≡ true → (b ≡ true) × (part side instr < 256 ^ n)
shown_fits b false side instr f s n first second e h = absurd cc
shown_fits b true side instr f s n first second e h =
    let parts = and_parts b (nat_eq (of_side side f s) n) e in
    (parts.0, part_fits side instr f s n first second (eq-from (of_side side f s) n parts.1))

flags_are_read : (b : Bool) (labels : Option (List Label)) (next : ℕ) → slot_operand FlagsOrIp labels next (cond b (codes "IP") (codes "FLAGS")) ≡ Ok (cond b (contribution (bits 0 0x10) 0 0) no_contribution)
flags_are_read true labels next = refl
flags_are_read false labels next = refl

-- an operand by a register, from what the test says about it
register_slot_is_read : (side : Side) (shown_by : Bits) (size : Size) (direct : Suffix) (indirect : Option Suffix) (instr : Instr) (f s : ℕ) (labels : Option (List Label)) (next : ℕ)
    → (is_some indirect || not (is_indirect side instr))
    && cond (shows shown_by instr) (is_something (suffix_of direct indirect (is_indirect side instr)) && nat_eq (of_side side f s) (byte_count size)) true ≡ true
    → instr.first < 256 ^ f → instr.second < 256 ^ s
    → slot_operand (Register side shown_by size direct indirect) labels next (slot_text (Register side shown_by size direct indirect) instr) ≡ Ok (slot_adds (Register side shown_by size direct indirect) instr)
register_slot_is_read side shown_by size direct indirect instr f s labels next is first second =
    let ind : Bool = is_indirect side instr in
    let shown : Bool = shows shown_by instr in
    let k : ℕ = register side instr in
    let n : ℕ = part side instr in
    let some : Bool = is_something (suffix_of direct indirect ind) in
    let parts = and_parts (is_some indirect || not ind) (cond shown (some && nat_eq (of_side side f s) (byte_count size)) true) is in
    let low : k < 8 = register_small side instr in
    ap (λ (d : List ℕ). slot_operand (Register side shown_by size direct indirect) labels next ((cond ind (codes "@R") (codes "R") ++ d) ++ cond shown (suffix_text (suffix_of direct indirect ind) size n) []))
    (decimal_digit k (omega (arith, low)))
    ∙ register_is_read side shown_by size direct indirect ind shown k n labels next low parts.0 (shown_fits some shown side instr f s (byte_count size) first second parts.1)

-- what an operand says in its place is what it adds
pub slot_is_read : (slot : Slot) (instr : Instr) (f s : ℕ) (labels : Option (List Label)) (next : ℕ) → slot_fits instr.mods instr.operands f s slot ≡ true
    → instr.first < 256 ^ f → instr.second < 256 ^ s → instr.operands < 256 → slot_operand slot labels next (slot_text slot instr) ≡ Ok (slot_adds slot instr)
slot_is_read (Register One shown_by size direct indirect) instr f s labels next is first second small =
    register_slot_is_read One shown_by size direct indirect instr f s labels next is first second
slot_is_read (Register Two shown_by size direct indirect) instr f s labels next is first second small =
    register_slot_is_read Two shown_by size direct indirect instr f s labels next is first second
slot_is_read Flags instr f s labels next is first second small = refl
slot_is_read FlagsOrIp instr f s labels next is first second small = flags_are_read (is_set instr.operands 4) labels next
slot_is_read (Immediate size) instr f s labels next is first second small =
    let fits : instr.second < 256 ^ byte_count size = second_fits instr.second s (byte_count size) second is in
    let reads = signed_is_read size instr.second fits in
    ap (λ (r : Result ℕ AsmKind). r >>= in_second_part) (plain_is_read (signed_number size) (signed_text size instr.second) instr.second reads.1 reads.0)
slot_is_read (ImmediateOrLabel size) instr f s labels next is first second small =
    let fits : instr.second < 256 ^ byte_count size = second_fits instr.second s (byte_count size) second is in
    ap (λ (r : Result ℕ AsmKind). r >>= in_second_part) (number_is_read labels next 1 size instr.second fits)
slot_is_read (RawIndex size) instr f s labels next is first second small =
    let fits : instr.second < 256 ^ byte_count size = second_fits instr.second s (byte_count size) second is in
    ap (λ (r : Result ℕ AsmKind). r >>= in_second_part) (index_is_read size instr.second fits)
slot_is_read Step instr f s labels next is first second small =
    ap (λ (r : Result ℕ AsmKind). r >>= in_second_byte) (number_is_read labels next 2 Byte instr.operands small)
slot_is_read Code instr f s labels next is first second small =
    let text : List ℕ = decimal instr.operands in
    let begins = decimal_begins instr.operands (omega arith) in
    ap (λ (r : Result ℕ AsmKind). r >>= in_second_byte)
    (plain_is_read (numeral 10 255) text instr.operands (record { some = decimal_some instr.operands (omega arith); first = inl begins }) (decimal_is_read 255 instr.operands (omega arith) (omega arith)))
