-- A listing is read back, line by line.
use Rattle.std.proofs.Common.{◌≡◌, ℕ, zero, suc, ◌+◌, ◌-◌, ◌<◌, ◌≤◌, Bool, true, false, not, ◌||◌, nat_eq, List, [], ◌∷◌, ◌++◌, length, take, drop, map, cond, refl, ap, sym, subst, ◌∙◌, arith, Result, Ok, Err, append_assoc, Option, Some, None, length-append, length-drop}
use Rattle.std.specs.Prelude.{IsSomeAnd, IsOkAnd, IsTrue}
use Rattle.std.specs.List.{All, flat_map, list_all, list_any, slice_split}
use Rattle.std.specs.Str.Lines.{lines, lines_of_parts, strip_carriage_return}
use Rattle.std.proofs.Math.Seq.{drop-append_seam}
use Rattle.std.proofs.lemmas.List.{get_or-drop}
use Rattle.std.proofs.lemmas.List.Splits.{slice_split_at, length-slice_split}
use Rattle.byteorder.specs.Endian.{little_bytes}
use Rattle.byteorder.specs.Numbers.{length-bytes_low_first}
use Rattle.ebc_decode.specs.Columns.{Row}
use Rattle.ebc_decode.specs.Spelling.{FitsForm, decoding, form_in_table, spelling}
use Rattle.ebc_decode.specs.declared.form.Form.{Form}
use Rattle.ebc_decode.specs.declared.instr.Instr.{Instr}
use Rattle.ebc_decode.specs.declared.instr.DecodeRefusal.{DecodeRefusal}
use Rattle.ebc_asm.specs.declared.fault.AsmKind.{AsmKind}
use Rattle.ebc_asm.specs.declared.fault.AsmKind.TheVariants as kind
use Rattle.ebc_names.specs.Names.{Name}
use Rattle.ebc_listing.specs.Listing.{Line, illegal_text, instr_text, is_illegal, is_whole, line_of, line_text, lines_from, listing_lines, listing, texts}
use Rattle.ebc_asm.specs.Assembly.{Label, assembly_of, before, bytes_from, is_repeated, labels_from, placed_bytes_of_line, bytes_of_line, line_size, ◌>>=◌}
use Rattle.ebc_asm.proofs.TestLemmas.{and_true, and_parts, not_is, eq-false}
use Rattle.ebc_asm.proofs.ReadBack.{read_back}
use Rattle.ebc_asm.proofs.SafeText.{is_inner, no_feed, no_return_at}
use Rattle.ebc_asm.proofs.InstructionsReadBack.{HasName, IsText, bytes_back, fits_back, form_back, has_name, listed_back, size_back, text_back, text_says}

-- ---- the lines of texts

none_passes : (p : ℕ → Bool) (xs : List ℕ) → list_all (λ x. not (p x)) xs ≡ true → All (λ x. p x ≡ false) xs
none_passes p [] a k d h = absurd (omega arith)
none_passes p (x ∷ xs) a zero d h = not_is (p x) (and_parts (not (p x)) (list_all (λ y. not (p y)) xs) a).0
none_passes p (x ∷ xs) a (suc k) d h = none_passes p xs (and_parts (not (p x)) (list_all (λ y. not (p y)) xs) a).1 k d (omega arith)

line_first : (text : List ℕ) (parts : List (List ℕ)) → 0 < length parts → lines_of_parts (text ∷ parts) ≡ strip_carriage_return text ∷ lines_of_parts parts
line_first text [] some = absurd (omega arith)
line_first text (part ∷ parts) some = refl

strips_nothing : (text : List ℕ) → list_all is_inner text ≡ true → strip_carriage_return text ≡ text
strips_nothing text a = ap (λ b. cond b (take (length text - 1) text) text) (no_return_at text (length text - 1) a)

-- a text and a line feed are a line
lines_more : (text rest : List ℕ) → list_all is_inner text ≡ true → lines ((text ++ 10 ∷ []) ++ rest) ≡ text ∷ lines rest
lines_more text rest a =
    let is_feed : ℕ → Bool = λ b. nat_eq b 10 in
    ap lines (append_assoc text (10 ∷ []) rest)
    ∙ ap lines_of_parts (slice_split_at is_feed text 10 rest (none_passes is_feed text (no_feed text a)) refl)
    ∙ line_first text (slice_split is_feed rest) (omega (arith, length-slice_split is_feed rest))
    ∙ ap (λ l. l ∷ lines rest) (strips_nothing text a)

lines_are : (ls : List Line) → list_all (λ line. list_all is_inner line.text) ls ≡ true → lines (texts ls) ≡ map (λ line. line.text) ls
lines_are [] a = refl
lines_are (line ∷ ls) a =
    let parts = and_parts (list_all is_inner line.text) (list_all (λ l. list_all is_inner l.text) ls) a in
    lines_more line.text (texts ls) parts.0 ∙ ap (λ l. line.text ∷ l) (lines_are ls parts.1)

-- ---- the bytes of lines

text_bytes : (text bytes : List ℕ) (labels : List Label) (number place : ℕ) → IsText text bytes → placed_bytes_of_line labels number place text ≡ Ok bytes
text_bytes text bytes labels number place is =
    ap (λ (o : Option (List ℕ)). cond (is_repeated labels number o) (Err kind.Label) (bytes_of_line None 0 text >>= λ b. bytes_of_line (Some labels) (place + length b) text)) is.label
    ∙ ap (λ (r : Result (List ℕ) AsmKind). r >>= λ b. bytes_of_line (Some labels) (place + length b) text) (is.says None 0)
    ∙ is.says (Some labels) (place + length bytes)

-- ---- a listing

-- The laws of the instruction table that this rests on: what is decoded is of its form, and a spelling is decoded.
abbrev pub IsOfItsForm : Type 0
IsOfItsForm =
    (bytes : List ℕ) (instr : Instr) (n : ℕ) → All (λ b. b < 256) bytes → decoding bytes ≡ Ok (instr, n)
    → IsSomeAnd (form_in_table instr.op instr.mods instr.operands) (λ form. FitsForm instr form × (n ≡ 2 + form.first + form.second) × (n ≤ length bytes))

abbrev pub IsDecoded : Type 0
IsDecoded =
    (instr : Instr) (form : Form) (rest : List ℕ) → form_in_table instr.op instr.mods instr.operands ≡ Some form → FitsForm instr form
    → decoding (spelling form instr instr.mods instr.operands ++ rest) ≡ Ok (instr, 2 + form.first + form.second)

-- Lines at an address are read back: they assemble, and what they make has these lines.
record AreReadBack (ls : List Line) (at : ℕ) : Type 0 where
  pub made : List ℕ
  pub inner : list_all (λ line. list_all is_inner line.text) ls ≡ true
  pub says : (labels : List Label) (number place : ℕ) → bytes_from labels number place (map (λ line. line.text) ls) ≡ Ok made
  pub again : (most : ℕ) → length made ≤ most → lines_from most made at ≡ ls

nothing_listed : (most at : ℕ) → lines_from most [] at ≡ []
unfolding lines_from
nothing_listed zero at = refl
nothing_listed (suc most) at = refl

nothing_read_back : (at : ℕ) → AreReadBack [] at
unfolding bytes_from
nothing_read_back at = record { made = []; inner = refl; says = λ labels number place. refl; again = λ most h. nothing_listed most at }

some_parts : {X : Type 0} (o : Option X) (P : X → Type 0) → IsSomeAnd o P → (x : X) × (o ≡ Some x) × P x
some_parts None P h = absurd h
some_parts (Some x) P h = (x, refl, h)

length-spelling : (form : Form) (instr : Instr) (mods operands : ℕ) → length (spelling form instr mods operands) ≡ 2 + form.first + form.second
length-spelling form instr mods operands =
    let f = length-bytes_low_first 0 form.first instr.first in
    let s = length-bytes_low_first 0 form.second instr.second in
    omega (arith, length-append (little_bytes form.first instr.first) (little_bytes form.second instr.second))

-- the first line of bytes that begin with an instruction
first_listed : (most : ℕ) (bytes : List ℕ) (at : ℕ) (instr : Instr) (n : ℕ) → 0 < length bytes → decoding bytes ≡ Ok (instr, n)
    → lines_from (suc most) bytes at ≡ record { address = at; text = instr_text instr } ∷ lines_from most (drop n bytes) (at + n)
unfolding lines_from
first_listed most bytes at instr n some e =
    ap (λ b. cond b [] (line_of at (decoding bytes) (λ size. lines_from most (drop size bytes) (at + size)))) (eq-false (length bytes) 0 (λ z. omega arith))
    ∙ ap (λ (d : Result (Instr × ℕ) DecodeRefusal). line_of at d (λ size. lines_from most (drop size bytes) (at + size))) e

none_listed : (most : ℕ) (bytes : List ℕ) (at : ℕ) (refusal : DecodeRefusal) → 0 < length bytes → decoding bytes ≡ Err refusal
    → lines_from (suc most) bytes at ≡ record { address = at; text = illegal_text } ∷ []
unfolding lines_from
none_listed most bytes at refusal some e =
    ap (λ b. cond b [] (line_of at (decoding bytes) (λ size. lines_from most (drop size bytes) (at + size)))) (eq-false (length bytes) 0 (λ z. omega arith))
    ∙ ap (λ (d : Result (Instr × ℕ) DecodeRefusal). line_of at d (λ size. lines_from most (drop size bytes) (at + size))) e

-- a line of an instruction before lines that are read back
more_read_back : IsDecoded → (instr : Instr) (form : Form) (at n : ℕ) (ls : List Line) → form_in_table instr.op instr.mods instr.operands ≡ Some form → FitsForm instr form → n ≡ 2 + form.first + form.second
    → AreReadBack ls (at + n) → AreReadBack (record { address = at; text = instr_text instr } ∷ ls) at
unfolding bytes_from bytes_back
more_read_back decodes instr form at n ls listed fits size later =
    let found = has_name instr form listed fits in
    let r : Row = found.0 in
    let name : Name = found.1 in
    let h : HasName instr form r name = found.2 in
    let j : Instr = read_back name instr in
    let bytes : List ℕ = bytes_back r name instr in
    let is : IsText (instr_text instr) bytes = text_says instr form r name h in
    let form_2 : Form = form_back r name instr in
    let same = size_back instr form r name h in
    let size_2 : 2 + form_2.first + form_2.second ≡ n = omega (arith, same.0, same.1) in
    let all : List ℕ = bytes ++ later.made in
    let len : length bytes ≡ n = length-spelling form_2 j j.mods j.operands ∙ size_2 in
    let whole : length all ≡ n + length later.made = omega (arith, length-append bytes later.made) in
    let read : decoding all ≡ Ok (j, n) = decodes j form_2 later.made (listed_back instr form r name h) (fits_back instr form r name h) ∙ ap (λ k. Ok (j, k)) size_2 in
    let after : drop n all ≡ later.made = ap (λ k. drop k all) (sym len) ∙ drop-append_seam bytes later.made in
    let again : (most : ℕ) → length all ≤ most → lines_from most all at ≡ record { address = at; text = instr_text instr } ∷ ls = λ most enough.
    ap (λ k. lines_from k all at) {x = most} {y = suc (most - 1)} (omega arith)
    ∙ first_listed (most - 1) all at j n (omega arith) read
    ∙ (λ i. record { address = at; text = text_back instr form r name h i } ∷ lines_from (most - 1) (after i) (at + n))
    ∙ ap (λ (l : List Line). record { address = at; text = instr_text instr } ∷ l) (later.again (most - 1) (omega arith)) in
    record {
      made = all;
      inner = and_true (list_all is_inner (instr_text instr)) (list_all (λ line. list_all is_inner line.text) ls) is.inner later.inner;
      says = λ labels number place.
          ap (λ (q : Result (List ℕ) AsmKind). before number q (bytes_from labels (number + 1) (place + line_size (instr_text instr)) (map (λ line. line.text) ls))) (text_bytes (instr_text instr) bytes labels number place is)
          ∙ ap (before number (Ok bytes)) (later.says labels (number + 1) (place + line_size (instr_text instr)));
      again = again;
    }

neither : (a b : Bool) → not (a || b) ≡ true → not b ≡ true
neither true b e = absurd cc
neither false b e = e

drop_small : (n : ℕ) (bytes : List ℕ) → All (λ b. b < 256) bytes → All (λ b. b < 256) (drop n bytes)
drop_small n bytes small k d h = rw get_or-drop (small (n + k) d (omega (arith, length-drop n bytes)))

-- what is found at the front of bytes, and the lines after it
found_read_back : IsOfItsForm → IsDecoded → (most : ℕ) (bytes : List ℕ) (at : ℕ) (d : Result (Instr × ℕ) DecodeRefusal) → decoding bytes ≡ d → 0 < length bytes → length bytes ≤ suc most → All (λ b. b < 256) bytes
    → is_whole (lines_from (suc most) bytes at) ≡ true
    → ((rest : List ℕ) (place : ℕ) → length rest ≤ most → All (λ b. b < 256) rest → is_whole (lines_from most rest place) ≡ true → AreReadBack (lines_from most rest place) place)
    → AreReadBack (lines_from (suc most) bytes at) at
found_read_back of_form decodes most bytes at (Err refusal) e some enough small whole later =
    let first = none_listed most bytes at refusal some e in
    let no : false ≡ true = subst (λ (l : List Line). is_whole l ≡ true) first whole in
    absurd cc
found_read_back of_form decodes most bytes at (Ok found) e some enough small whole later =
    let instr : Instr = found.0 in
    let n : ℕ = found.1 in
    let first = first_listed most bytes at instr n some e in
    let parts = some_parts (form_in_table instr.op instr.mods instr.operands) (λ form. FitsForm instr form × (n ≡ 2 + form.first + form.second) × (n ≤ length bytes)) (of_form bytes instr n small e) in
    let form : Form = parts.0 in
    let size : n ≡ 2 + form.first + form.second = parts.2.1 in
    let rest : List ℕ = drop n bytes in
    let line : Line = record { address = at; text = instr_text instr } in
    let listed_whole : is_whole (line ∷ lines_from most rest (at + n)) ≡ true = subst (λ (l : List Line). is_whole l ≡ true) first whole in
    let rest_whole : is_whole (lines_from most rest (at + n)) ≡ true = neither (is_illegal line) (list_any is_illegal (lines_from most rest (at + n))) listed_whole in
    let after : AreReadBack (lines_from most rest (at + n)) (at + n) = later rest (at + n) (omega (arith, length-drop n bytes)) (drop_small n bytes small) rest_whole in
    subst (λ (l : List Line). AreReadBack l at) (sym first) (more_read_back decodes instr form at n (lines_from most rest (at + n)) parts.1 parts.2.0 size after)

lines_read_back : IsOfItsForm → IsDecoded → (most : ℕ) (bytes : List ℕ) (at : ℕ) → length bytes ≤ most → All (λ b. b < 256) bytes → is_whole (lines_from most bytes at) ≡ true
    → AreReadBack (lines_from most bytes at) at
lines_read_back of_form decodes most [] at enough small whole = subst (λ (l : List Line). AreReadBack l at) (sym (nothing_listed most at)) (nothing_read_back at)
lines_read_back of_form decodes zero (b ∷ bytes) at enough small whole = absurd (omega arith)
lines_read_back of_form decodes (suc most) (b ∷ bytes) at enough small whole =
    found_read_back of_form decodes most (b ∷ bytes) at (decoding (b ∷ bytes)) refl (omega arith) enough small whole
    (λ rest place less low all. lines_read_back of_form decodes most rest place less low all)

ok_and : {X E : Type 0} (r : Result X E) (x : X) (P : X → Type 0) → r ≡ Ok x → P x → IsOkAnd r P
ok_and r x P e p = subst (λ q. IsOkAnd q P) (sym e) p

-- the texts of a listing without `.illegal` assemble, and the listing of what they make is that listing
pub listing_read_back : IsOfItsForm → IsDecoded → (bytes : List ℕ) (at : ℕ) → All (λ b. b < 256) bytes → IsTrue (is_whole (listing_lines bytes at))
    → IsOkAnd (assembly_of (texts (listing_lines bytes at))) (λ made. listing made at ≡ listing bytes at)
listing_read_back of_form decodes bytes at small whole =
    let ls : List Line = listing_lines bytes at in
    let back : AreReadBack ls at = lines_read_back of_form decodes (length bytes) bytes at (omega arith) small whole in
    let is : lines (texts ls) ≡ map (λ line. line.text) ls = lines_are ls back.inner in
    let reading : assembly_of (texts ls) ≡ Ok back.made = ap (λ (l : List (List ℕ)). bytes_from (labels_from 1 0 l) 1 0 l) is ∙ back.says (labels_from 1 0 (map (λ line. line.text) ls)) 1 0 in
    ok_and (assembly_of (texts ls)) back.made (λ made. listing made at ≡ listing bytes at) reading (ap (flat_map line_text) (back.again (length back.made) (omega arith)))
