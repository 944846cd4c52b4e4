-- The name of an instruction is read back, and the bits that its text shows.
use Rattle.std.proofs.Common.{◌≡◌, ℕ, ◌<◌, Bool, true, false, not, ◌&&◌, ◌||◌, nat_eq, List, [], ◌∷◌, Option, Some, None, find, filter, cond, refl, ap, sym, subst, ◌∙◌, ◌⊎◌, inl, inr}
use Rattle.std.specs.Prelude.{bit_and, bytes_eq}
use Rattle.std.specs.List.{list_all}
use Rattle.std.proofs.lemmas.Slice.Eq.{bytes_eq-Decides}
use Rattle.ebc_decode.specs.Columns.{Row}
use Rattle.ebc_decode.specs.Spelling.{row_of}
use Rattle.ebc_decode.specs.declared.instr.Instr.{Instr}
use Rattle.ebc_names.specs.Names.{Name, goes_by, name_by, names}
use Rattle.ebc_asm.proofs.TestLemmas.{and_parts, not_is, eq-from, lt-from, below, at_below}
use Rattle.ebc_asm.proofs.ReadBack.{name_bits, slot_fits, shows_first, shows_second, of_slot, slot_same, finds, counts, written, again, good, bits_good, row_good, names_of, op_good}
use Rattle.ebc_asm.proofs.TableTest.{each_op_good, is_name, are_apart, all_names, names_apart}

-- ---- what is found in a list

-- what is found is the first or a later one
first_or_later : (b : Bool) (x m : Name) (rest : Option Name) → cond b (Some x) rest ≡ Some m → ((b ≡ true) × (x ≡ m)) ⊎ ((b ≡ false) × (rest ≡ Some m))
first_or_later true x m rest e = inl (refl, cc)
first_or_later false x m rest e = inr (refl, e)

-- what holds of all holds of what is found
found_in : (p q : Name → Bool) (xs : List Name) (m : Name) → list_all q xs ≡ true → find p xs ≡ Some m → q m ≡ true
found_in p q [] m a e = absurd cc
found_in p q (x ∷ xs) m a e =
    let parts = and_parts (q x) (list_all q xs) a in
    elim (first_or_later (p x) x m (find p xs) e) [ inl here ↦ subst (λ (n : Name). q n ≡ true) here.1 parts.0 | inr later ↦ found_in p q xs m parts.1 later.1 ]

-- what is found passes
pub found_passes : (p : Name → Bool) (xs : List Name) (m : Name) → find p xs ≡ Some m → p m ≡ true
found_passes p [] m e = absurd cc
found_passes p (x ∷ xs) m e = elim (first_or_later (p x) x m (find p xs) e) [ inl here ↦ subst (λ (n : Name). p n ≡ true) here.1 here.0 | inr later ↦ found_passes p xs m later.1 ]

same_text : (xs : List ℕ) → bytes_eq xs xs ≡ true
same_text xs = (bytes_eq-Decides xs xs).1 refl

text_from : (xs ys : List ℕ) → bytes_eq xs ys ≡ true → xs ≡ ys
text_from xs ys e = (bytes_eq-Decides xs ys).0 e

-- if texts are apart, what is found is found by its text
found_by_text : (p : Name → Bool) (xs : List Name) (m : Name) → are_apart xs ≡ true → find p xs ≡ Some m → find (λ n. bytes_eq n.text m.text) xs ≡ Some m
found_by_text p [] m a e = absurd cc
found_by_text p (x ∷ xs) m a e =
    let parts = and_parts (list_all (λ n. not (bytes_eq x.text n.text)) xs) (are_apart xs) a in
    elim (first_or_later (p x) x m (find p xs) e) [
      | inl here ↦
          subst (λ (n : Name). cond (bytes_eq x.text n.text) (Some x) (find (λ k. bytes_eq k.text n.text) xs) ≡ Some n) here.1
          (ap (λ b. cond b (Some x) (find (λ k. bytes_eq k.text x.text) xs)) (same_text x.text))
      | inr later ↦
          ap (λ b. cond b (Some x) (find (λ k. bytes_eq k.text m.text) xs)) (not_is (bytes_eq x.text m.text) (found_in p (λ n. not (bytes_eq x.text n.text)) xs m parts.0 later.1))
          ∙ found_by_text p xs m parts.1 later.1
    ]

-- ---- names

-- the name of an instruction is found by its text
pub name_read_back : (p : Name → Bool) (n : Name) → find p names ≡ Some n → name_by n.text ≡ Some n
name_read_back p n e = found_by_text p names n names_apart e

pub name_is : (p : Name → Bool) (n : Name) → find p names ≡ Some n → is_name n ≡ true
name_is p n e = found_in p is_name names n all_names e

-- a name of an opcode is found among the names of the opcode
in_filter : (b u v : Bool) (p : Name → Bool) (x : Name) (rest : List Name) (more : Option Name) → p x ≡ (b && u) && v → find p rest ≡ more
    → find p (cond b (x ∷ rest) rest) ≡ cond ((b && u) && v) (Some x) more
in_filter true u v p x rest more first e = ap (λ t. cond t (Some x) (find p rest)) first ∙ ap (λ o. cond (u && v) (Some x) o) e
in_filter false u v p x rest more first e = e

found_of_op : (instr : Instr) (xs : List Name) → find (goes_by instr) (filter (λ n. nat_eq instr.op n.pattern.op) xs) ≡ find (goes_by instr) xs
found_of_op instr [] = refl
found_of_op instr (x ∷ xs) =
    in_filter (nat_eq instr.op x.pattern.op) (nat_eq (bit_and instr.mods x.pattern.mask.mods) x.pattern.bits.mods) (nat_eq (bit_and instr.operands x.pattern.mask.operands) x.pattern.bits.operands)
    (goes_by instr) x (filter (λ n. nat_eq instr.op n.pattern.op) xs) (find (goes_by instr) xs) refl (found_of_op instr xs)

-- an instruction of these bits
abbrev pub of_bits : ℕ → ℕ → ℕ → Instr
of_bits op mods operands = record { op = op; mods = mods; operands = operands; first = 0; second = 0 }

found_named : (op mods operands : ℕ) → find (goes_by (of_bits op mods operands)) (names_of op) ≡ find (goes_by (of_bits op mods operands)) names
found_named op mods operands = found_of_op (of_bits op mods operands) names

-- ---- what the test says

-- What the text of an instruction shows, if its row, its name, and its bits are these, and the bits that are read back are those.
pub record IsShown (op : ℕ) (r : Row) (n : Name) (mods operands mods_2 operands_2 : ℕ) : Type 0 where
  pub one_fits : of_slot (slot_fits mods operands (r.first mods operands) (r.second mods operands)) true n.pattern.one ≡ true
  pub two_fits : of_slot (slot_fits mods operands (r.first mods operands) (r.second mods operands)) true n.pattern.two ≡ true
  pub first : (of_slot (shows_first mods operands) false n.pattern.one || of_slot (shows_first mods operands) false n.pattern.two) || nat_eq (r.first mods operands) 0 ≡ true
  pub second : (of_slot (shows_second mods operands) false n.pattern.one || of_slot (shows_second mods operands) false n.pattern.two) || nat_eq (r.second mods operands) 0 ≡ true
  pub mods_fit : mods_2 < 4
  pub operands_fit : operands_2 < 256
  pub first_same : r.first mods_2 operands_2 ≡ r.first mods operands
  pub second_same : r.second mods_2 operands_2 ≡ r.second mods operands
  pub counted : counts r mods_2 operands_2 ≡ true
  pub row_name : find (goes_by (of_bits op mods_2 operands_2)) names ≡ Some n
  pub one_same : of_slot (slot_same mods operands mods_2 operands_2) true n.pattern.one ≡ true
  pub two_same : of_slot (slot_same mods operands mods_2 operands_2) true n.pattern.two ≡ true

-- a name with a text that a name has is that name
finds_same : (p : Name → Bool) (o : Option Name) (n : Name) (q : Name → Bool) → find p names ≡ Some n → find q names ≡ o → finds o n ≡ true → o ≡ Some n
finds_same p None n q e f is = absurd cc
finds_same p (Some m) n q e f is =
    let one : name_by m.text ≡ Some m = name_read_back q m f in
    let two : name_by n.text ≡ Some n = name_read_back p n e in
    sym one ∙ ap name_by (text_from m.text n.text is) ∙ two

shown_from : (op : ℕ) (r : Row) (n : Name) (mods operands mods_2 operands_2 : ℕ) → find (goes_by (of_bits op mods operands)) names ≡ Some n
    → written r n mods operands ≡ true → again op r (names_of op) n mods operands mods_2 operands_2 ≡ true → IsShown op r n mods operands mods_2 operands_2
shown_from op r n mods operands mods_2 operands_2 e w a =
    let w0 = and_parts _ _ w in
    let w1 = and_parts _ _ w0.1 in
    let w2 = and_parts _ _ w1.1 in
    let a0 = and_parts _ _ a in
    let a1 = and_parts _ _ a0.1 in
    let a2 = and_parts _ _ a1.1 in
    let a3 = and_parts _ _ a2.1 in
    let a4 = and_parts _ _ a3.1 in
    let a5 = and_parts _ _ a4.1 in
    let a6 = and_parts _ _ a5.1 in
    let found = find (goes_by (of_bits op mods_2 operands_2)) (names_of op) in
    record {
      one_fits = w0.0;
      two_fits = w1.0;
      first = w2.0;
      second = w2.1;
      mods_fit = lt-from mods_2 4 a0.0;
      operands_fit = lt-from operands_2 256 a1.0;
      first_same = eq-from (r.first mods_2 operands_2) (r.first mods operands) a2.0;
      second_same = eq-from (r.second mods_2 operands_2) (r.second mods operands) a3.0;
      counted = a4.0;
      row_name = sym (found_named op mods_2 operands_2) ∙ finds_same (goes_by (of_bits op mods operands)) found n (goes_by (of_bits op mods_2 operands_2)) e (sym (found_named op mods_2 operands_2)) a5.0;
      one_same = a6.0;
      two_same = a6.1;
    }

good_has : (op : ℕ) (r : Row) (mods operands : ℕ) (o : Option Name) → find (goes_by (of_bits op mods operands)) names ≡ o → good op r (names_of op) mods operands o ≡ true
    → (n : Name) × (o ≡ Some n) × IsShown op r n mods operands (name_bits n mods operands).mods (name_bits n mods operands).operands
good_has op r mods operands None e g = absurd cc
good_has op r mods operands (Some n) e g =
    let parts = and_parts (written r n mods operands) (again op r (names_of op) n mods operands (name_bits n mods operands).mods (name_bits n mods operands).operands) g in
    (n, refl, shown_from op r n mods operands (name_bits n mods operands).mods (name_bits n mods operands).operands e parts.0 parts.1)

row_at : (op : ℕ) (r : Row) → op < 64 → row_of op ≡ Some r → row_good op (Some r) (names_of op) ≡ true
unfolding op_good
row_at op r small e = subst (λ (o : Option Row). row_good op o (names_of op) ≡ true) e (each_op_good op small)

bits_at : (op : ℕ) (r : Row) (mods operands : ℕ) → op < 64 → mods < 4 → operands < 256 → row_of op ≡ Some r → bits_good op r (names_of op) mods operands ≡ true
bits_at op r mods operands small low less e =
    at_below (bits_good op r (names_of op) mods) 256 operands (at_below (λ m. list_all (bits_good op r (names_of op) m) (below 256)) 4 mods (row_at op r small e) low) less

good_at : (op : ℕ) (r : Row) (mods operands : ℕ) → op < 64 → mods < 4 → operands < 256 → row_of op ≡ Some r → counts r mods operands ≡ true
    → good op r (names_of op) mods operands (find (goes_by (of_bits op mods operands)) (names_of op)) ≡ true
good_at op r mods operands small low less e counted =
    subst (λ b. elim b as (λ t. Bool) [ true ↦ good op r (names_of op) mods operands (find (goes_by (of_bits op mods operands)) (names_of op)) | false ↦ true ] ≡ true) counted (bits_at op r mods operands small low less e)

-- an instruction of the table has a name, and its text shows all that counts
pub shown_at : (op : ℕ) (r : Row) (mods operands : ℕ) → op < 64 → mods < 4 → operands < 256 → row_of op ≡ Some r → counts r mods operands ≡ true
    → (n : Name) × (find (goes_by (of_bits op mods operands)) names ≡ Some n) × IsShown op r n mods operands (name_bits n mods operands).mods (name_bits n mods operands).operands
shown_at op r mods operands small low less e counted =
    let found : Option Name = find (goes_by (of_bits op mods operands)) names in
    good_has op r mods operands found refl (subst (λ (o : Option Name). good op r (names_of op) mods operands o ≡ true) (found_named op mods operands) (good_at op r mods operands small low less e counted))
