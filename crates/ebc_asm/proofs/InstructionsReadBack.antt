-- An instruction that is printed is read back.
use Rattle.std.proofs.Common.{◌≡◌, ℕ, suc, ◌+◌, ◌-◌, ◌^◌, ◌<◌, Bool, true, false, not, ◌&&◌, ◌||◌, nat_eq, nat_lt, List, [], ◌∷◌, ◌++◌, length, take, drop, cond, refl, ap, sym, subst, ◌∙◌, arith, Result, Ok, Err, append_assoc, Option, Some, None}
use Rattle.std.specs.Prelude.{bit_and, bit_or, bytes_eq, codes, is_some}
use Rattle.std.specs.List.{list_all, before_first, after_first, prefix_len, position_or_len}
use Rattle.std.specs.Fmt.{decimal}
use Rattle.std.specs.Int.Bits.{or_zero_l, or_zero_r, or_self}
use Rattle.std.proofs.lemmas.List.{append-nil}
use Rattle.ebc_decode.specs.Columns.{Row, is_set}
use Rattle.ebc_decode.specs.Spelling.{FitsForm, form_in_row, form_if, form_in_table, row_of, spelling}
use Rattle.ebc_decode.specs.declared.form.Form.{Form}
use Rattle.ebc_decode.specs.declared.instr.Instr.{Instr}
use Rattle.ebc_asm.specs.declared.fault.AsmKind.{AsmKind}
use Rattle.ebc_asm.specs.declared.fault.AsmKind.TheVariants as kind
use Rattle.ebc_names.specs.declared.slots.Side.{Side}
use Rattle.ebc_names.specs.declared.slots.Side.TheVariants.{One, Two}
use Rattle.ebc_names.specs.declared.slots.Suffix.{Suffix}
use Rattle.ebc_decode.specs.declared.size.Size.{Size}
use Rattle.ebc_decode.specs.declared.size.Size.TheVariants.{Byte}
use Rattle.ebc_names.specs.declared.slots.Slot.{Slot}
use Rattle.ebc_names.specs.declared.slots.Slot.TheVariants.{Register, Flags, FlagsOrIp, Immediate, ImmediateOrLabel, RawIndex, Step, Code}
use Rattle.ebc_names.specs.Names.{Name, goes_by, name_by, name_of, names, suffix_of}
use Rattle.ebc_listing.specs.Listing.{register, is_indirect, shows, suffix_text, register_text, slot_text, signed_text, operand_text, name_text, instr_text}
use Rattle.ebc_asm.specs.Assembly.{Label, is_comma, is_semicolon, is_label_name, label_of, code_of, bytes_of_code, bytes_of_line, bytes_of_numbers, number_words, bytes_of_instr, operands_of, slot_operand, union_of, bare_instr, encoding, spelling_if, is_of_form, ◌>>=◌}
use Rattle.text_lines.specs.Words.{is_blank, after_blanks, first_word, after_word, only_word}
use Rattle.ebc_asm.proofs.TestLemmas.{and_true, and_parts, not_is, lt-true, eq-false, eq-true, eq-from, lt-from}
use Rattle.ebc_asm.proofs.ReadBack.{bare, slot_adds, both_add, name_bits, read_back, of_slot, slot_fits, shows_first, shows_second, slot_same, same_bool, counts}
use Rattle.ebc_asm.proofs.SafeText.{is_safe, is_inner, all_append, all_take, all_drop, before_at, after_at, before_none, after_none, no_blank, no_comma, inner_safe, no_semicolon, no_colon_at, only_word_is, only_word_after_space, slot_safe}
use Rattle.ebc_asm.proofs.TableTest.{is_name}
use Rattle.ebc_asm.proofs.OperandsReadBack.{slot_is_read}
use Rattle.ebc_asm.proofs.NamesReadBack.{IsShown, shown_at, found_passes, name_read_back, name_is}

-- ---- the row of an instruction

where_parts : (legal : Bool) (first second kept_mods kept_operands : ℕ) (form : Form) → form_if legal first second kept_mods kept_operands ≡ Some form
    → (legal ≡ true) × (record { first = first; second = second; kept_mods = kept_mods; kept_operands = kept_operands } ≡ form)
where_parts true first second kept_mods kept_operands form e = (refl, cc)
where_parts false first second kept_mods kept_operands form e = absurd cc

-- the form that a row gives to bits
abbrev pub columns : Row → ℕ → ℕ → Form
columns r mods operands = record { first = r.first mods operands; second = r.second mods operands; kept_mods = r.kept_mods; kept_operands = r.kept_operands mods }

row_parts : (o : Option Row) (mods operands : ℕ) (form : Form) → form_in_row o mods operands ≡ Some form
    → (r : Row) × (o ≡ Some r) × (r.legal mods operands ≡ true) × (columns r mods operands ≡ form)
row_parts None mods operands form e = absurd cc
row_parts (Some r) mods operands form e =
    let parts = where_parts (r.legal mods operands) (r.first mods operands) (r.second mods operands) r.kept_mods (r.kept_operands mods) form e in
    (r, refl, parts.0, parts.1)

-- ---- what both operands add

cond_field : {X : Type 0} (g : Instr → X) (b : Bool) (x y : Instr) (v : X) → g x ≡ v → g y ≡ v → g (cond b x y) ≡ v
cond_field g true x y v p q = p
cond_field g false x y v p q = q

cond_same : {X : Type 0} (g : Instr → X) (b : Bool) (x z y : Instr) → g x ≡ g z → g (cond b x y) ≡ g (cond b z y)
cond_same g true x z y p = p
cond_same g false x z y p = refl

cond_shown : (g : Instr → ℕ) (b : Bool) (x y : Instr) (v : ℕ) → g x ≡ v → g y ≡ 0 → g (cond b x y) ≡ cond b v 0
cond_shown g true x y v p q = p
cond_shown g false x y v p q = q

slot_op : (slot : Slot) (instr : Instr) → (slot_adds slot instr).op ≡ 0
slot_op (Register One shown_by size direct indirect) instr = cond_field (λ i. i.op) (shows shown_by instr) _ _ 0 refl refl
slot_op (Register Two shown_by size direct indirect) instr = cond_field (λ i. i.op) (shows shown_by instr) _ _ 0 refl refl
slot_op Flags instr = refl
slot_op FlagsOrIp instr = cond_field (λ i. i.op) (is_set instr.operands 4) _ _ 0 refl refl
slot_op (Immediate size) instr = refl
slot_op (ImmediateOrLabel size) instr = refl
slot_op (RawIndex size) instr = refl
slot_op Step instr = refl
slot_op Code instr = refl

both_op : (one two : Option Slot) (instr : Instr) → (both_add one two instr).op ≡ 0
both_op None two instr = refl
both_op (Some one) None instr = slot_op one instr
both_op (Some one) (Some two) instr = rw (slot_op one instr, slot_op two instr) refl

slot_mods : (slot : Slot) (instr : Instr) → (slot_adds slot instr).mods ≡ (slot_adds slot (bare instr.mods instr.operands)).mods
slot_mods (Register One shown_by size direct indirect) instr = cond_same (λ i. i.mods) (shows shown_by instr) _ _ _ refl
slot_mods (Register Two shown_by size direct indirect) instr = cond_same (λ i. i.mods) (shows shown_by instr) _ _ _ refl
slot_mods Flags instr = refl
slot_mods FlagsOrIp instr = refl
slot_mods (Immediate size) instr = refl
slot_mods (ImmediateOrLabel size) instr = refl
slot_mods (RawIndex size) instr = refl
slot_mods Step instr = refl
slot_mods Code instr = refl

both_mods : (one two : Option Slot) (instr : Instr) → (both_add one two instr).mods ≡ (both_add one two (bare instr.mods instr.operands)).mods
both_mods None two instr = refl
both_mods (Some one) None instr = slot_mods one instr
both_mods (Some one) (Some two) instr = λ i. bit_or (slot_mods one instr i) (slot_mods two instr i)

slot_operands : (slot : Slot) (instr : Instr) → (slot_adds slot instr).operands ≡ (slot_adds slot (bare instr.mods instr.operands)).operands
slot_operands (Register One shown_by size direct indirect) instr = cond_same (λ i. i.operands) (shows shown_by instr) _ _ _ refl
slot_operands (Register Two shown_by size direct indirect) instr = cond_same (λ i. i.operands) (shows shown_by instr) _ _ _ refl
slot_operands Flags instr = refl
slot_operands FlagsOrIp instr = refl
slot_operands (Immediate size) instr = refl
slot_operands (ImmediateOrLabel size) instr = refl
slot_operands (RawIndex size) instr = refl
slot_operands Step instr = refl
slot_operands Code instr = refl

both_operands : (one two : Option Slot) (instr : Instr) → (both_add one two instr).operands ≡ (both_add one two (bare instr.mods instr.operands)).operands
both_operands None two instr = refl
both_operands (Some one) None instr = slot_operands one instr
both_operands (Some one) (Some two) instr = λ i. bit_or (slot_operands one instr i) (slot_operands two instr i)

slot_first : (slot : Slot) (instr : Instr) → (slot_adds slot instr).first ≡ cond (shows_first instr.mods instr.operands slot) instr.first 0
slot_first (Register One shown_by size direct indirect) instr = cond_shown (λ i. i.first) (shows shown_by instr) _ _ instr.first (or_zero_l instr.first) refl
slot_first (Register Two shown_by size direct indirect) instr = cond_field (λ i. i.first) (shows shown_by instr) _ _ 0 refl refl
slot_first Flags instr = refl
slot_first FlagsOrIp instr = cond_field (λ i. i.first) (is_set instr.operands 4) _ _ 0 refl refl
slot_first (Immediate size) instr = refl
slot_first (ImmediateOrLabel size) instr = refl
slot_first (RawIndex size) instr = refl
slot_first Step instr = refl
slot_first Code instr = refl

slot_second : (slot : Slot) (instr : Instr) → (slot_adds slot instr).second ≡ cond (shows_second instr.mods instr.operands slot) instr.second 0
slot_second (Register One shown_by size direct indirect) instr = cond_field (λ i. i.second) (shows shown_by instr) _ _ 0 refl refl
slot_second (Register Two shown_by size direct indirect) instr = cond_shown (λ i. i.second) (shows shown_by instr) _ _ instr.second (or_zero_l instr.second) refl
slot_second Flags instr = refl
slot_second FlagsOrIp instr = cond_field (λ i. i.second) (is_set instr.operands 4) _ _ 0 refl refl
slot_second (Immediate size) instr = refl
slot_second (ImmediateOrLabel size) instr = refl
slot_second (RawIndex size) instr = refl
slot_second Step instr = refl
slot_second Code instr = refl

or_shown : (p q : Bool) (n : ℕ) → bit_or (cond p n 0) (cond q n 0) ≡ cond (p || q) n 0
or_shown true true n = or_self n
or_shown true false n = or_zero_r n
or_shown false true n = or_zero_l n
or_shown false false n = refl

or_false : (p : Bool) → p ≡ p || false
or_false true = refl
or_false false = refl

-- what one operand or both show, if there is no operand 2 without an operand 1
both_first : (one two : Option Slot) (instr : Instr) → is_some one || not (is_some two) ≡ true
    → (both_add one two instr).first ≡ cond (of_slot (shows_first instr.mods instr.operands) false one || of_slot (shows_first instr.mods instr.operands) false two) instr.first 0
both_first None None instr e = refl
both_first None (Some two) instr e = absurd cc
both_first (Some one) None instr e = slot_first one instr ∙ ap (λ b. cond b instr.first 0) (or_false (shows_first instr.mods instr.operands one))
both_first (Some one) (Some two) instr e =
    (λ i. bit_or (slot_first one instr i) (slot_first two instr i)) ∙ or_shown (shows_first instr.mods instr.operands one) (shows_first instr.mods instr.operands two) instr.first

both_second : (one two : Option Slot) (instr : Instr) → is_some one || not (is_some two) ≡ true
    → (both_add one two instr).second ≡ cond (of_slot (shows_second instr.mods instr.operands) false one || of_slot (shows_second instr.mods instr.operands) false two) instr.second 0
both_second None None instr e = refl
both_second None (Some two) instr e = absurd cc
both_second (Some one) None instr e = slot_second one instr ∙ ap (λ b. cond b instr.second 0) (or_false (shows_second instr.mods instr.operands one))
both_second (Some one) (Some two) instr e =
    (λ i. bit_or (slot_second one instr i) (slot_second two instr i)) ∙ or_shown (shows_second instr.mods instr.operands one) (shows_second instr.mods instr.operands two) instr.second

-- a part that is not shown is 0
shown_or_none : (p : Bool) (size n : ℕ) → p || nat_eq size 0 ≡ true → n < 256 ^ size → cond p n 0 ≡ n
shown_or_none true size n e fits = refl
shown_or_none false size n e fits = let none : size ≡ 0 = eq-from size 0 e in let small : n < 256 ^ 0 = subst (λ (k : ℕ). n < 256 ^ k) none fits in omega arith

-- what the name and the operands say together
joined_is : (n : Name) (instr : Instr) (f s : ℕ) → is_some n.pattern.one || not (is_some n.pattern.two) ≡ true → n.pattern.op ≡ instr.op → instr.first < 256 ^ f → instr.second < 256 ^ s
    → (of_slot (shows_first instr.mods instr.operands) false n.pattern.one || of_slot (shows_first instr.mods instr.operands) false n.pattern.two) || nat_eq f 0 ≡ true
    → (of_slot (shows_second instr.mods instr.operands) false n.pattern.one || of_slot (shows_second instr.mods instr.operands) false n.pattern.two) || nat_eq s 0 ≡ true
    → union_of (bare_instr n.pattern) (both_add n.pattern.one n.pattern.two instr) ≡ read_back n instr
joined_is n instr f s some op first second shows_1 shows_2 =
    let both : Instr = both_add n.pattern.one n.pattern.two instr in
    let e_op : bit_or n.pattern.op both.op ≡ instr.op = ap (bit_or n.pattern.op) (both_op n.pattern.one n.pattern.two instr) ∙ or_zero_r n.pattern.op ∙ op in
    let e_mods : bit_or n.pattern.bits.mods both.mods ≡ (name_bits n instr.mods instr.operands).mods = ap (bit_or n.pattern.bits.mods) (both_mods n.pattern.one n.pattern.two instr) in
    let e_operands : bit_or n.pattern.bits.operands both.operands ≡ (name_bits n instr.mods instr.operands).operands = ap (bit_or n.pattern.bits.operands) (both_operands n.pattern.one n.pattern.two instr) in
    let e_first : bit_or 0 both.first ≡ instr.first =
    or_zero_l both.first ∙ both_first n.pattern.one n.pattern.two instr some
    ∙ shown_or_none (of_slot (shows_first instr.mods instr.operands) false n.pattern.one || of_slot (shows_first instr.mods instr.operands) false n.pattern.two) f instr.first shows_1 first in
    let e_second : bit_or 0 both.second ≡ instr.second =
    or_zero_l both.second ∙ both_second n.pattern.one n.pattern.two instr some
    ∙ shown_or_none (of_slot (shows_second instr.mods instr.operands) false n.pattern.one || of_slot (shows_second instr.mods instr.operands) false n.pattern.two) s instr.second shows_2 second in
    λ i. record { op = e_op i; mods = e_mods i; operands = e_operands i; first = e_first i; second = e_second i }

-- ---- the text of what is read back

same_from : (a b : Bool) → same_bool a b ≡ true → b ≡ a
same_from true true e = refl
same_from true false e = absurd cc
same_from false true e = absurd cc
same_from false false e = refl

register_same : (side : Side) (direct : Suffix) (indirect : Option Suffix) (size : Size) (ind ind_2 shown shown_2 : Bool) (k k_2 n n_2 : ℕ)
    → same_bool ind ind_2 && (nat_eq k k_2 && same_bool shown shown_2) ≡ true → n_2 ≡ n
    → register_text ind_2 k_2 ++ cond shown_2 (suffix_text (suffix_of direct indirect ind_2) size n_2) [] ≡ register_text ind k ++ cond shown (suffix_text (suffix_of direct indirect ind) size n) []
register_same side direct indirect size ind ind_2 shown shown_2 k k_2 n n_2 e same =
    let one = and_parts (same_bool ind ind_2) (nat_eq k k_2 && same_bool shown shown_2) e in
    let two = and_parts (nat_eq k k_2) (same_bool shown shown_2) one.1 in
    let a = same_from ind ind_2 one.0 in
    let b = sym (eq-from k k_2 two.0) in
    let d = same_from shown shown_2 two.1 in
    λ i. register_text (a i) (b i) ++ cond (d i) (suffix_text (suffix_of direct indirect (a i)) size (same i)) []

slot_text_same : (slot : Slot) (a b : Instr) → slot_same a.mods a.operands b.mods b.operands slot ≡ true → b.first ≡ a.first → b.second ≡ a.second → slot_text slot b ≡ slot_text slot a
slot_text_same (Register One shown_by size direct indirect) a b e first second =
    register_same One direct indirect size (is_indirect One a) (is_indirect One b) (shows shown_by a) (shows shown_by b) (register One a) (register One b) a.first b.first e first
slot_text_same (Register Two shown_by size direct indirect) a b e first second =
    register_same Two direct indirect size (is_indirect Two a) (is_indirect Two b) (shows shown_by a) (shows shown_by b) (register Two a) (register Two b) a.second b.second e second
slot_text_same Flags a b e first second = refl
slot_text_same FlagsOrIp a b e first second = ap (λ t. cond t (codes "IP") (codes "FLAGS")) (same_from (is_set a.operands 4) (is_set b.operands 4) e)
slot_text_same (Immediate size) a b e first second = ap (signed_text size) second
slot_text_same (ImmediateOrLabel size) a b e first second = ap (signed_text size) second
slot_text_same (RawIndex size) a b e first second = ap (slot_text (RawIndex size)) {x = b} {y = record b { second = a.second }} (λ i. record b { second = second i })
slot_text_same Step a b e first second = ap (signed_text Byte) (sym (eq-from a.operands b.operands e))
slot_text_same Code a b e first second = ap decimal (sym (eq-from a.operands b.operands e))

operand_same : (lead : List ℕ) (slot : Option Slot) (a b : Instr) → of_slot (slot_same a.mods a.operands b.mods b.operands) true slot ≡ true → b.first ≡ a.first → b.second ≡ a.second
    → operand_text lead slot b ≡ operand_text lead slot a
operand_same lead None a b e first second = refl
operand_same lead (Some slot) a b e first second = ap (λ t. lead ++ t) (slot_text_same slot a b e first second)

-- ---- the bytes of what is read back

of_form : (form : Form) (instr : Instr) → FitsForm instr form → is_of_form form instr ≡ true
of_form form instr fits =
    and_true _ _ (and_true _ _ (and_true _ _ (and_true _ _ (and_true _ _ (and_true _ _ (lt-true instr.op 64 fits.op) (lt-true instr.mods 4 fits.mods)) (lt-true instr.operands 256 fits.operands))
    (eq-true (bit_and instr.mods form.kept_mods) instr.mods fits.kept_mods))
    (eq-true (bit_and instr.operands form.kept_operands) instr.operands fits.kept_operands))
    (lt-true instr.first (256 ^ form.first) fits.first))
    (lt-true instr.second (256 ^ form.second) fits.second)

encoding_is : (form : Form) (instr : Instr) → form_in_table instr.op instr.mods instr.operands ≡ Some form → FitsForm instr form → encoding instr ≡ Ok (spelling form instr instr.mods instr.operands)
encoding_is form instr listed fits =
    ap (λ (o : Option Form). spelling_if o instr) listed
    ∙ ap (λ b. cond b (Ok (spelling form instr instr.mods instr.operands)) (Err kind.Operand)) (of_form form instr fits)

-- An instruction of the table, its form, its row and its name.
pub record HasName (instr : Instr) (form : Form) (r : Row) (n : Name) : Type 0 where
  pub fits : FitsForm instr form
  pub row : row_of instr.op ≡ Some r
  pub is : columns r instr.mods instr.operands ≡ form
  pub row_name : name_of instr ≡ Some n
  pub shown : IsShown instr.op r n instr.mods instr.operands (name_bits n instr.mods instr.operands).mods (name_bits n instr.mods instr.operands).operands

pub has_name : (instr : Instr) (form : Form) → form_in_table instr.op instr.mods instr.operands ≡ Some form → FitsForm instr form → (r : Row) × (n : Name) × HasName instr form r n
has_name instr form listed fits =
    let parts = row_parts (row_of instr.op) instr.mods instr.operands form listed in
    let r : Row = parts.0 in
    let kept_mods : bit_and instr.mods r.kept_mods ≡ instr.mods = subst (λ (f : Form). bit_and instr.mods f.kept_mods ≡ instr.mods) (sym parts.3) fits.kept_mods in
    let kept_operands : bit_and instr.operands (r.kept_operands instr.mods) ≡ instr.operands = subst (λ (f : Form). bit_and instr.operands f.kept_operands ≡ instr.operands) (sym parts.3) fits.kept_operands in
    let counted : counts r instr.mods instr.operands ≡ true =
    and_true (r.legal instr.mods instr.operands) _ parts.2 (and_true _ _ (eq-true (bit_and instr.mods r.kept_mods) instr.mods kept_mods) (eq-true (bit_and instr.operands (r.kept_operands instr.mods)) instr.operands kept_operands)) in
    let found = shown_at instr.op r instr.mods instr.operands fits.op fits.mods fits.operands parts.1 counted in
    (r, found.0, record { fits = fits; row = parts.1; is = parts.3; row_name = found.1; shown = found.2 })

-- the form of what is read back
pub form_back : Row → Name → Instr → Form
form_back r n instr = columns r (read_back n instr).mods (read_back n instr).operands

pub listed_back : (instr : Instr) (form : Form) (r : Row) (n : Name) → HasName instr form r n
    → form_in_table instr.op (read_back n instr).mods (read_back n instr).operands ≡ Some (form_back r n instr)
unfolding form_back
listed_back instr form r n h =
    let j : Instr = read_back n instr in
    let parts = and_parts (r.legal j.mods j.operands) _ h.shown.counted in
    ap (λ (o : Option Row). form_in_row o j.mods j.operands) h.row
    ∙ ap (λ b. form_if b (r.first j.mods j.operands) (r.second j.mods j.operands) r.kept_mods (r.kept_operands j.mods)) parts.0

pub fits_back : (instr : Instr) (form : Form) (r : Row) (n : Name) → HasName instr form r n → FitsForm (read_back n instr) (form_back r n instr)
unfolding form_back
fits_back instr form r n h =
    let j : Instr = read_back n instr in
    let counted = and_parts (r.legal j.mods j.operands) _ h.shown.counted in
    let kept = and_parts (nat_eq (bit_and j.mods r.kept_mods) j.mods) (nat_eq (bit_and j.operands (r.kept_operands j.mods)) j.operands) counted.1 in
    record {
      op = h.fits.op;
      mods = h.shown.mods_fit;
      operands = h.shown.operands_fit;
      kept_mods = eq-from (bit_and j.mods r.kept_mods) j.mods kept.0;
      kept_operands = eq-from (bit_and j.operands (r.kept_operands j.mods)) j.operands kept.1;
      first = subst (λ (k : ℕ). instr.first < 256 ^ k) (ap (λ (f : Form). f.first) (sym h.is) ∙ sym h.shown.first_same) h.fits.first;
      second = subst (λ (k : ℕ). instr.second < 256 ^ k) (ap (λ (f : Form). f.second) (sym h.is) ∙ sym h.shown.second_same) h.fits.second;
    }

-- it has as many bytes
pub size_back : (instr : Instr) (form : Form) (r : Row) (n : Name) → HasName instr form r n
    → ((form_back r n instr).first ≡ form.first) × ((form_back r n instr).second ≡ form.second)
unfolding form_back
size_back instr form r n h = (h.shown.first_same ∙ ap (λ (f : Form). f.first) h.is, h.shown.second_same ∙ ap (λ (f : Form). f.second) h.is)

-- and the same text
pub text_back : (instr : Instr) (form : Form) (r : Row) (n : Name) → HasName instr form r n → instr_text (read_back n instr) ≡ instr_text instr
text_back instr form r n h =
    let j : Instr = read_back n instr in
    let one = operand_same (codes " ") n.pattern.one instr j h.shown.one_same refl refl in
    let two = operand_same (codes ", ") n.pattern.two instr j h.shown.two_same refl refl in
    ap (λ (o : Option Name). name_text o j) h.shown.row_name
    ∙ (λ i. (n.text ++ one i) ++ two i)
    ∙ ap (λ (o : Option Name). name_text o instr) (sym h.row_name)

-- ---- its line

-- A line with a name, and its operands after it.
record IsLine (text : List ℕ) (one two : Option Slot) (instr : Instr) (line : List ℕ) : Type 0 where
  pub rest : List ℕ
  pub word : first_word line ≡ text
  pub after : after_word line ≡ rest
  pub reading : (labels : Option (List Label)) (next : ℕ) → operands_of one two labels next rest ≡ Ok (both_add one two instr)
  pub inner : list_all is_inner line ≡ true

-- what an operand says in its place
abbrev GivesLine : Slot → Instr → Type 0
GivesLine slot instr = (labels : Option (List Label)) (next : ℕ) → slot_operand slot labels next (slot_text slot instr) ≡ Ok (slot_adds slot instr)

line_alone : (text : List ℕ) (instr : Instr) → list_all is_safe text ≡ true → IsLine text None None instr text
line_alone text instr safe =
    record {
      rest = [];
      word = before_none is_blank text (no_blank text safe);
      after = after_none is_blank text (no_blank text safe);
      reading = λ labels next. refl;
      inner = inner_safe text safe;
    }

line_with_one : (text : List ℕ) (one : Slot) (instr : Instr) → list_all is_safe text ≡ true → GivesLine one instr → IsLine text (Some one) None instr (text ++ 32 ∷ slot_text one instr)
line_with_one text one instr safe says =
    let a : List ℕ = slot_text one instr in
    let safe_a : list_all is_safe a ≡ true = slot_safe one instr in
    record {
      rest = a;
      word = before_at is_blank text 32 a (no_blank text safe) refl;
      after = after_at is_blank text 32 a (no_blank text safe) refl;
      reading = λ labels next. ap (slot_operand one labels next) (only_word_is a safe_a) ∙ says labels next;
      inner = all_append is_inner text (32 ∷ a) (inner_safe text safe) (inner_safe a safe_a);
    }

-- the texts on both sides of the comma
abbrev before_first_comma : List ℕ → List ℕ
before_first_comma text = before_first is_comma text

abbrev after_first_comma : List ℕ → List ℕ
after_first_comma text = after_first is_comma text

both_slots_read : (one two : Slot) (instr : Instr) (a b : List ℕ) (labels : Option (List Label)) (next : ℕ) → only_word (before_first_comma (a ++ 44 ∷ 32 ∷ b)) ≡ a → only_word (after_first_comma (a ++ 44 ∷ 32 ∷ b)) ≡ b
    → slot_operand one labels next a ≡ Ok (slot_adds one instr) → slot_operand two labels next b ≡ Ok (slot_adds two instr)
    → operands_of (Some one) (Some two) labels next (a ++ 44 ∷ 32 ∷ b) ≡ Ok (both_add (Some one) (Some two) instr)
both_slots_read one two instr a b labels next word_a word_b says_a says_b =
    ap (λ (t : List ℕ). slot_operand one labels next t >>= λ x. slot_operand two labels next (only_word (after_first_comma (a ++ 44 ∷ 32 ∷ b))) >>= λ y. Ok (union_of x y)) word_a
    ∙ ap (λ (t : List ℕ). slot_operand one labels next a >>= λ x. slot_operand two labels next t >>= λ y. Ok (union_of x y)) word_b
    ∙ ap (λ (q : Result Instr AsmKind). q >>= λ x. slot_operand two labels next b >>= λ y. Ok (union_of x y)) says_a
    ∙ ap (λ (q : Result Instr AsmKind). q >>= λ y. Ok (union_of (slot_adds one instr) y)) says_b

line_with_both : (text : List ℕ) (one two : Slot) (instr : Instr) → list_all is_safe text ≡ true → GivesLine one instr → GivesLine two instr
    → IsLine text (Some one) (Some two) instr (text ++ 32 ∷ (slot_text one instr ++ 44 ∷ 32 ∷ slot_text two instr))
line_with_both text one two instr safe says_one says_two =
    let a : List ℕ = slot_text one instr in
    let b : List ℕ = slot_text two instr in
    let rest : List ℕ = a ++ 44 ∷ 32 ∷ b in
    let safe_a : list_all is_safe a ≡ true = slot_safe one instr in
    let safe_b : list_all is_safe b ≡ true = slot_safe two instr in
    let word_a : only_word (before_first_comma rest) ≡ a = ap only_word (before_at is_comma a 44 (32 ∷ b) (no_comma a safe_a) refl) ∙ only_word_is a safe_a in
    let word_b : only_word (after_first_comma rest) ≡ b = ap only_word (after_at is_comma a 44 (32 ∷ b) (no_comma a safe_a) refl) ∙ only_word_after_space b safe_b in
    record {
      rest = rest;
      word = before_at is_blank text 32 rest (no_blank text safe) refl;
      after = after_at is_blank text 32 rest (no_blank text safe) refl;
      reading = λ labels next. both_slots_read one two instr a b labels next word_a word_b (says_one labels next) (says_two labels next);
      inner = all_append is_inner text (32 ∷ rest) (inner_safe text safe) (all_append is_inner a (44 ∷ 32 ∷ b) (inner_safe a safe_a) (inner_safe b safe_b));
    }

-- what one slot adds, if there is one
abbrev SaysAll : Option Slot → Instr → Type 0
SaysAll None instr = Unit {0}
SaysAll (Some slot) instr = GivesLine slot instr

line_is : (text : List ℕ) (one two : Option Slot) (instr : Instr) → list_all is_safe text ≡ true → is_some one || not (is_some two) ≡ true → SaysAll one instr → SaysAll two instr
    → IsLine text one two instr ((text ++ operand_text (codes " ") one instr) ++ operand_text (codes ", ") two instr)
line_is text None None instr safe some says_one says_two = subst (IsLine text None None instr) (sym (append-nil (text ++ []) ∙ append-nil text)) (line_alone text instr safe)
line_is text None (Some two) instr safe some says_one says_two = absurd cc
line_is text (Some one) None instr safe some says_one says_two = subst (IsLine text (Some one) None instr) (sym (append-nil (text ++ 32 ∷ slot_text one instr))) (line_with_one text one instr safe says_one)
line_is text (Some one) (Some two) instr safe some says_one says_two =
    subst (IsLine text (Some one) (Some two) instr) (sym (append_assoc text (32 ∷ slot_text one instr) (44 ∷ 32 ∷ slot_text two instr))) (line_with_both text one two instr safe says_one says_two)

-- ---- what its line says

begins : (text a b : List ℕ) → 0 < length text → list_all (λ c. not (is_blank c)) text ≡ true → after_blanks ((text ++ a) ++ b) ≡ (text ++ a) ++ b
begins [] a b some safe = absurd (omega arith)
begins (c ∷ cs) a b some safe =
    let first = and_parts (not (is_blank c)) (list_all (λ d. not (is_blank d)) cs) safe in
    ap (λ t. drop (cond t (1 + prefix_len is_blank ((cs ++ a) ++ b)) 0) (c ∷ ((cs ++ a) ++ b))) (not_is (is_blank c) first.0)

not_empty : (text a b : List ℕ) → 0 < length text → nat_eq (length ((text ++ a) ++ b)) 0 ≡ false
not_empty [] a b some = absurd (omega arith)
not_empty (c ∷ cs) a b some = eq-false (suc (length ((cs ++ a) ++ b))) 0 (λ e. omega arith)

-- a line of inner characters names no label
cond_inner : (b : Bool) (text : List ℕ) → list_all is_inner text ≡ true → list_all is_inner (cond b text []) ≡ true
cond_inner true text e = e
cond_inner false text e = refl

only_word_inner : (line : List ℕ) → list_all is_inner line ≡ true → list_all is_inner (only_word line) ≡ true
only_word_inner line e =
    let inner : List ℕ = after_blanks line in
    let rest : list_all is_inner inner ≡ true = all_drop is_inner (prefix_len is_blank line) line e in
    cond_inner (list_all is_blank (after_word inner)) (first_word inner) (all_take is_inner (position_or_len is_blank inner) inner rest)

pub no_label : (line : List ℕ) → list_all is_inner line ≡ true → label_of line ≡ None
no_label line e =
    let word : List ℕ = only_word line in
    ap (λ b. cond (b && is_label_name (take (length word - 1) word)) (Some (take (length word - 1) word)) None) (no_colon_at word (length word - 1) (only_word_inner line e))

-- the text of a name with what it says
line_says : (n : Name) (labels : Option (List Label)) (next : ℕ) (line rest bytes : List ℕ) → is_name n ≡ true → name_by n.text ≡ Some n → list_all is_inner line ≡ true
    → after_blanks line ≡ line → nat_eq (length line) 0 ≡ false → first_word line ≡ n.text → after_word line ≡ rest
    → bytes_of_instr (Some n) labels next rest ≡ Ok bytes → bytes_of_line labels next line ≡ Ok bytes
line_says n labels next line rest bytes name by inner front some word after says =
    let code : code_of line ≡ line = ap after_blanks (before_none is_semicolon line (no_semicolon line inner)) ∙ front in
    let dot_byte : bytes_eq n.text (codes ".byte") ≡ false = not_is (bytes_eq n.text (codes ".byte")) (and_parts _ _ (and_parts _ _ (and_parts _ _ name).1).1).0 in
    ap (bytes_of_code labels next) code
    ∙ ap (λ b. cond (b || is_some (label_of line)) (Ok []) (cond (bytes_eq (first_word line) (codes ".byte")) (bytes_of_numbers (number_words (after_word line))) (bytes_of_instr (name_by (first_word line)) labels next (after_word line)))) some
    ∙ ap (λ (o : Option (List ℕ)). cond (is_some o) (Ok []) (cond (bytes_eq (first_word line) (codes ".byte")) (bytes_of_numbers (number_words (after_word line))) (bytes_of_instr (name_by (first_word line)) labels next (after_word line)))) (no_label line inner)
    ∙ ap (λ (w : List ℕ). cond (bytes_eq w (codes ".byte")) (bytes_of_numbers (number_words (after_word line))) (bytes_of_instr (name_by w) labels next (after_word line))) word
    ∙ ap (λ b. cond b (bytes_of_numbers (number_words (after_word line))) (bytes_of_instr (name_by n.text) labels next (after_word line))) dot_byte
    ∙ ap (λ (o : Option Name). bytes_of_instr o labels next (after_word line)) by
    ∙ ap (λ (t : List ℕ). bytes_of_instr (Some n) labels next t) after
    ∙ says

says_all : (slot : Option Slot) (instr : Instr) (f s : ℕ) → of_slot (slot_fits instr.mods instr.operands f s) true slot ≡ true → instr.first < 256 ^ f → instr.second < 256 ^ s → instr.operands < 256 → SaysAll slot instr
says_all None instr f s e first second small = tt
says_all (Some slot) instr f s e first second small = λ labels next. slot_is_read slot instr f s labels next e first second small

-- the bytes of what is read back
unfoldable pub bytes_back : Row → Name → Instr → List ℕ
bytes_back r n instr = spelling (form_back r n instr) (read_back n instr) (read_back n instr).mods (read_back n instr).operands

-- The text of an instruction is one line with no label, and says the bytes of what is read back.
pub record IsText (text bytes : List ℕ) : Type 0 where
  pub inner : list_all is_inner text ≡ true
  pub some : nat_eq (length text) 0 ≡ false
  pub label : label_of (code_of text) ≡ None
  pub says : (labels : Option (List Label)) (next : ℕ) → bytes_of_line labels next text ≡ Ok bytes

pub text_says : (instr : Instr) (form : Form) (r : Row) (n : Name) → HasName instr form r n → IsText (instr_text instr) (bytes_back r n instr)
unfolding bytes_back
text_says instr form r n h =
    let j : Instr = read_back n instr in
    let name : is_name n ≡ true = name_is (goes_by instr) n h.row_name in
    let parts = and_parts (list_all is_safe n.text) _ name in
    let more = and_parts (nat_lt 0 (length n.text)) _ parts.1 in
    let slots = and_parts _ (is_some n.pattern.one || not (is_some n.pattern.two)) more.1 in
    let some : 0 < length n.text = lt-from 0 (length n.text) more.0 in
    let f : ℕ = r.first instr.mods instr.operands in
    let s : ℕ = r.second instr.mods instr.operands in
    let first : instr.first < 256 ^ f = subst (λ (x : Form). instr.first < 256 ^ x.first) (sym h.is) h.fits.first in
    let second : instr.second < 256 ^ s = subst (λ (x : Form). instr.second < 256 ^ x.second) (sym h.is) h.fits.second in
    let one = says_all n.pattern.one instr f s h.shown.one_fits first second h.fits.operands in
    let two = says_all n.pattern.two instr f s h.shown.two_fits first second h.fits.operands in
    let line : List ℕ = (n.text ++ operand_text (codes " ") n.pattern.one instr) ++ operand_text (codes ", ") n.pattern.two instr in
    let is : IsLine n.text n.pattern.one n.pattern.two instr line = line_is n.text n.pattern.one n.pattern.two instr parts.0 slots.1 one two in
    let op : n.pattern.op ≡ instr.op = sym (eq-from instr.op n.pattern.op (and_parts _ _ (and_parts _ _ (found_passes (goes_by instr) names n h.row_name)).0).0) in
    let whole : union_of (bare_instr n.pattern) (both_add n.pattern.one n.pattern.two instr) ≡ j = joined_is n instr f s slots.1 op first second h.shown.first h.shown.second in
    let front : after_blanks line ≡ line = begins n.text (operand_text (codes " ") n.pattern.one instr) (operand_text (codes ", ") n.pattern.two instr) some (no_blank n.text parts.0) in
    let full : nat_eq (length line) 0 ≡ false = not_empty n.text (operand_text (codes " ") n.pattern.one instr) (operand_text (codes ", ") n.pattern.two instr) some in
    let instr_says : (labels : Option (List Label)) (next : ℕ) → bytes_of_instr (Some n) labels next is.rest ≡ Ok (bytes_back r n instr) = λ labels next.
    ap (λ (q : Result Instr AsmKind). q >>= λ added. encoding (union_of (bare_instr n.pattern) added)) (is.reading labels next)
    ∙ ap encoding whole
    ∙ encoding_is (form_back r n instr) j (listed_back instr form r n h) (fits_back instr form r n h) in
    let code : code_of line ≡ line = ap after_blanks (before_none is_semicolon line (no_semicolon line is.inner)) ∙ front in
    subst (λ (t : List ℕ). IsText t (bytes_back r n instr)) (ap (λ (o : Option Name). name_text o instr) (sym h.row_name))
    (record {
      inner = is.inner;
      some = full;
      label = ap label_of code ∙ no_label line is.inner;
      says = λ labels next. line_says n labels next line is.rest (bytes_back r n instr) name (name_read_back (goes_by instr) n h.row_name) is.inner front full is.word is.after (instr_says labels next);
    })
