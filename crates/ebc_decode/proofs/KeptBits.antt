-- What holds of each row of the table: the bits that it ignores change nothing else in it, and its parts
-- have the sizes of parts.
use Rattle.std.proofs.Common.{◌≡◌, ℕ, List, [], ◌∷◌, Option, Some, None, Bool, true, false, nat_eq, find, cond, refl, ◌∙◌, subst, ◌⊎◌, inl, inr}
use Rattle.std.specs.Prelude.{bit_and}
use Rattle.std.proofs.lemmas.Nat.{and_assoc}
use Rattle.ebc_decode.specs.Columns.{Row, row, is_set, m7, m6, always, m6_needs_m7, m7_needs_xi, bit_needs_xi, width_and_bit_needs_xi, x_is_0, y_is_0_or_1, nothing, on_m7, on_m6, on_bit, jump_32, jump_64, two_or_four, width, neither, m7_alone, both, bits, jump_bits}
use Rattle.ebc_decode.specs.Spelling.{is_part_size, rows, row_of, form_in_row, form_if, form_in_table}
use Rattle.ebc_decode.specs.declared.form.Form.{Form}

-- each column says the same about the bits that count, and both parts have a size of parts
pub record IsRegular (r : Row) : Type 0 where
  pub legal : (m o : ℕ) → r.legal (bit_and m r.kept_mods) (bit_and o (r.kept_operands m)) ≡ r.legal m o
  pub first : (m o : ℕ) → r.first (bit_and m r.kept_mods) (bit_and o (r.kept_operands m)) ≡ r.first m o
  pub second : (m o : ℕ) → r.second (bit_and m r.kept_mods) (bit_and o (r.kept_operands m)) ≡ r.second m o
  pub kept : (m : ℕ) → r.kept_operands (bit_and m r.kept_mods) ≡ r.kept_operands m
  pub first_size : (m o : ℕ) → is_part_size (r.first m o) ≡ true
  pub second_size : (m o : ℕ) → is_part_size (r.second m o) ≡ true

-- one of two sizes
size_if : (b : Bool) (x y : ℕ) → is_part_size x ≡ true → is_part_size y ≡ true → is_part_size (cond b x y) ≡ true
size_if true x y e f = e
size_if false x y e f = f

-- ---- the rows, by their columns

bare : {kept_mods mask opcode : ℕ} {mnemonic : List ℕ} → IsRegular (row opcode mnemonic always nothing nothing kept_mods (bits mask))
bare = record { legal = λ m o. refl; first = λ m o. refl; second = λ m o. refl; kept = λ m. refl; first_size = λ m o. refl; second_size = λ m o. refl }

jump : (mask : ℕ) {opcode : ℕ} {mnemonic : List ℕ} → IsRegular (row opcode mnemonic m6_needs_m7 jump_32 jump_64 both (jump_bits mask))
jump mask = record { legal = λ m o. simp and_assoc; first = λ m o. simp and_assoc; second = λ m o. simp and_assoc; kept = λ m. simp and_assoc; first_size = λ m o. size_if (m7 m) _ _ (size_if (m6 m) 0 4 refl refl) refl; second_size = λ m o. size_if (m7 m) _ _ (size_if (m6 m) 8 0 refl refl) refl }

arithmetic : {mask opcode : ℕ} {mnemonic : List ℕ} → IsRegular (row opcode mnemonic always nothing (on_m7 2) both (bits mask))
arithmetic = record { legal = λ m o. refl; first = λ m o. refl; second = λ m o. simp and_assoc; kept = λ m. refl; first_size = λ m o. refl; second_size = λ m o. size_if (m7 m) 2 0 refl refl }

move : (size : ℕ) → is_part_size size ≡ true → {opcode : ℕ} {mnemonic : List ℕ} → IsRegular (row opcode mnemonic m7_needs_xi (on_m7 size) (on_m6 size) both (bits 0xff))
move size is = record { legal = λ m o. simp and_assoc; first = λ m o. simp and_assoc; second = λ m o. simp and_assoc; kept = λ m. refl; first_size = λ m o. size_if (m7 m) size 0 is refl; second_size = λ m o. size_if (m6 m) size 0 is refl }

load : {opcode : ℕ} {mnemonic : List ℕ} → IsRegular (row opcode mnemonic x_is_0 nothing nothing neither (bits 0x77))
load = record { legal = λ m o. simp and_assoc; first = λ m o. refl; second = λ m o. refl; kept = λ m. refl; first_size = λ m o. refl; second_size = λ m o. refl }

store : {opcode : ℕ} {mnemonic : List ℕ} → IsRegular (row opcode mnemonic y_is_0_or_1 nothing nothing neither (bits 0x77))
store = record { legal = λ m o. simp and_assoc; first = λ m o. refl; second = λ m o. refl; kept = λ m. refl; first_size = λ m o. refl; second_size = λ m o. refl }

push : {mask opcode : ℕ} {mnemonic : List ℕ} → IsRegular (row opcode mnemonic always (on_m7 2) nothing both (bits mask))
push = record { legal = λ m o. refl; first = λ m o. simp and_assoc; second = λ m o. refl; kept = λ m. refl; first_size = λ m o. size_if (m7 m) 2 0 refl refl; second_size = λ m o. refl }

push_natural : {mask opcode : ℕ} {mnemonic : List ℕ} → IsRegular (row opcode mnemonic always (on_m7 2) nothing m7_alone (bits mask))
push_natural = record { legal = λ m o. refl; first = λ m o. simp and_assoc; second = λ m o. refl; kept = λ m. refl; first_size = λ m o. size_if (m7 m) 2 0 refl refl; second_size = λ m o. refl }

compare : {opcode : ℕ} {mnemonic : List ℕ} → IsRegular (row opcode mnemonic (bit_needs_xi 4) (on_bit 4 2) two_or_four both (bits 0x1f))
compare = record { legal = λ m o. simp and_assoc; first = λ m o. simp and_assoc; second = λ m o. simp and_assoc; kept = λ m. refl; first_size = λ m o. size_if (is_set o 4) 2 0 refl refl; second_size = λ m o. size_if (m7 m) 4 2 refl refl }

immediate : {opcode : ℕ} {mnemonic : List ℕ} → IsRegular (row opcode mnemonic (width_and_bit_needs_xi 6) (on_bit 6 2) width both (bits 0x7f))
immediate = record { legal = λ m o. simp and_assoc; first = λ m o. simp and_assoc; second = λ m o. simp and_assoc; kept = λ m. refl; first_size = λ m o. size_if (is_set o 6) 2 0 refl refl; second_size = λ m o. size_if (m7 m) _ _ (size_if (m6 m) 8 4 refl refl) refl }

immediate_8 : {opcode : ℕ} {mnemonic : List ℕ} → IsRegular (row opcode mnemonic (width_and_bit_needs_xi 6) (on_bit 6 2) width both (bits 0x4f))
immediate_8 = record { legal = λ m o. simp and_assoc; first = λ m o. simp and_assoc; second = λ m o. simp and_assoc; kept = λ m. refl; first_size = λ m o. size_if (is_set o 6) 2 0 refl refl; second_size = λ m o. size_if (m7 m) _ _ (size_if (m6 m) 8 4 refl refl) refl }

-- ---- all of them

-- each row of a list
infixr 20 ◌▹◌
data Each : List Row → Type 0 where
  none : Each []
  ◌▹◌ : {r : Row} {rs : List Row} → IsRegular r → Each rs → Each (r ∷ rs)

-- in the order of the table
rows_are_regular : Each rows
rows_are_regular =
    bare ▹ jump 0xdf ▹ bare ▹ jump 0x3f ▹ bare
    ▹ arithmetic ▹ arithmetic ▹ arithmetic ▹ arithmetic ▹ arithmetic
    ▹ arithmetic ▹ arithmetic ▹ arithmetic ▹ arithmetic ▹ arithmetic ▹ arithmetic ▹ arithmetic ▹ arithmetic ▹ arithmetic ▹ arithmetic
    ▹ arithmetic ▹ arithmetic ▹ arithmetic ▹ arithmetic ▹ arithmetic ▹ arithmetic ▹ arithmetic ▹ arithmetic ▹ arithmetic
    ▹ move 2 refl ▹ move 2 refl ▹ move 2 refl ▹ move 2 refl ▹ move 4 refl ▹ move 4 refl ▹ move 4 refl ▹ move 4 refl ▹ move 2 refl ▹ move 4 refl ▹ move 8 refl
    ▹ load ▹ store ▹ push ▹ push
    ▹ compare ▹ compare ▹ compare ▹ compare ▹ compare
    ▹ move 2 refl ▹ move 4 refl ▹ push_natural ▹ push_natural
    ▹ immediate ▹ immediate_8 ▹ immediate_8
    ▹ none

-- what is found is the first or a later one
first_or_later : (b : Bool) (x r : Row) (rest : Option Row) → cond b (Some x) rest ≡ Some r → (b ≡ true) × (x ≡ r) ⊎ (rest ≡ Some r)
first_or_later true x r rest e = inl (refl, cc)
first_or_later false x r rest e = inr e

-- a row that is found in the list is one of it
row_is_regular : (p : Row → Bool) (rs : List Row) (r : Row) → Each rs → find p rs ≡ Some r → IsRegular r
row_is_regular p [] r none e = absurd cc
row_is_regular p (x ∷ rs) r (here ▹ later) e =
    elim (first_or_later (p x) x r (find p rs) e) [ inl is ↦ subst IsRegular is.1 here | inr more ↦ row_is_regular p rs r later more ]

-- a form that is there has legal bytes and these columns
if_some : (legal : Bool) (first second kept_mods kept_operands : ℕ) (form : Form) → form_if legal first second kept_mods kept_operands ≡ Some form
    → (legal ≡ true) × (record { first = first; second = second; kept_mods = kept_mods; kept_operands = kept_operands } ≡ form)
if_some true first second kept_mods kept_operands form e = (refl, cc)
if_some false first second kept_mods kept_operands form e = absurd cc

kept_by : (found : Option Row) (m o : ℕ) (form : Form) → ((r : Row) → found ≡ Some r → IsRegular r) → form_in_row found m o ≡ Some form
    → form_in_row found (bit_and m form.kept_mods) (bit_and o form.kept_operands) ≡ Some form
kept_by None m o form regular e = absurd cc
kept_by (Some r) m o form regular e =
    let parts = if_some (r.legal m o) (r.first m o) (r.second m o) r.kept_mods (r.kept_operands m) form e in
    let rest = regular r refl in
    let same : form_in_row (Some r) (bit_and m r.kept_mods) (bit_and o (r.kept_operands m)) ≡ form_in_row (Some r) m o = rw (rest.legal m o, rest.first m o, rest.second m o, rest.kept m) refl in
    subst (λ (f : Form). form_in_row (Some r) (bit_and m f.kept_mods) (bit_and o f.kept_operands) ≡ Some form) parts.1 (same ∙ e)

-- with its ignored bits 0 an instruction has the same form
pub kept_form : (op m o : ℕ) (form : Form) → form_in_table op m o ≡ Some form → form_in_table op (bit_and m form.kept_mods) (bit_and o form.kept_operands) ≡ Some form
kept_form op m o form e = kept_by (row_of op) m o form (λ r is. row_is_regular (λ x. nat_eq x.opcode op) rows r rows_are_regular is) e

sizes_by : (found : Option Row) (m o : ℕ) (form : Form) → ((r : Row) → found ≡ Some r → IsRegular r) → form_in_row found m o ≡ Some form
    → (is_part_size form.first ≡ true) × (is_part_size form.second ≡ true)
sizes_by None m o form regular e = absurd cc
sizes_by (Some r) m o form regular e =
    let parts = if_some (r.legal m o) (r.first m o) (r.second m o) r.kept_mods (r.kept_operands m) form e in
    let rest = regular r refl in
    subst (λ (f : Form). (is_part_size f.first ≡ true) × (is_part_size f.second ≡ true)) parts.1 (rest.first_size m o, rest.second_size m o)

-- both parts of a form have a size of parts
pub form_sizes : (op m o : ℕ) (form : Form) → form_in_table op m o ≡ Some form → (is_part_size form.first ≡ true) × (is_part_size form.second ≡ true)
form_sizes op m o form e = sizes_by (row_of op) m o form (λ r is. row_is_regular (λ x. nat_eq x.opcode op) rows r rows_are_regular is) e
