-- Which instructions encode, by the table.
use Rattle.std.proofs.Common.{◌≡◌, ℕ, ◌+◌, ◌*◌, ◌^◌, ◌<◌, Bool, true, false, ◌&&◌, nat_eq, nat_lt, bit_and, List, [], ◌∷◌, take, Option, Some, None, Ok, Err, refl, sym, ap, ◌∙◌, arith}
use Rattle.std.proofs.lemmas.Bool.Decides.{nat_tests}
use Rattle.ebc_decode.specs.Spelling.{form_in_table, spelling, Spells}
use Rattle.ebc_decode.specs.declared.form.Form.{Form}
use Rattle.ebc_decode.specs.declared.instr.Instr.{Instr}
use Rattle.ebc_asm.specs.declared.fault.AsmKind.TheVariants.{Operand}
use Rattle.ebc_asm.specs.Assembly.{encoding, is_of_form, spelling_if, only_if}

head-is : (a b : ℕ) (xs ys : List ℕ) → a ∷ xs ≡ b ∷ ys → a ≡ b
head-is a b xs ys h = cc

-- a form's tests, one by one
pub of-form : (form : Form) (instr : Instr) → instr.op < 64 → instr.mods < 4 → instr.operands < 256 → bit_and instr.mods form.kept_mods ≡ instr.mods → bit_and instr.operands form.kept_operands ≡ instr.operands → instr.first < 256 ^ form.first → instr.second < 256 ^ form.second → is_of_form form instr ≡ true
of-form form instr a b c d e f g =
    let a' : nat_lt instr.op 64 ≡ true = grind (arith, nat_tests) in
    let b' : nat_lt instr.mods 4 ≡ true = grind (arith, nat_tests) in
    let c' : nat_lt instr.operands 256 ≡ true = grind (arith, nat_tests) in
    let d' : nat_eq (bit_and instr.mods form.kept_mods) instr.mods ≡ true = grind (arith, nat_tests) in
    let e' : nat_eq (bit_and instr.operands form.kept_operands) instr.operands ≡ true = grind (arith, nat_tests) in
    let f' : nat_lt instr.first (256 ^ form.first) ≡ true = grind (arith, nat_tests) in
    let g' : nat_lt instr.second (256 ^ form.second) ≡ true = grind (arith, nat_tests) in
    rw (a', b', c', d', e', f', g') refl

-- what bytes spell, with its own first two bytes, encodes to them
pub spelled-encoding : (bytes : List ℕ) (instr : Instr) → Spells bytes instr → take 2 bytes ≡ (instr.op + 64 * instr.mods) ∷ instr.operands ∷ [] → encoding instr ≡ Ok bytes
spelled-encoding bytes instr s front =
    let heads : (instr.op + 64 * s.mods) ∷ s.operands ∷ [] ≡ (instr.op + 64 * instr.mods) ∷ instr.operands ∷ [] = sym (ap (take 2) s.bytes_are) ∙ front in
    let same_operands : s.operands ≡ instr.operands = cc in
    let first : instr.op + 64 * s.mods ≡ instr.op + 64 * instr.mods = head-is _ _ _ _ heads in
    let same_mods : s.mods ≡ instr.mods = omega (arith, first) in
    let listed : form_in_table instr.op instr.mods instr.operands ≡ Some s.form = ap (λ m. form_in_table instr.op m instr.operands) (sym same_mods) ∙ ap (form_in_table instr.op s.mods) (sym same_operands) ∙ s.listed in
    let kept_mods : bit_and instr.mods s.form.kept_mods ≡ instr.mods = ap (λ m. bit_and m s.form.kept_mods) (sym same_mods) ∙ sym s.mods_are in
    let kept_operands : bit_and instr.operands s.form.kept_operands ≡ instr.operands = ap (λ m. bit_and m s.form.kept_operands) (sym same_operands) ∙ sym s.operands_are in
    let mods_fit : instr.mods < 4 = omega (arith, s.mods_fit, same_mods) in
    let operands_fit : instr.operands < 256 = omega (arith, s.operands_fit, same_operands) in
    let holds : is_of_form s.form instr ≡ true = of-form s.form instr s.op_fits mods_fit operands_fit kept_mods kept_operands s.first_fits s.second_fits in
    let bytes_are : spelling s.form instr instr.mods instr.operands ≡ bytes = ap (λ m. spelling s.form instr m instr.operands) (sym same_mods) ∙ ap (spelling s.form instr s.mods) (sym same_operands) ∙ sym s.bytes_are in
    ap (λ form. spelling_if form instr) listed ∙ ap (λ b. only_if b (spelling s.form instr instr.mods instr.operands) Operand) holds ∙ ap Ok bytes_are

both : (a b : Bool) → (a && b) ≡ true → (a ≡ true) × (b ≡ true)
both true true h = (refl, refl)
both true false h = cc
both false b h = cc

-- an instruction of a form is spelled
spells : (form : Form) (instr : Instr) → form_in_table instr.op instr.mods instr.operands ≡ Some form → is_of_form form instr ≡ true → Spells (spelling form instr instr.mods instr.operands) instr
spells form instr listed h =
    let g = both _ _ h in
    let f = both _ _ g.0 in
    let e = both _ _ f.0 in
    let d = both _ _ e.0 in
    let c = both _ _ d.0 in
    let b = both _ _ c.0 in
    record {
      mods = instr.mods;
      operands = instr.operands;
      form = form;
      listed = listed;
      op_fits = (let t : nat_lt instr.op 64 ≡ true = b.0 in grind (arith, nat_tests));
      mods_fit = (let t : nat_lt instr.mods 4 ≡ true = b.1 in grind (arith, nat_tests));
      operands_fit = (let t : nat_lt instr.operands 256 ≡ true = c.1 in grind (arith, nat_tests));
      mods_are = (let t : nat_eq (bit_and instr.mods form.kept_mods) instr.mods ≡ true = d.1 in grind (arith, nat_tests));
      operands_are = (let t : nat_eq (bit_and instr.operands form.kept_operands) instr.operands ≡ true = e.1 in grind (arith, nat_tests));
      first_fits = (let t : nat_lt instr.first (256 ^ form.first) ≡ true = f.1 in grind (arith, nat_tests));
      second_fits = (let t : nat_lt instr.second (256 ^ form.second) ≡ true = g.1 in grind (arith, nat_tests));
      bytes_are = refl;
    }

refused-by : (found : Option Form) (instr : Instr) → form_in_table instr.op instr.mods instr.operands ≡ found → ((bytes : List ℕ) → Spells bytes instr → ⊥) → spelling_if found instr ≡ Err Operand
refused-by None instr listed none = refl
refused-by (Some form) instr listed none =
    elim (is_of_form form instr) as (λ b. is_of_form form instr ≡ b → only_if b (spelling form instr instr.mods instr.operands) Operand ≡ Err Operand) [
      | true ↦ λ holds. absurd (none _ (spells form instr listed holds))
      | false ↦ λ _. refl
    ] refl

-- what no bytes spell does not encode
pub unspelled-refused : (instr : Instr) → ((bytes : List ℕ) → Spells bytes instr → ⊥) → encoding instr ≡ Err Operand
unspelled-refused instr none = refused-by (form_in_table instr.op instr.mods instr.operands) instr refl none
