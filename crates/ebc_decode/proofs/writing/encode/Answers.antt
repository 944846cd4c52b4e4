use Rattle.std.proofs.Common.{◌≡◌, ◌+◌, ◌-◌, ◌++◌, List, ℕ, length, take, drop, replicate, sym, subst, ap, ◌∙◌, refl, arith}
use Rattle.std.proofs.Math.Seq.{take-append_seam, drop-append_seam}
use Rattle.ebc_decode.specs.Spelling.{Spells, spelling}
use Rattle.ebc_decode.specs.declared.form.Form.{Form}
use Rattle.ebc_decode.specs.declared.instr.Instr.{Instr}
use Rattle.ebc_decode.proofs.SpellingLemmas.{plain-spells, length-spelling, length-spelled, decoding-only, instruction-spelled}
use Rattle.ebc_decode.proofs.writing.encode.Goals as goal

-- the bytes of a form, and the zeros after them
front : (n : ℕ) (all bytes zeros : List ℕ) → all ≡ bytes ++ zeros → length bytes ≡ n → take n all ≡ bytes
front n all bytes zeros e len = rw (e, sym len) (take-append_seam bytes zeros)

back : (n : ℕ) (all bytes zeros : List ℕ) → all ≡ bytes ++ zeros → length bytes ≡ n → drop n all ≡ zeros
back n all bytes zeros e len = rw (e, sym len) (drop-append_seam bytes zeros)

pub returns-in-Some-clause-spelled : goal.returns-in-Some-clause-spelled
returns-in-Some-clause-spelled c =
    let instr : Instr = c.args.instr.now in
    let form : Form = c.in-Some.form in
    let bytes : List ℕ = spelling form instr instr.mods instr.operands in
    let is : take (2 + form.first + form.second) c.bytes_of.result ≡ bytes = front _ c.bytes_of.result bytes (replicate (16 - form.first - form.second) 0) c.bytes_of.ensures (length-spelling form instr instr.mods instr.operands) in
    subst (λ (b : List ℕ). Spells b instr) (sym is) (plain-spells instr form c.in-Some.ensures.form.0 c.in-Some.ensures.form.1)

pub returns-in-Some-clause-zeros : goal.returns-in-Some-clause-zeros
returns-in-Some-clause-zeros c =
    let instr : Instr = c.args.instr.now in
    let form : Form = c.in-Some.form in
    let zeros : 16 - form.first - form.second ≡ 18 - (2 + form.first + form.second) = omega arith in
    back _ c.bytes_of.result (spelling form instr instr.mods instr.operands) (replicate (16 - form.first - form.second) 0) c.bytes_of.ensures (length-spelling form instr instr.mods instr.operands)
    ∙ ap (λ (n : ℕ). replicate n 0) zeros

pub returns-in-Some-clause-read_back : goal.returns-in-Some-clause-read_back
returns-in-Some-clause-read_back c = λ bytes spells.
    let instr : Instr = c.args.instr.now in
    let form : Form = c.in-Some.form in
    let plain : List ℕ = spelling form instr instr.mods instr.operands in
    let len : length plain ≡ 2 + form.first + form.second = length-spelling form instr instr.mods instr.operands in (
      sym (length-spelled bytes instr form spells c.in-Some.ensures.form.0),
      decoding-only c.bytes_of.result plain (replicate (16 - form.first - form.second) 0) instr (plain-spells instr form c.in-Some.ensures.form.0 c.in-Some.ensures.form.1) c.bytes_of.ensures ∙ rw len refl,
    )

pub returns-in-None-clause-spelled : goal.returns-in-None-clause-spelled
returns-in-None-clause-spelled c = λ bytes spells. c.in-None.ensures.form (instruction-spelled bytes c.args.instr.now spells)

pub returns-in-None-clause-read_back : goal.returns-in-None-clause-read_back
returns-in-None-clause-read_back c = λ bytes spells. c.in-None.ensures.form (instruction-spelled bytes c.args.instr.now spells)
