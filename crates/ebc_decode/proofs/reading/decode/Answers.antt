use Rattle.std.proofs.Common.{ℕ, sym, take, ◌∙◌, arith}
use Rattle.ebc_decode.specs.Spelling.{IsInstruction, Spells}
use Rattle.ebc_decode.specs.declared.instr.Instr.{Instr}
use Rattle.ebc_decode.proofs.SpellingLemmas.{decoding-found, decoding-only, instruction-spelled, IfOk-each}
use Rattle.ebc_decode.proofs.reading.decode.Goals as goal

pub returns-clause-found : goal.returns-clause-found
returns-clause-found c =
    let bytes = c.args.bytes.now in
    IfOk-each c.front_of.result (λ (found : Instr × ℕ). Spells (take found.1 bytes) found.0)
    (λ found is. decoding-found bytes found (λ i. omega (arith, c.type_inv.bytes i)) (sym c.front_of.ensures.table ∙ is))

pub returns-clause-only : goal.returns-clause-only
returns-clause-only c = λ spelled rest instr spells whole. c.front_of.ensures.table ∙ decoding-only c.args.bytes.now spelled rest instr spells whole

pub returns-clause-fits : goal.returns-clause-fits
returns-clause-fits c =
    let bytes = c.args.bytes.now in
    IfOk-each c.front_of.result (λ (found : Instr × ℕ). IsInstruction found.0)
    (λ found is. instruction-spelled (take found.1 bytes) found.0 (decoding-found bytes found (λ i. omega (arith, c.type_inv.bytes i)) (sym c.front_of.ensures.table ∙ is)))
