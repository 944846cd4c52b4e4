use Rattle.std.proofs.Common.{◌≡◌, take, arith, ◌∙◌}
use Rattle.std.proofs.lemmas.Grind.{common_steps}
use Rattle.ebc_asm.proofs.EncodingLemmas.{spelled-encoding, unspelled-refused}
use Rattle.ebc_asm.proofs.lines.encoding.Goals as goal

pub returns-in-Ok-clause-value : goal.returns-in-Ok-clause-value
returns-in-Ok-clause-value c =
    let front : take 2 (take c.in-Ok.found.1 c.in-Ok.found.0) ≡ take 2 c.in-Ok.found.0 = grind (arith, common_steps, c.in-Ok.ensures.len) in
    spelled-encoding (take c.in-Ok.found.1 c.in-Ok.found.0) c.args.instr.now c.in-Ok.ensures.spelled (front ∙ c.in-Ok.ensures.ignored)

pub returns-in-Err-clause-value : goal.returns-in-Err-clause-value
returns-in-Err-clause-value c = unspelled-refused c.args.instr.now c.in-Err.ensures.spelled
