use Rattle.std.proofs.Common.{sym, ◌∙◌, arith}
use Rattle.std.proofs.Math.Nat.{one-le-pow}
use Rattle.byteorder.specs.Numbers.{little_from-lt}
use Rattle.pe_image.proofs.NumberLemmas.{little_number-present}
use Rattle.pe_image.proofs.numbers.number.Goals as goal

-- no byte is there
pub returns-then-present-eq0-clause-value : goal.returns-then-present-eq0-clause-value
returns-then-present-eq0-clause-value c = sym (little_number-present c.args.size 0 c.args.bytes.now (omega arith))

pub returns-then-present-eq0-clause-fits : goal.returns-then-present-eq0-clause-fits
returns-then-present-eq0-clause-fits c = one-le-pow c.args.size 256 (omega arith)

-- some bytes are there
pub returns-clause-value : goal.returns-clause-value
returns-clause-value c =
    c.read_uint.ensures ∙ sym (little_number-present c.args.size c.min-present.result c.args.bytes.now (omega arith))

pub returns-clause-fits : goal.returns-clause-fits
returns-clause-fits c =
    let value = c.read_uint.ensures ∙ sym (little_number-present c.args.size c.min-present.result c.args.bytes.now (omega arith)) in
    rw value (little_from-lt 0 c.args.size c.args.bytes.now (λ k. (c.type_inv.bytes k).fits))
