use Rattle.std.proofs.Common.{◌≡◌, ◌∙◌, Some, length, drop, eqb, false, sym, arith}
use Rattle.script_text.proofs.NumbersLemmas.{digits_after, digits_after-end}
use Rattle.script_text.proofs.numbers.numeral.Goals as goal

pub returns : goal.returns
returns c =
    let last : digits_after c.args.base c.loop-byte.value (drop c.loop-byte.byte-index c.args.digits.now) ≡ Some c.loop-byte.value = digits_after-end c.args.base c.loop-byte.value c.loop-byte.byte-index c.args.digits.now (omega arith) c.loop-byte.invariant.fits in
    let some : eqb (length c.args.digits.now) 0 ≡ false = cc in
    rw some (sym (c.loop-byte.invariant.same ∙ last))
