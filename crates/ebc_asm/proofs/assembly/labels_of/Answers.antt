-- Each way through the loop is a step of the definition.
use Rattle.std.proofs.Common.{arith, sym}
use Rattle.std.proofs.lemmas.Bool.Decides.{nat_tests}
use Rattle.ebc_asm.proofs.AssemblyLemmas.{labels-line, labels-end, lines-none}
use Rattle.ebc_asm.proofs.assembly.labels_of.Goals as goal

pub lines-preserved : goal.lines-preserved
lines-preserved c = record {
  found = rw (c.in_ok-keep_label.ensures, c.in_ok-place.ensures.value) (labels-line _ _ _ _ c.first_line.result.0.now c.lines.rest.now c.first_line.result.1.now c.first_line.ensures.lines c.lines.invariant.found);
  number = omega (arith, c.lines.invariant.number, c.first_line.ensures.shorter);
  place = omega (arith, c.lines.invariant.place, c.first_line.ensures.shorter, c.first_line.ensures.within, c.in_ok-place.ensures.small);
}

pub returns : goal.returns
returns c = sym (labels-end _ _ _ _ c.lines.rest.now (lines-none c.lines.rest.now (grind (arith, nat_tests))) c.lines.invariant.found)
