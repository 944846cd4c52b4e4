-- Each way through the loop is a step of the definition.
use Rattle.std.proofs.Common.{arith}
use Rattle.std.proofs.lemmas.Bool.Decides.{nat_tests}
use Rattle.ebc_asm.proofs.AssemblyLemmas.{bytes-line, bytes-end, gives-fault, lines-none}
use Rattle.ebc_asm.proofs.assembly.bytes_of_text.Goals as goal

pub returns-in-Err : goal.returns-in-Err
returns-in-Err c = rw c.fault_at.ensures (gives-fault _ c.args.labels.now c.lines.out.items c.lines.number c.lines.place c.first_line.result.0.now c.lines.rest.now c.first_line.result.1.now c.in-Err.stop c.first_line.ensures.lines c.in-Err.ensures.value c.lines.invariant.reading)

pub lines-preserved : goal.lines-preserved
lines-preserved c = record {
  reading = rw (c.in_ok-extend_from_slice-in-Ok.ensures.items, c.as_slice.ensures.value, c.in-Ok.ensures.size) (bytes-line _ c.args.labels.now c.lines.out.items _ c.lines.number c.lines.place c.first_line.result.0.now c.lines.rest.now c.first_line.result.1.now c.first_line.ensures.lines c.in-Ok.ensures.value c.lines.invariant.reading);
  number = omega (arith, c.lines.invariant.number, c.first_line.ensures.shorter);
  place = omega (arith, c.lines.invariant.place, c.first_line.ensures.shorter, c.first_line.ensures.within, c.in-Ok.ensures.small);
}

pub returns : goal.returns
returns c = bytes-end _ c.args.labels.now c.lines.out.items c.lines.number c.lines.place c.lines.rest.now (lines-none c.lines.rest.now (grind (arith, nat_tests))) c.lines.invariant.reading
