-- The bytes so far, and those of the rest.
use Rattle.std.proofs.Common.{◌≡◌, ◌+◌, ◌*◌, ◌^◌, ◌≤◌, length}
use Rattle.std.specs.Str.Lines.{lines}
use Rattle.ebc_asm.specs.Assembly.{bytes_from}
use Rattle.ebc_asm.proofs.AssemblyLemmas.{after_out}
use Rattle.ebc_asm.proofs.assembly.bytes_of_text.Given as goal

abbrev pub invariant-lines : goal.invariant-lines
invariant-lines l = record {
  reading : bytes_from l.labels 1 0 (lines l.fn.text) ≡ after_out l.out.items (bytes_from l.labels l.number l.place (lines l.rest));
  number : l.number + length l.rest ≤ 2 ^ 32;
  place : l.place + 20 * length l.rest ≤ 20 * 2 ^ 32;
}

abbrev pub decreases-lines : goal.decreases-lines
decreases-lines l = length l.rest
