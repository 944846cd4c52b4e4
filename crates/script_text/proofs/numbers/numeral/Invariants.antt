use Rattle.std.proofs.Common.{◌≡◌, ◌<◌, ◌^◌, drop}
use Rattle.script_text.proofs.NumbersLemmas.{digits_after}
use Rattle.script_text.proofs.numbers.numeral.Given as goal

-- the value so far and the digits that are left make the number of all digits
abbrev pub invariant-loop-byte : goal.invariant-loop-byte
invariant-loop-byte l = record {
  fits : l.value < 2 ^ 64;
  same : digits_after l.base 0 l.digits ≡ digits_after l.base l.value (drop l.byte-index l.digits);
}
