use Rattle.std.proofs.Common.{◌≡◌, ◌^◌, ◌<◌, drop}
use Rattle.std.specs.Str.Parse.{digits_value, digits_value_after}
use Rattle.ebc_asm.proofs.numbers.value.Given as goal

-- the digits after those that were read go on from their number
abbrev pub invariant-loop-byte : goal.invariant-loop-byte
invariant-loop-byte l = record {
  fits : l.n < 2 ^ 64;
  value : digits_value l.base l.digits ≡ digits_value_after l.base l.n (drop l.byte-index l.digits);
}
