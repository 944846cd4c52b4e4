use Rattle.std.proofs.Common.{◌≡◌, ◌++◌, take}
use Rattle.std.specs.Prelude.{flat_map}
use Rattle.byteorder.specs.Endian.{little_bytes}
use Rattle.soft_pieces.proofs.stack.add_numbers.Given as goal

-- the numbers so far are after the bytes
abbrev pub invariant-loop-number : goal.invariant-loop-number
invariant-loop-number l = l.bytes.items ≡ l.fn.bytes.items ++ flat_map (little_bytes 8) (take l.number-index l.numbers)
