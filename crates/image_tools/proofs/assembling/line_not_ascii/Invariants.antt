-- The bytes so far are of a listing, and the others decide.
use Rattle.std.proofs.Common.{◌≡◌, ◌≤◌, ◌+◌, drop}
use Rattle.image_tools.specs.Tools.{line_not_ascii}
use Rattle.image_tools.proofs.assembling.line_not_ascii.Given as goal

abbrev pub invariant-loop-byte : goal.invariant-loop-byte
invariant-loop-byte l = record {
  rest : line_not_ascii 1 l.text ≡ line_not_ascii l.number (drop l.byte-index l.text);
  number : l.number ≤ l.byte-index + 1;
}
