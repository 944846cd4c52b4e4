use Rattle.std.proofs.Common.{◌≡◌, ℕ, ◌<◌, false, get_or}
use Rattle.text_lines.specs.Words.{is_blank}
use Rattle.text_lines.proofs.blanks.place_of_blank.Given as goal

-- no blank is before i
abbrev pub invariant-loop-i : goal.invariant-loop-i
invariant-loop-i l = (k : ℕ) → k < l.i → is_blank (get_or l.text k 0) ≡ false
