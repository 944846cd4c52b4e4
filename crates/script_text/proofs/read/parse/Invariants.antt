use Rattle.std.proofs.Common.{length}
use Rattle.script_text.proofs.ScriptLemmas.{ReadSoFar}
use Rattle.script_text.proofs.read.parse.Given as goal

-- the lines before those that are left were read
abbrev pub invariant-loop-text : goal.invariant-loop-text
invariant-loop-text l = ReadSoFar l.bytes l.text l.script l.number

abbrev pub decreases-loop-text : goal.decreases-loop-text
decreases-loop-text l = length l.text
