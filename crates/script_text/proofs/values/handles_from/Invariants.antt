use Rattle.std.proofs.Common.{◌≡◌, ◌++◌}
use Rattle.script_text.specs.ScriptGrammar.{handles_from}
use Rattle.script_text.proofs.values.handles_from.Given as goal

-- the handles so far and those that are left are all of them
abbrev pub invariant-loop-i : goal.invariant-loop-i
invariant-loop-i l = handles_from l.words l.place ≡ l.handles.items ++ handles_from l.words l.i
