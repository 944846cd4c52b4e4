use Rattle.std.proofs.Common.{◌≡◌, ◌+◌, drop}
use Rattle.script_text.specs.Forms.{form_of, some_refused}
use Rattle.script_text.proofs.arguments.some_refused.Given as goal

-- no word so far is refused
abbrev pub invariant-loop-place : goal.invariant-loop-place
invariant-loop-place l = some_refused l.kind (form_of l.keyword) 0 (drop 1 l.words) ≡ some_refused l.kind (form_of l.keyword) l.place (drop (l.place + 1) l.words)
