use Rattle.std.proofs.Common.{◌≡◌, []}
use Rattle.fw_world.proofs.undo_table.each_call_is_undone_in.Given as goal

-- no mark is open between the calls
abbrev pub invariant-loop-call : goal.invariant-loop-call
invariant-loop-call g l = l.world.marks ≡ []
