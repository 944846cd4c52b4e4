use Rattle.std.proofs.Common.{◌≡◌}
use Rattle.replay_shell.proofs.SummaryLemmas.{AddedUp, IsCalm}
use Rattle.replay_shell.proofs.summary.totals_of.Given as goal

-- the replies so far are added up, and the shelf does not fail
abbrev pub invariant-loop-command : goal.invariant-loop-command
invariant-loop-command l = record {
  so_far : AddedUp l.initial.shelf.files l.initial.machine l.commands l.command-index l.machine l.totals;
  files : l.shelf.files ≡ l.initial.shelf.files;
  calm : IsCalm l.shelf;
}
