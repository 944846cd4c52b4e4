use Rattle.std.proofs.Common.{◌≡◌, ◌≤◌}
use Rattle.std.specs.Prelude.{Some}
use Rattle.fw_shelf.specs.Shelf.{Files}
use Rattle.replay_shell.proofs.ReplayLemmas.{SoFar}
use Rattle.replay_shell.proofs.replay.take_turns.Given as goal

-- the texts of the commands so far were taken, and the machine goes on as the first one does
abbrev pub invariant-loop-command : goal.invariant-loop-command
invariant-loop-command g l = record {
  taken : (files : Files) → g.F.Shelf.files l.initial.shelf ≡ Some files → SoFar files l.initial.machine l.commands l.command-index l.machine (g.K.Sink.taken l.initial.sink) (g.K.Sink.taken l.sink);
  same_files : g.F.Shelf.files l.shelf ≡ g.F.Shelf.files l.initial.shelf;
  shelf_faults : g.F.Shelf.faults l.initial.shelf ≤ g.F.Shelf.faults l.shelf;
  sink_faults : g.K.Sink.faults l.initial.sink ≤ g.K.Sink.faults l.sink;
  shelf_becomes : g.F.Shelf.becomes l.initial.shelf l.shelf;
  sink_becomes : g.K.Sink.becomes l.initial.sink l.sink;
}
