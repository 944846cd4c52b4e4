use Rattle.std.proofs.Common.{◌≡◌, ◌≤◌, ◌-◌, length, take}
use Rattle.fw_shelf.specs.Sink.{with_bytes}
use Rattle.fw_shelf.proofs.sink.write_all.Given as goal

-- the bytes before done were taken, and no count fell
abbrev pub invariant-loop-done : goal.invariant-loop-done
invariant-loop-done g l = record {
  within : l.done ≤ length l.piece;
  taken : g.K.Sink.taken l.sink ≡ with_bytes (g.K.Sink.taken l.initial.sink) (take l.done l.piece);
  becomes : g.K.Sink.becomes l.initial.sink l.sink;
  faults : g.K.Sink.faults l.initial.sink ≤ g.K.Sink.faults l.sink;
  empty : length l.piece ≡ 0 → l.sink ≡ l.initial.sink;
}

abbrev pub decreases-loop-done : goal.decreases-loop-done
decreases-loop-done g l = length l.piece - l.done
