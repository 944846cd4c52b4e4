use Rattle.std.proofs.Common.{◌≡◌, Err, arith, rules, ◌∙◌}
use Rattle.replay_shell.proofs.ReplayLemmas.{SoFar-end, SoFar-more, is_at, stopped-here}
use Rattle.replay_shell.proofs.replay.take_turns.Goals as goal

pub returns-in_err-machine-clause-taken : goal.returns-in_err-machine-clause-taken
returns-in_err-machine-clause-taken g c = λ files known.
    let commands = c.args.commands.now in
    let i = c.loop-command.command-index in
    let there = is_at commands i c.command-item.result c.loop-command-test.true c.command-item.is in
    let stopped : c.from_residual.result ≡ Err c.in_err-machine.field-0.0 = search rules in
    rw stopped (stopped-here files c.args.first commands i c.loop-command.machine _ _ _ c.command-item.result c.in_err-machine.field-0.0 (c.loop-command.invariant.taken files known) there (c.in_err-machine.ensures.taken files (c.loop-command.invariant.same_files ∙ known)))

pub loop-command-preserved : goal.loop-command-preserved
loop-command-preserved g c =
    let commands = c.args.commands.now in
    let i = c.loop-command.command-index in
    let there = is_at commands i c.command-item.result c.loop-command-test.true c.command-item.is in
    let before = c.loop-command.invariant in
    record {
      taken = λ files known.
          let took = c.in_ok-machine.ensures.taken files (before.same_files ∙ known) in
          SoFar-more files c.args.first commands i c.loop-command.machine c.in_ok-machine.machine _ _ _ c.command-item.result (before.taken files known) there took.0 took.1;
      same_files = c.take_turn.ensures.same_files ∙ before.same_files;
      shelf_faults = omega (arith, c.take_turn.ensures.shelf_faults);
      sink_faults = omega (arith, c.take_turn.ensures.sink_faults);
      shelf_becomes = g.met.F.Shelf.becomes_again c.args.shelf.now c.loop-command.shelf c.take_turn.new.shelf before.shelf_becomes c.take_turn.ensures.becomes.0;
      sink_becomes = g.met.K.Sink.becomes_again c.args.sink.now c.loop-command.sink c.take_turn.new.sink before.sink_becomes c.take_turn.ensures.becomes.1;
    }

pub returns-clause-taken : goal.returns-clause-taken
returns-clause-taken g c = λ files known.
    SoFar-end files c.args.first c.args.commands.now c.loop-command.command-index c.loop-command.machine _ _ c.loop-command-test.false (c.loop-command.invariant.taken files known)
