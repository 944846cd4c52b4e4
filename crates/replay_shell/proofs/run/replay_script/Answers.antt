use Rattle.std.proofs.Common.{◌≡◌, Err, rules}
use Rattle.replay_shell.proofs.ReplayLemmas.{EndsWith-stopped}
use Rattle.replay_shell.proofs.run.replay_script.Goals as goal

pub returns-in_err-replay-clause-taken : goal.returns-in_err-replay-clause-taken
returns-in_err-replay-clause-taken g c = λ files known.
    let stopped : c.from_residual.result ≡ Err c.in_err-replay.field-0.0 = search rules in
    rw stopped (EndsWith-stopped files c.args.script.now c.in_err-replay.field-0.0 _ _ (c.in_err-replay.ensures.taken files known))
