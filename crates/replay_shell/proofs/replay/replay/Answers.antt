use Rattle.std.proofs.Common.{◌≡◌, List, ℕ, Err, ap, rules, subst, ◌∙◌}
use Rattle.std.proofs.lemmas.Result.{err_from_is_err_and}
use Rattle.fw_types.specs.declared.command.Command.{Command}
use Rattle.fw_shelf.specs.Sink.{TakesProperPrefix, with_bytes}
use Rattle.bind_engine.specs.Machine.{MachineView}
use Rattle.replay_shell.specs.declared.replay.Stop.TheVariants.{Sink}
use Rattle.replay_shell.specs.Headline.{opening_text}
use Rattle.replay_shell.specs.Replay.{TakesTurns}
use Rattle.replay_shell.proofs.ReplayLemmas.{commands-end, notes-stopped, nothing-taken}
use Rattle.replay_shell.proofs.replay.replay.Goals as goal

-- the machine did not begin
pub returns-in_err-machine-clause-taken : goal.returns-in_err-machine-clause-taken
returns-in_err-machine-clause-taken g c = λ files known.
    let stopped : c.from_residual.result ≡ Err c.in_err-machine.field-0.0 = search rules in
    rw stopped (nothing-taken files c.args.script.now c.in_err-machine.field-0.0 _ c.in_err-machine.ensures.no_sink)

-- a prefix of the notes was written
pub returns-in_err-write_all-clause-taken : goal.returns-in_err-write_all-clause-taken
returns-in_err-write_all-clause-taken g c = λ files known.
    let exit = err_from_is_err_and c.from_residual-in_err-write_all.result c.from_residual-in_err-write_all.ensures.1 in
    let stopped : c.from_residual-in_err-write_all.result ≡ Err Sink = exit.1 ∙ ap Err exit.2 in
    let written : c.as_bytes.result.now ≡ opening_text files c.args.script.now = c.as_bytes.ensures.value ∙ c.in_ok-machine.ensures.notes files known in
    rw stopped (notes-stopped files c.args.script.now _ _
    (subst (λ (text : List ℕ). TakesProperPrefix (g.K.Sink.taken c.args.sink.now) text (g.K.Sink.taken c.write_all.new.sink)) written c.in_err-write_all.ensures.prefix))

-- the notes were written, and then the texts of the commands
pub returns-clause-taken : goal.returns-clause-taken
returns-clause-taken g c = λ files known.
    let written : c.as_bytes.result.now ≡ opening_text files c.args.script.now = c.as_bytes.ensures.value ∙ c.in_ok-machine.ensures.notes files known in
    let took = c.take_turns.ensures.taken files (c.boot.ensures.same_files ∙ known) in
    commands-end files c.args.script.now c.take_turns.result _ _ _ (c.in_ok-write_all.ensures.ok ∙ ap (with_bytes (g.K.Sink.taken c.args.sink.now)) written)
    (subst (λ (machine : MachineView). TakesTurns files machine c.args.script.now.commands c.take_turns.result (g.K.Sink.taken c.write_all.new.sink) (g.K.Sink.taken c.take_turns.new.sink)) (c.in_ok-machine.ensures.machine files known)
    (subst (λ (commands : List Command). TakesTurns files c.in_ok-machine.machine commands c.take_turns.result (g.K.Sink.taken c.write_all.new.sink) (g.K.Sink.taken c.take_turns.new.sink)) c.as_slice.ensures took))
