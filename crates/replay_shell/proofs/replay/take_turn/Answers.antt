use Rattle.std.proofs.Common.{◌≡◌, ℕ, List, Err, refl, sym, ap, subst, ◌∙◌}
use Rattle.std.proofs.lemmas.Result.{err_from_is_err_and}
use Rattle.fw_types.specs.declared.reply.Reply.{Reply}
use Rattle.fw_shelf.specs.Sink.{TakesProperPrefix, with_bytes}
use Rattle.report_text.specs.Report.{reply_text}
use Rattle.bind_engine.specs.Machine.{MachineView}
use Rattle.bind_engine.specs.Commands.{exec}
use Rattle.replay_shell.specs.declared.replay.Stop.TheVariants.{Memory, Sink}
use Rattle.replay_shell.specs.Replay.{text_of}
use Rattle.replay_shell.proofs.replay.take_turn.Goals as goal

-- out of memory: nothing was written
pub returns-in_err-text-clause-taken : goal.returns-in_err-text-clause-taken
returns-in_err-text-clause-taken g c = λ files known.
    let exit = err_from_is_err_and c.from_residual-in_err-text.result c.from_residual-in_err-text.ensures.1 in
    let stopped : c.from_residual-in_err-text.result ≡ Err Memory = exit.1 ∙ ap Err exit.2 in
    rw stopped refl

-- what was written is a prefix of the command's text
pub returns-in_err-write_all-clause-taken : goal.returns-in_err-write_all-clause-taken
returns-in_err-write_all-clause-taken g c = λ files known.
    let exit = err_from_is_err_and c.from_residual-in_err-write_all.result c.from_residual-in_err-write_all.ensures.1 in
    let stopped : c.from_residual-in_err-write_all.result ≡ Err Sink = exit.1 ∙ ap Err exit.2 in
    let written : c.as_bytes.result.now ≡ text_of files c.args.machine c.args.command.now =
    c.as_bytes.ensures.value ∙ c.in_ok-text.ensures ∙ ap (λ (done : Reply × MachineView). reply_text c.args.command.now done.0) (sym (c.in_ok-machine.ensures.done files known)) in
    rw stopped (subst (λ (text : List ℕ). TakesProperPrefix (g.K.Sink.taken c.args.sink.now) text (g.K.Sink.taken c.write_all.new.sink)) written c.in_err-write_all.ensures.prefix)

-- the whole of it was written
pub returns-clause-taken : goal.returns-clause-taken
returns-clause-taken g c = λ files known.
    let did : exec c.args.command.now files c.args.machine ≡ (c.in_ok-machine.reply, c.in_ok-machine.machine) = c.in_ok-machine.ensures.done files known in
    let written : c.as_bytes.result.now ≡ text_of files c.args.machine c.args.command.now =
    c.as_bytes.ensures.value ∙ c.in_ok-text.ensures ∙ ap (λ (done : Reply × MachineView). reply_text c.args.command.now done.0) (sym did) in
    (ap (λ (done : Reply × MachineView). done.1) (sym did), c.in_ok-write_all.ensures.ok ∙ ap (with_bytes (g.K.Sink.taken c.args.sink.now)) written)
