use Rattle.std.proofs.Common.{◌≡◌, IfOk, subst}
use Rattle.ebc_machine.specs.Step.{Stepped}
use Rattle.ebc_machine.proofs.PutBackLemmas.{ended-step, err-back}
use Rattle.ebc_machine.proofs.run.step.Goals as goal

pub returns-in-Ok-clause-step : goal.returns-in-Ok-clause-step
returns-in-Ok-clause-step g c =
    subst (λ (s : Stepped). IfOk c.carry_out.result (λ out. s ≡ record { out = out; cpu = c.carry_out.new.cpu; segments = g.M.GuestMem.segments c.carry_out.new.mem }))
    (ended-step c.args.cpu.now c.next_rest.new.cpu (g.M.GuestMem.segments c.args.mem.now) c.in-Ok.rest c.if-cpu-eq-EXIT.false c.in-Ok.ensures.plan)
    c.carry_out.ensures.step

pub returns-in-Ok-clause-err : goal.returns-in-Ok-clause-err
returns-in-Ok-clause-err g c =
    err-back c.carry_out.result c.args.cpu.now c.next_rest.new.cpu c.carry_out.new.cpu (g.M.GuestMem.segments c.args.mem.now) c.in-Ok.rest _ c.in-Ok.ensures.plan c.carry_out.ensures.err
