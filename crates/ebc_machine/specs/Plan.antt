-- What an instruction does.
use Rattle.std.specs.Prelude.{Option, Result, Ok, Err}
use Rattle.fw_types.specs.declared.event.Cause.{Cause}
use Rattle.ebc_machine.specs.declared.cpu.Cpu.{Cpu}
use Rattle.ebc_machine.specs.declared.cpu.Request.{Request}
use Rattle.ebc_machine.specs.declared.cpu.Rest.{Rest}
use Rattle.ebc_machine.specs.declared.cpu.Store.{Store}

-- the registers after it, at most one write, and what it asks for
pub record Plan : Type 0 where
  pub cpu : Cpu
  pub store : Option Store
  pub request : Request

-- the plan whose registers are computed, with what is left to do
abbrev pub with_rest : Cpu → Rest → Plan
with_rest cpu rest = record { cpu = cpu; store = rest.store; request = rest.request }

-- the same, or the cause of a trap
abbrev pub plan_result : Cpu → Result Rest Cause → Result Plan Cause
plan_result cpu (Ok rest) = Ok (with_rest cpu rest)
plan_result cpu (Err cause) = Err cause
