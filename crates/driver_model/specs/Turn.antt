-- What a turn of a run comes to: one instruction, with all that it asks for.
use Rattle.std.specs.Prelude.{Option, Some, None}
use Rattle.fw_types.specs.declared.event.Cause.{Cause}
use Rattle.fw_types.specs.declared.event.Outcome.TheVariants.{Trapped}
use Rattle.ebc_machine.specs.declared.cpu.Cpu.{Cpu}
use Rattle.driver_model.specs.declared.call.RunEnd.{RunEnd}
use Rattle.driver_model.specs.declared.call.RunEnd.TheVariants.{Over}

-- how the run ends, if it does, and the registers and the machine after the turn
pub record Turn (S : Type 0) : Type 0 where
  pub end : Option RunEnd
  pub cpu : Cpu
  pub world : S

abbrev pub goes_on : {S : Type 0} → Cpu → S → Turn S
goes_on cpu w = record { end = None; cpu = cpu; world = w }

abbrev pub ends : {S : Type 0} → RunEnd → Cpu → S → Turn S
ends end cpu w = record { end = Some end; cpu = cpu; world = w }

-- a trap ends the driver call in which the run is
abbrev pub traps : {S : Type 0} → Cause → Cpu → S → Turn S
traps cause cpu w = ends (Over (Trapped cause)) cpu w
