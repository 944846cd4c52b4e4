-- A run of a driver's code (UEFI 2.8, chapter 22 'EFI Byte Code Virtual Machine'): turns, one after the other, until
-- one ends the run. At the exit address the run is done, with the value of R7 and at no cost. Each instruction costs a
-- unit, even one that traps.
use Rattle.std.specs.Prelude.{ℕ, zero, suc, nat_eq, Option, Some, None, slice_index, if◌then◌else◌}
use Rattle.fw_types.specs.declared.event.Cause.TheVariants.{Budget}
use Rattle.fw_types.specs.declared.event.Outcome.TheVariants.{Trapped}
use Rattle.guest_memory.specs.declared.address_map.TheConstants.{EXIT}
use Rattle.ebc_machine.specs.Step.{stepped}
use Rattle.ebc_machine.specs.declared.cpu.Cpu.{Cpu}
use Rattle.ebc_machine.specs.declared.cpu.StepOut.{StepOut}
use Rattle.ebc_machine.specs.declared.cpu.StepOut.TheVariants.{Next, Native, MakeThunk, Done, Trap}
use Rattle.world_model.specs.Images.{image_at}
use Rattle.driver_model.specs.Moves.{Operations, pays, steps}
use Rattle.driver_model.specs.Level.{Level}
use Rattle.driver_model.specs.NativeCalls.{callee, native_called}
use Rattle.driver_model.specs.ThunkRequests.{thunk_requested}
use Rattle.driver_model.specs.Turn.{Turn, ends, goes_on, traps}
use Rattle.driver_model.specs.declared.call.RunEnd.{RunEnd}
use Rattle.driver_model.specs.declared.call.RunEnd.TheVariants.{Returned, Over}
use Rattle.driver_model.specs.declared.call.Scope.{Scope}
use Rattle.driver_model.specs.declared.settings.Settings.{Settings}

-- the end of a run that is done
abbrev pub exit_of : Cpu → RunEnd
exit_of cpu = Returned (slice_index cpu.r 7)

module _ {S : Type 0} (o : Operations S) where
  -- ---- a turn

  -- what an instruction comes to, by what it asks for; `at` is its address
  abbrev pub acted : Settings → Option (Level S) → Scope → (level at : ℕ) → StepOut → Cpu → S → Turn S
  acted settings below scope level at Next cpu w = goes_on cpu w
  acted settings below scope level at Done cpu w = ends (exit_of cpu) cpu w
  acted settings below scope level at (Trap cause) cpu w = traps cause cpu w
  acted settings below scope level at (Native target) cpu w =
      native_called o settings below scope level (callee target (o.see w).soft) (image_at at (o.see w).soft) cpu w
  acted settings below scope level at (MakeThunk place) cpu w = thunk_requested o place cpu w

  abbrev pub after_step : Settings → Option (Level S) → Scope → (level : ℕ) → Cpu → S → Turn S
  after_step settings below scope level cpu w =
      let step = stepped cpu (o.see w).soft.memory in
      acted settings below scope level cpu.ip step.out step.cpu (o.make (steps cpu) w)

  unfoldable pub turn : Settings → Option (Level S) → Scope → (level : ℕ) → Cpu → S → Turn S
  turn settings below scope level cpu w =
      if nat_eq cpu.ip EXIT then ends (exit_of cpu) cpu w
      else if nat_eq (o.see w).hard.units 0 then traps Budget cpu w
      else after_step settings below scope level cpu (o.make (pays 1) w)

  -- ---- the run

  abbrev pub unless_over : Option RunEnd → (Cpu → S → RunEnd × S) → Cpu → S → RunEnd × S
  unless_over None go_on cpu w = go_on cpu w
  unless_over (Some end) go_on cpu w = (end, w)

  abbrev pub after_turn : (Cpu → S → RunEnd × S) → Turn S → RunEnd × S
  after_turn go_on t = unless_over t.end go_on t.cpu t.world

  -- at most so many turns
  unfoldable pub turns : (fuel : ℕ) → Settings → Option (Level S) → Scope → (level : ℕ) → Cpu → S → RunEnd × S
  turns zero settings below scope level cpu w = (Over (Trapped Budget), w)
  turns (suc fuel) settings below scope level cpu w = after_turn (turns fuel settings below scope level) (turn settings below scope level cpu w)

  -- all turns: each turn except the last costs a unit, so there are at most as many turns as units left, plus one
  unfoldable pub run : Settings → Option (Level S) → Scope → (level : ℕ) → Cpu → S → RunEnd × S
  run settings below scope level cpu w = turns (suc (o.see w).hard.units) settings below scope level cpu w
