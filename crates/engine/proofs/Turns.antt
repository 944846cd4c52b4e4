-- What a turn does by its step, and which levels are below a level.
use Rattle.std.proofs.Common.{◌≡◌, ℕ, ◌-◌, ◌<◌, zero, suc, false, nat_eq, nat_lt, refl, sym, ap, ◌∙◌, arith}
use Rattle.std.specs.Prelude.{Option, Some, Result, Ok, Err, IfOk}
use Rattle.fw_types.specs.declared.event.Cause.TheVariants.{Nest}
use Rattle.fw_types.specs.declared.limits.TheConstants.{CALL_PRICE}
use Rattle.fw_types.specs.declared.memory.OutOfMemory.{OutOfMemory}
use Rattle.guest_memory.specs.declared.address_map.TheConstants.{EXIT}
use Rattle.ebc_machine.specs.Step.{stepped}
use Rattle.ebc_machine.specs.declared.cpu.Cpu.{Cpu}
use Rattle.ebc_machine.specs.declared.cpu.StepOut.{StepOut}
use Rattle.world_model.specs.World.{State}
use Rattle.driver_model.specs.Moves.{changed, pays, plain, steps}
use Rattle.driver_model.specs.Level.{Level}
use Rattle.driver_model.specs.Turn.{traps}
use Rattle.driver_model.specs.GuestRun.{acted, after_step, turn}
use Rattle.driver_model.specs.NativeCalls.{thunk_called, thunk_entered}
use Rattle.driver_model.specs.Levels.{below}
use Rattle.driver_model.specs.declared.call.Scope.{Scope}
use Rattle.driver_model.specs.declared.settings.Settings.{Settings}
use Rattle.engine.specs.AtLevel.{level_at, level_below}

-- ---- an answer by another equation

pub through : {A B : Type 0} (result : Result A OutOfMemory) (f : A → B) (one other : B) → one ≡ other → IfOk result (λ a. other ≡ f a) → IfOk result (λ a. one ≡ f a)
through (Ok a) f one other is same = is ∙ same
through (Err error) f one other is same = tt

-- ---- a turn that takes a step

module _ (s : Settings) (b : Option (Level State)) (scope : Scope) (level : ℕ) where
  turn_paid : (cpu : Cpu) (w : State) → nat_eq cpu.ip EXIT ≡ false → nat_eq w.hard.units 0 ≡ false
      → turn plain s b scope level cpu w ≡ after_step plain s b scope level cpu (changed (pays 1) w)
  unfolding turn
  turn_paid cpu w elsewhere some = rw (elsewhere, some) refl

  step_acted : (cpu : Cpu) (paid : State) (out : StepOut) (next : Cpu) (left : State)
      → (stepped cpu paid.soft.memory).out ≡ out → (stepped cpu paid.soft.memory).cpu ≡ next → changed (steps cpu) paid ≡ left
      → after_step plain s b scope level cpu paid ≡ acted plain s b scope level cpu.ip out next left
  step_acted cpu paid out next left is-out is-cpu moves = rw (← is-out, ← is-cpu, ← moves) refl

  pub turn_taken : (cpu : Cpu) (w paid : State) (out : StepOut) (next : Cpu) (left : State)
      → nat_eq cpu.ip EXIT ≡ false → nat_eq w.hard.units 0 ≡ false → paid ≡ changed (pays 1) w
      → (stepped cpu paid.soft.memory).out ≡ out → (stepped cpu paid.soft.memory).cpu ≡ next → changed (steps cpu) paid ≡ left
      → turn plain s b scope level cpu w ≡ acted plain s b scope level cpu.ip out next left
  turn_taken cpu w paid out next left elsewhere some paying is-out is-cpu moves =
      turn_paid cpu w elsewhere some
      ∙ ap (after_step plain s b scope level cpu) (sym paying)
      ∙ step_acted cpu paid out next left is-out is-cpu moves

-- ---- levels

pub next_level : (s : Settings) (room : ℕ) → 0 < room → level_below s room ≡ Some (level_at s (room - 1))
unfolding below
next_level s zero some = absurd (omega (arith, some))
next_level s (suc room) some = let one : suc room - 1 ≡ room = omega arith in rw one refl

pub thunk_is : (s : Settings) (room : ℕ) (scope : Scope) (entry : ℕ) (cpu : Cpu) (w paid : State) → 0 < room → nat_lt w.hard.units CALL_PRICE ≡ false
    → paid ≡ changed (pays CALL_PRICE) w
    → thunk_called plain (level_below s room) scope entry cpu w ≡ thunk_entered plain (Some (level_at s (room - 1))) scope entry cpu paid
thunk_is s room scope entry cpu w paid some enough paying = rw (enough, next_level s room some, paying) refl

-- at the last level a thunk is paid for, and then it traps
pub thunk_nests : (s : Settings) (room : ℕ) (scope : Scope) (entry : ℕ) (cpu : Cpu) (w paid : State) → room ≡ 0 → nat_lt w.hard.units CALL_PRICE ≡ false
    → paid ≡ changed (pays CALL_PRICE) w → thunk_called plain (level_below s room) scope entry cpu w ≡ traps Nest cpu paid
unfolding below
thunk_nests s room scope entry cpu w paid last enough paying = rw (last, enough, paying) refl
