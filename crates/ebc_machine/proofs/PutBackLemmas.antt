-- An instruction whose write is refused leaves no trace once IP and R0 are put back.
use Rattle.std.proofs.Common.{◌≡◌, ℕ, false, nat_eq, List, Option, Some, None, IsSome, OnErr, Result, Ok, Err, inl, inr, refl, ap, sym, ◌∙◌, arith}
use Rattle.std.proofs.lemmas.Bool.Decides.{nat_tests}
use Rattle.guest_memory.specs.declared.address_map.TheConstants.{EXIT}
use Rattle.guest_memory.specs.declared.segment.Segment.{Segment}
use Rattle.ebc_machine.specs.Operands.{register}
use Rattle.ebc_machine.specs.Plan.{Plan, with_rest}
use Rattle.ebc_machine.specs.PutBack.{put_back}
use Rattle.ebc_machine.specs.Step.{ended, plan_of, stepped}
use Rattle.ebc_machine.specs.declared.cpu.Cpu.{Cpu}
use Rattle.ebc_machine.specs.declared.cpu.Rest.{Rest}
use Rattle.ebc_machine.specs.declared.cpu.Store.{Store}
use Rattle.ebc_machine.proofs.PlanLemmas.{plan_is}

module _ (cpu : Cpu) (segments : List Segment) (plan : Plan) (is : plan_of cpu segments ≡ Ok plan) where
  written-back : (store : Store) → plan.store ≡ Some store → put_back plan.cpu cpu.ip (register cpu 0) ≡ cpu
  written-back store there = elim (plan_is cpu segments plan is).orderly.back [ inl no_write ↦ absurd cc | inr back ↦ back ]

  pub write-back : (store : Option Store) → plan.store ≡ store → IsSome store → put_back plan.cpu cpu.ip (register cpu 0) ≡ cpu
  write-back None there some = cc
  write-back (Some store) there some = written-back store there

  ended-back : (store : Option Store) → plan.store ≡ store → ended (put_back plan.cpu cpu.ip (register cpu 0)) segments plan store ≡ ended cpu segments plan store
  ended-back None there = refl
  ended-back (Some store) there = ap (λ (c : Cpu). ended c segments plan (Some store)) (written-back store there)

other_number : (m n : ℕ) → (m ≡ n → ⊥) → nat_eq m n ≡ false
other_number m n ne = grind (arith, nat_tests)

-- how a step ends, with the registers before it as they are put back
pub ended-step : (cpu after : Cpu) (segments : List Segment) (rest : Rest) → (cpu.ip ≡ EXIT → ⊥) → Ok (with_rest after rest) ≡ plan_of cpu segments
    → ended (put_back after cpu.ip (register cpu 0)) segments (with_rest after rest) rest.store ≡ stepped cpu segments
ended-step cpu after segments rest no_exit is = rw (other_number cpu.ip EXIT no_exit, ← is) (ended-back cpu segments (with_rest after rest) (sym is) rest.store refl)

-- after an error nothing has changed
pub err-back : {A E : Type 0} (r : Result A E) (cpu after end : Cpu) (segments : List Segment) (rest : Rest) (P : Type 0) → Ok (with_rest after rest) ≡ plan_of cpu segments
    → OnErr r (IsSome rest.store × (end ≡ put_back after cpu.ip (register cpu 0)) × P) → OnErr r ((end ≡ cpu) × P)
err-back (Ok x) cpu after end segments rest P is h = tt
err-back (Err e) cpu after end segments rest P is h = (h.1 ∙ write-back cpu segments (with_rest after rest) (sym is) rest.store refl h.0, h.2)
