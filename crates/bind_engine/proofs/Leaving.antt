-- What a command's drivers leave: what they spend and what stays, by the laws of the definition that the code computes.
-- And the world is idle again.
use Rattle.std.proofs.Common.{◌≡◌, ◌∙◌, subst}
use Rattle.std.specs.Prelude.{Result, Ok, Err, IfOk, OnOk}
use Rattle.fw_types.specs.declared.memory.OutOfMemory.{OutOfMemory}
use Rattle.fw_types.specs.declared.status.Status.{Status}
use Rattle.world_model.specs.World.{State, WorldView}
use Rattle.world_model.specs.Marks.{stacks}
use Rattle.bind_parts.specs.declared.loading.ImageLoad.{ImageLoad}
use Rattle.driver_model.specs.ImageLife.{Load}
use Rattle.driver_model.specs.Spending.{Spends}
use Rattle.driver_model.specs.Staying.{NoPathStays, Stays}
use Rattle.bind_engine.specs.Machine.{IsIdle}

-- ---- activations

pub done-spends : (result : Result Status OutOfMemory) (run : Status × State) (old new : State) → IfOk result (λ status. run ≡ (status, new)) → Spends old.hard run.1.hard
    → OnOk result (Spends old.hard new.hard)
done-spends (Ok status) run old new done spends = subst (λ (r : Status × State). Spends old.hard r.1.hard) done spends
done-spends (Err error) run old new done spends = tt

pub done-stays : (result : Result Status OutOfMemory) (run : Status × State) (old new : State) → IfOk result (λ status. run ≡ (status, new)) → Stays old.soft run.1.soft
    → OnOk result (Stays old.soft new.soft)
done-stays (Ok status) run old new done stays = subst (λ (r : Status × State). Stays old.soft r.1.soft) done stays
done-stays (Err error) run old new done stays = tt

-- ---- idle again

idle_after : (old new : WorldView) → NoPathStays → IsIdle old → new.marks ≡ old.marks → stacks new.now.soft ≡ stacks old.now.soft → Stays old.now.soft new.now.soft → IsIdle new
idle_after old new paths idle marks same stays = record {
  rest = record { no_stack = same ∙ idle.rest.no_stack; no_mark = marks ∙ idle.rest.no_mark };
  no_path = paths old.now.soft new.now.soft stays idle.no_path;
}

pub done-idle : {T : Type 0} (result : Result T OutOfMemory) (old new : WorldView) → NoPathStays → IsIdle old → OnOk result (new.marks ≡ old.marks) → OnOk result (stacks new.now.soft ≡ stacks old.now.soft)
    → OnOk result (Stays old.now.soft new.now.soft) → OnOk result (IsIdle new)
done-idle (Ok value) old new paths idle marks same stays = idle_after old new paths idle marks same stays
done-idle (Err error) old new paths idle marks same stays = tt

-- ---- loads

pub loaded-spends : (result : Result ImageLoad OutOfMemory) (run : Load State) (old new : State)
    → IfOk result (λ load. run ≡ record { note = load.note; status = load.status; world = new }) → Spends old.hard run.world.hard → OnOk result (Spends old.hard new.hard)
loaded-spends (Ok load) run old new done spends = subst (λ (r : Load State). Spends old.hard r.world.hard) done spends
loaded-spends (Err error) run old new done spends = tt

pub loaded-stays : (result : Result ImageLoad OutOfMemory) (run : Load State) (old new : State)
    → IfOk result (λ load. run ≡ record { note = load.note; status = load.status; world = new }) → Stays old.soft run.world.soft → OnOk result (Stays old.soft new.soft)
loaded-stays (Ok load) run old new done stays = subst (λ (r : Load State). Stays old.soft r.world.soft) done stays
loaded-stays (Err error) run old new done stays = tt
