-- No service goes on, except those that may, and no second look of an open does.
use Rattle.std.proofs.Common.{◌≡◌, false, sym, ap, ◌∙◌}
use Rattle.std.specs.Prelude.{Result, Ok, Err, IfOk}
use Rattle.fw_types.specs.declared.memory.OutOfMemory.{OutOfMemory}
use Rattle.service_thunks.specs.declared.service.Service.{Service}
use Rattle.world_model.specs.World.{State}
use Rattle.service_model.specs.BootServices.{served}
use Rattle.service_model.specs.Untouched.{OthersEnd, goes_on, may_go_on}
use Rattle.service_model.specs.SecondLook.{SecondLooksEnd, looked_again}
use Rattle.service_model.specs.declared.call.Caller.{Caller}
use Rattle.service_model.specs.declared.call.Opening.{Opening}
use Rattle.service_model.specs.declared.call.Served.{Served}

pub ends_by : OthersEnd → (s : Service) (c : Caller) (w new : State) (result : Result Served OutOfMemory) → IfOk result (λ answer. served s c w ≡ (answer, new))
    → IfOk result (λ answer. may_go_on s ≡ false → goes_on answer ≡ false)
ends_by law s c w new (Ok answer) is = λ other. sym (ap (λ (end : Served × State). goes_on end.0) is) ∙ law s c w other
ends_by law s c w new (Err error) is = tt

pub look_ends : SecondLooksEnd → (o : Opening) (w new : State) (result : Result Served OutOfMemory) → IfOk result (λ answer. looked_again o w ≡ (answer, new))
    → IfOk result (λ answer. goes_on answer ≡ false)
look_ends law o w new (Ok answer) is = sym (ap (λ (end : Served × State). goes_on end.0) is) ∙ law o w
look_ends law o w new (Err error) is = tt
