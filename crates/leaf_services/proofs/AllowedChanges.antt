-- A row ends with a change that is allowed. So does the second look of an open.
use Rattle.std.proofs.Common.{◌≡◌, ℕ, List, true, Result, Ok, Err, IfOk, sym}
use Rattle.service_thunks.specs.declared.service.Service.{Service}
use Rattle.world_model.specs.World.{State}
use Rattle.service_model.specs.Allowed.{RowsAreAllowed, is_allowed}
use Rattle.service_model.specs.BootServices.{row}
use Rattle.service_model.specs.SecondLook.{SecondLooksAreAllowed, second_look}
use Rattle.service_model.specs.declared.call.Caller.{Caller}
use Rattle.service_model.specs.declared.call.Opening.{Opening}
use Rattle.service_model.specs.declared.plan.Change.{Change}
use Rattle.service_model.specs.declared.plan.Stop.{Stop}

pub change_is_allowed : (law : RowsAreAllowed) (s : Service) (c : Caller) (a : List ℕ) (w : State) (change : Result Change Stop) → change ≡ (row s).rest c a w → IfOk change (λ change. is_allowed change w ≡ true)
change_is_allowed law s c a w (Ok change) is = law s c a w change (sym is)
change_is_allowed law s c a w (Err stop) is = tt

pub look_is_allowed : (law : SecondLooksAreAllowed) (o : Opening) (w : State) (change : Result Change Stop) → change ≡ second_look o w → IfOk change (λ change. is_allowed change w ≡ true)
look_is_allowed law o w (Ok change) is = law o w change (sym is)
look_is_allowed law o w (Err stop) is = tt
