use Rattle.std.proofs.Common.{◌≡◌, ℕ, true, Result, Ok, Err, IfOk, sym}
use Rattle.world_model.specs.World.{State}
use Rattle.service_model.specs.Allowed.{ConnectIsAllowed, is_allowed}
use Rattle.service_model.specs.Connecting.{connect_controller}
use Rattle.service_model.specs.declared.plan.Change.{Change}
use Rattle.service_model.specs.declared.plan.Stop.{Stop}
use Rattle.leaf_services.proofs.connect_tests.connect_row.Goals as goal

allowed : ConnectIsAllowed → (controller list path recursive : ℕ) (w : State) (change : Result Change Stop) → change ≡ connect_controller controller list path recursive w → IfOk change (λ change. is_allowed change w ≡ true)
allowed law controller list path recursive w (Ok change) is = law controller list path recursive w change (sym is)
allowed law controller list path recursive w (Err stop) is = tt

pub returns : goal.returns
returns c =
    allowed c.reentries_change_nothing.ensures.allowed 4 c.args.list c.args.path c.args.recursive c.args.world.now.now c.connect_controller.result c.connect_controller.ensures
