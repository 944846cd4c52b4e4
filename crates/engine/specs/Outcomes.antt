-- What several uninstalls come to, as far as it counts: if one is refused, the soft part is put back afterwards, so what it is
-- until then does not matter (UEFI 2.8, 7.3: UninstallMultipleProtocolInterfaces).
use Rattle.std.specs.Prelude.{◌≡◌, Bool, true, false, List, drop}
use Rattle.world_model.specs.World.{State}
use Rattle.service_model.specs.declared.call.HandleInterface.{HandleInterface}
use Rattle.driver_model.specs.EarlyRefusal.{IsRefused}

-- a state with the units, events and devices that they end with, and if all succeeded, with the soft part too
pub record IsOutcome (all : Bool) (w : State) (r : Bool × State) : Type 0 where
  pub answer : r.0 ≡ all
  pub hard : r.1.hard ≡ w.hard
  pub soft : all ≡ true → r.1 ≡ w

-- A state after the first of them. If that one is gone, the others go on from there. If not, one of them is refused, and
-- they end with the units, events and devices of that state.
pub record IsFirstStep (gone : Bool) (w : State) (each : List HandleInterface → State → Bool × State) (interfaces : List HandleInterface) (before : State) : Type 0 where
  pub goes_on : gone ≡ true → each interfaces before ≡ each (drop 1 interfaces) w
  pub ends : gone ≡ false → IsRefused w.hard (each interfaces before)
