-- The next level, as an activation, a run or a driver call of a level sees it. A driver call, a thunk and the
-- connection of a child go to the next level, and there are 32 of them.
use Rattle.std.specs.Prelude.{ℕ, List}
use Rattle.fw_types.specs.declared.event.Outcome.{Outcome}
use Rattle.fw_types.specs.declared.status.Status.{Status}
use Rattle.driver_model.specs.declared.call.Call.{Call}
use Rattle.driver_model.specs.declared.call.RunEnd.{RunEnd}
use Rattle.driver_model.specs.declared.call.Scope.{Scope}

pub record Level (S : Type 0) : Type 0 where
  -- the number of the level, from 1
  pub number : ℕ
  -- a driver call, with the children that a Stop is given
  pub call : Scope → Call → (children : List ℕ) → S → Outcome × S
  -- the connection of a child: no context, no path, and its children too
  pub connect : Scope → (controller : ℕ) → S → Status × S
  -- the code that a thunk enters, with these arguments
  pub thunk : Scope → (entry : ℕ) → (slots : List ℕ) → S → RunEnd × S
