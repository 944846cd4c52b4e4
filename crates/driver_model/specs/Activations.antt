-- Activations of ConnectController and DisconnectController (UEFI 2.8, 7.3): each is paid and has an event, whether
-- a command or a driver asks for it.
use Rattle.std.specs.Prelude.{ℕ, Bool, false, nat_lt, not}
use Rattle.fw_types.specs.Status.{is_error}
use Rattle.fw_types.specs.declared.event.EventKind.{EventKind}
use Rattle.fw_types.specs.declared.event.Outcome.{Outcome}
use Rattle.fw_types.specs.declared.event.Outcome.TheVariants.{Value, Trapped}
use Rattle.fw_types.specs.declared.limits.TheConstants.{CALL_PRICE}
use Rattle.fw_types.specs.declared.status.Status.{Status}
use Rattle.world_model.specs.Events.{next_serial}
use Rattle.driver_model.specs.Moves.{Operations, pays, begins_event, ends_event}
use Rattle.driver_model.specs.declared.call.Scope.{Scope}

-- whether a driver call succeeded: its value has bit 63 clear
abbrev pub is_success : Outcome → Bool
is_success (Value status) = not (is_error status)
is_success (Trapped cause) = false

module _ {S : Type 0} (o : Operations S) where
  -- whether fewer units are left than an activation, a driver call or a thunk costs
  abbrev pub is_short : S → Bool
  is_short w = nat_lt (o.see w).hard.units CALL_PRICE

  -- the scope inside the event that begins next
  abbrev pub next_scope : S → Scope
  next_scope w = record { event = next_serial (o.see w).hard }

  -- the price is paid, and the event begins
  abbrev pub activation_begun : Scope → EventKind → (driver controller extra : ℕ) → S → S
  activation_begun scope kind driver controller extra w =
      o.make (begins_event scope.event kind driver controller extra) (o.make (pays CALL_PRICE) w)

  -- the event ends with the status
  abbrev pub activation_ended : (serial : ℕ) → Status × S → Status × S
  activation_ended serial r = (r.0, o.make (ends_event serial (Value r.0)) r.1)
