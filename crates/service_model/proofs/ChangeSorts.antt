-- Sorts of changes that rows end with: changes that can be applied, and that leave the task priority level and
-- all devices.
use Rattle.std.proofs.Common.{◌≡◌, ℕ, Bool, true, false, ◌||◌}
use Rattle.std.specs.Prelude.{Ok}
use Rattle.std.proofs.lemmas.Bool.{or_parts}
use Rattle.fw_types.specs.declared.event.Cause.TheVariants.{Memory}
use Rattle.guest_memory.specs.GuestMemory.{is_readable, is_writable_range}
use Rattle.world_model.specs.World.{State}
use Rattle.service_model.specs.Words.{readable, writable}
use Rattle.service_model.specs.Allowed.{goes_again, is_allowed}
use Rattle.service_model.specs.declared.plan.Change.{Change}
use Rattle.service_model.specs.declared.plan.Change.TheVariants.{SetCommand, SetTpl, WriteDevice}
use Rattle.service_model.specs.declared.plan.Stop.TheVariants.{Trap}
use Rattle.service_model.proofs.RowLines.{not-stopped}

-- whether a change sets the level
abbrev pub is_of_tpl : Change → Bool
is_of_tpl (SetTpl tpl answer) = true
is_of_tpl _ = false

-- whether it writes a device
abbrev pub is_of_device : Change → Bool
is_of_device (WriteDevice t) = true
is_of_device (SetCommand function command) = true
is_of_device _ = false

-- whether it does one of the two
abbrev pub is_apart : Change → Bool
is_apart change = is_of_tpl change || is_of_device change

pub not-tpl : (change : Change) → is_apart change ≡ false → is_of_tpl change ≡ false
not-tpl change is = (or_parts (is_of_tpl change) (is_of_device change) is).0

pub not-device : (change : Change) → is_apart change ≡ false → is_of_device change ≡ false
not-device change is = (or_parts (is_of_tpl change) (is_of_device change) is).1

-- a change that can be applied and does neither
abbrev pub Applies : State → Change → Type 0
Applies w change = (is_allowed change w ≡ true) × (is_apart change ≡ false)

-- and does not go on
abbrev pub Fine : State → Change → Type 0
Fine w change = (is_allowed change w ≡ true) × (is_apart change ≡ false) × (goes_again change ≡ false)

-- one that can be applied, leaves the level and does not go on, whether it writes a device or not
abbrev pub FineOnBoard : State → Change → Type 0
FineOnBoard w change = (is_allowed change w ≡ true) × (is_of_tpl change ≡ false) × (goes_again change ≡ false)

-- ---- what is known after a line that did not stop

pub can-write : (n at : ℕ) (w : State) → writable n at w ≡ Ok tt → is_writable_range w.soft.memory at n ≡ true
can-write n at w is = not-stopped (is_writable_range w.soft.memory at n) (Trap Memory) is

pub can-read : (n at : ℕ) (w : State) → readable n at w ≡ Ok tt → is_readable w.soft.memory at n ≡ true
can-read n at w is = not-stopped (is_readable w.soft.memory at n) (Trap Memory) is
