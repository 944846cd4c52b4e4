-- The bytes of the elements of a transfer.
use Rattle.std.specs.Prelude.{ℕ, ◌*◌, Result, Ok}
use Rattle.world_model.specs.World.{State}
use Rattle.service_model.specs.Words.{◌>>◌, readable, writable}
use Rattle.service_model.specs.declared.plan.Stop.{Stop}

-- how many bytes the elements have, if they can be written
abbrev pub writable_bytes : (count size at : ℕ) → State → Result ℕ Stop
writable_bytes count size at w = writable (count * size) at w >> Ok (count * size)

-- how many bytes the elements have, if they can be read
abbrev pub readable_bytes : (count size at : ℕ) → State → Result ℕ Stop
readable_bytes count size at w = readable (count * size) at w >> Ok (count * size)
