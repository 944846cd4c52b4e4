-- Thunks by their places, as the code reaches them.
use Rattle.std.specs.Prelude.{◌≡◌, ℕ, ◌<◌, true, List, length, slice_index_or}
use Rattle.world_model.specs.declared.thunk.Thunk.{Thunk}
use Rattle.world_model.specs.Thunks.{thunk_address}
use Rattle.world_model.specs.Kept.{numbers_rise}

-- whether thunks rise by number, up to some next one
abbrev pub DoRise : List Thunk → Type 0
DoRise thunks = (next : ℕ) × (numbers_rise 0 thunks next ≡ true)

-- the thunk of an address is at a place
pub record IsPlaceOf (at : ℕ) (thunks : List Thunk) (place : ℕ) : Type 0 where
  pub within : place < length thunks
  pub here : (other : Thunk) → thunk_address (slice_index_or thunks place other).number ≡ at
