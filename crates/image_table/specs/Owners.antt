-- Whose code is at an address.
use Rattle.std.specs.Prelude.{ℕ, Option}
use Rattle.world_model.specs.World.{Soft}
use Rattle.world_model.specs.Images.{image_at}

-- the image whose bytes the address lies in
abbrev pub owner_of : ℕ → Soft → Option ℕ
owner_of at soft = image_at at soft
