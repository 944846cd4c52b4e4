-- An image is found under its handle once it is added.
use Rattle.std.specs.Prelude.{◌≡◌, ℕ, ◌+◌, List, Some}
use Rattle.world_model.specs.World.{Soft}
use Rattle.world_model.specs.Images.{entry_of, image_added}
use Rattle.world_model.specs.Kept.{IsKept}

-- the image of the new handle has its entry point at an offset from its beginning
abbrev pub AddedIsFound : Type 0
AddedIsFound =
    (soft : Soft) (bytes : List ℕ) (entry subsystem device : ℕ) → IsKept soft
    → entry_of soft.database.next (image_added bytes entry subsystem device soft) ≡ Some (soft.next_image + entry)
