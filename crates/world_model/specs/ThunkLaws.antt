-- Thunks and images: which thunk is found, what it enters, and with which image it is removed.
use Rattle.std.specs.Prelude.{◌≡◌, ℕ, Bool, true, false, not, nat_eq, filter, Option, Some, None, is_some}
use Rattle.world_model.specs.declared.thunk.Thunk.{Thunk}
use Rattle.world_model.specs.World.{Soft}
use Rattle.world_model.specs.Thunks.{thunk_address, thunk_at, thunk_made}
use Rattle.world_model.specs.Images.{image_at, image_dropped, image_of}
use Rattle.world_model.specs.Kept.{IsKept}

-- a thunk that is made is found at its address
abbrev pub MadeIsFound : Type 0
MadeIsFound = (soft : Soft) (entry : ℕ) → IsKept soft → thunk_at (thunk_address soft.next_thunk) (thunk_made entry soft) ≡ Some entry

-- and those of other addresses stay
abbrev pub MakingKeepsOthers : Type 0
MakingKeepsOthers =
    (soft : Soft) (entry at : ℕ) → nat_eq (thunk_address soft.next_thunk) at ≡ false → thunk_at at (thunk_made entry soft) ≡ thunk_at at soft

-- what a live thunk enters lies in an image
abbrev pub ThunkEntersImage : Type 0
ThunkEntersImage = (soft : Soft) (at entry : ℕ) → IsKept soft → thunk_at at soft ≡ Some entry → is_some (image_at entry soft) ≡ true

-- whether an image is that of a handle
abbrev pub is_image_handle : ℕ → Option ℕ → Bool
is_image_handle handle None = false
is_image_handle handle (Some image) = nat_eq image handle

-- an image that is dropped takes along the thunks that enter it, and no others
abbrev pub DroppingTakesThunks : Type 0
DroppingTakesThunks =
    (soft : Soft) (handle : ℕ) → IsKept soft → is_some (image_of handle soft.images) ≡ true
    → (image_dropped handle soft).thunks ≡ filter (λ (thunk : Thunk). not (is_image_handle handle (image_at thunk.entry soft))) soft.thunks
