-- To add a child with the path and the option ROM of its function is to make it.
use Rattle.std.proofs.Common.{◌≡◌, ℕ, Bool, List, ap, ◌∙◌}
use Rattle.world_model.specs.World.{State, on_soft}
use Rattle.world_model.specs.NewChild.{child_added, child_made, has_rom, path_below}

pub made_by : (controller function : ℕ) (w new : State) (path : List ℕ) (rom : Bool) → new ≡ on_soft (child_added path rom function) w → path ≡ path_below controller function w → rom ≡ has_rom function w
    → new ≡ child_made controller function w
made_by controller function w new path rom is path_is rom_is =
    is
    ∙ ap (λ (bytes : List ℕ). on_soft (child_added bytes rom function) w) path_is
    ∙ ap (λ (there : Bool). on_soft (child_added (path_below controller function w) there function) w) rom_is
