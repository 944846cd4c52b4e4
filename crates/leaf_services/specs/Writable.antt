-- Ranges that can be written.
use Rattle.std.specs.Prelude.{◌≡◌, ℕ, true}
use Rattle.world_model.specs.World.{State}
use Rattle.guest_memory.specs.GuestMemory.{is_writable_range}

-- what could be written in one state can be written in another
abbrev pub StaysWritable : State → State → Type 0
StaysWritable old new =
    (at n : ℕ) → is_writable_range old.soft.memory at n ≡ true → is_writable_range new.soft.memory at n ≡ true
