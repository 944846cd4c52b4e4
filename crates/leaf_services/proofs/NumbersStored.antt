-- What could be written before numbers were stored can be written after it.
use Rattle.std.proofs.Common.{◌≡◌, ℕ, true, ap, ◌∙◌}
use Rattle.byteorder.specs.Endian.{little_bytes}
use Rattle.guest_memory.specs.GuestMemory.{is_writable_range}
use Rattle.world_model.specs.World.{State}
use Rattle.service_model.specs.Allowed.{PuttingLeavesWritable}
use Rattle.service_model.specs.Changes.{number_stored}

after_one : PuttingLeavesWritable → (w new : State) (place value at : ℕ) → new ≡ number_stored place value w → is_writable_range w.soft.memory at 8 ≡ true → is_writable_range new.soft.memory at 8 ≡ true
after_one puts w new place value at is can = ap (λ (s : State). is_writable_range s.soft.memory at 8) is ∙ puts w.soft (little_bytes 8 value) place at 8 can

pub after_three : PuttingLeavesWritable → (w one two three : State) (a va b vb d vd at : ℕ) → one ≡ number_stored a va w → two ≡ number_stored b vb one → three ≡ number_stored d vd two
    → is_writable_range w.soft.memory at 8 ≡ true → is_writable_range three.soft.memory at 8 ≡ true
after_three puts w one two three a va b vb d vd at first second third can =
    after_one puts two three d vd at third (after_one puts one two b vb at second (after_one puts w one a va at first can))
