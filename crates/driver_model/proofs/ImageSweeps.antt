-- The sweep of an image leaves what holds of every world, all stacks, and the bytes that no code may write.
use Rattle.std.proofs.Common.{◌≤◌, ℕ, Option, Some, None, refl, arith}
use Rattle.guest_memory.specs.GuestMemory.{unmapped}
use Rattle.world_model.specs.declared.image.LoadedImage.{LoadedImage}
use Rattle.world_model.specs.World.{Soft}
use Rattle.world_model.specs.Images.{image_of}
use Rattle.world_model.specs.ImageSweep.{image_swept, swept_of}
use Rattle.world_model.specs.Kept.{IsKept}
use Rattle.world_model.proofs.KeepingSweeps.{sweeping}
use Rattle.world_model.proofs.Segments.{list_all-unmapped}
use Rattle.world_model.proofs.StackLaws.{sweeping as sweeping_stacks}
use Rattle.driver_model.specs.Staying.{KeepsBytes, Stays, if_fixed}
use Rattle.driver_model.proofs.FixedBytes.{bytes_by_tests, bytes_same}

bytes_stay : (found : Option LoadedImage) (soft : Soft) → KeepsBytes soft (swept_of found soft)
bytes_stay None soft = bytes_same soft soft refl
bytes_stay (Some image) soft =
    bytes_by_tests soft (swept_of (Some image) soft)
    (λ test all. list_all-unmapped (if_fixed test) image.block (unmapped soft.memory image.base) (list_all-unmapped (if_fixed test) image.base soft.memory all))

no_block_comes : (found : Option LoadedImage) (soft : Soft) → soft.next_block ≤ (swept_of found soft).next_block
no_block_comes None soft = omega arith
no_block_comes (Some image) soft = omega arith

pub swept_stays : (image : ℕ) (soft : Soft) → IsKept soft → Stays soft (image_swept image soft)
unfolding image_swept
swept_stays image soft kept = record {
  kept = sweeping soft image kept;
  stacks = sweeping_stacks soft image kept;
  later = no_block_comes (image_of image soft.images) soft;
  bytes = bytes_stay (image_of image soft.images) soft;
}
