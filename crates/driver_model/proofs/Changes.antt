-- What stays through a change, and through one after another.
use Rattle.std.proofs.Common.{◌≡◌, refl, ap, ◌∙◌, arith}
use Rattle.world_model.specs.World.{Soft, with_memory}
use Rattle.world_model.specs.Fixed.{fixed_segments}
use Rattle.world_model.specs.Kept.{IsKept}
use Rattle.world_model.specs.Marks.{stacks}
use Rattle.driver_model.specs.Staying.{Stays}
use Rattle.driver_model.proofs.FixedBytes.{bytes_joined, bytes_same}

pub same_stays : (soft : Soft) → IsKept soft → Stays soft soft
same_stays soft kept = record { kept = kept; stacks = refl; later = omega arith; bytes = bytes_same soft soft refl }

pub joined_stays : (one two three : Soft) → Stays one two → Stays two three → Stays one three
joined_stays one two three first second = record {
  kept = second.kept;
  stacks = second.stacks ∙ first.stacks;
  later = omega (arith, first.later, second.later);
  bytes = bytes_joined one two three first.later first.bytes second.bytes;
}

-- a change that leaves memory and the next block
pub beside_memory : (old new : Soft) → new.memory ≡ old.memory → new.next_block ≡ old.next_block → IsKept new → Stays old new
beside_memory old new memory block kept = record {
  kept = kept;
  stacks = ap (λ segments. stacks (with_memory segments old)) memory;
  later = omega (arith, block);
  bytes = bytes_same old new (ap fixed_segments memory);
}
