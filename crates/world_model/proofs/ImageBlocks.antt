-- The loaded image block of an image can be read.
use Rattle.std.proofs.Common.{◌≡◌, ℕ, ◌+◌, true, ◌&&◌, nat_eq, nat_le, List, [], ◌∷◌, length, Some, ◌∙◌, inl, inr, arith}
use Rattle.std.specs.List.{list_any}
use Rattle.std.proofs.lemmas.Bool.{and_from, and_parts, eqb-true, le-leb, or_cases, or_left, or_right}
use Rattle.guest_memory.specs.declared.segment.Segment.{Segment}
use Rattle.guest_memory.specs.declared.segment.SegKind.TheVariants as kind
use Rattle.guest_memory.specs.Segment.{has_bytes}
use Rattle.guest_memory.specs.GuestMemory.{is_of, is_readable}
use Rattle.world_model.specs.declared.image.LoadedImage.{LoadedImage}
use Rattle.world_model.specs.World.{Soft}
use Rattle.world_model.specs.Images.{block_size, image_of}
use Rattle.world_model.specs.Kept.{IsKept, has_block}
use Rattle.world_model.proofs.ImageLists.{found_passes}
use Rattle.world_model.proofs.ThunkTargets.{is_some-find}

-- one segment has all its bytes
one_has : (memory : List Segment) (image : LoadedImage) → has_block memory image ≡ true → list_any (λ (segment : Segment). has_bytes segment image.block block_size) memory ≡ true
one_has [] image there = there
one_has (s ∷ rest) image there =
    elim (or_cases (nat_eq s.base image.block && is_of kind.Pool s && nat_eq (length s.bytes) block_size) (has_block rest image) there) [
      | inl here ↦
          let parts = and_parts (nat_eq s.base image.block && is_of kind.Pool s) (nat_eq (length s.bytes) block_size) here in
          let base : s.base ≡ image.block = eqb-true s.base image.block (and_parts (nat_eq s.base image.block) (is_of kind.Pool s) parts.0).0 in
          let size : length s.bytes ≡ block_size = eqb-true (length s.bytes) block_size parts.1 in
          let low : nat_le s.base image.block ≡ true = le-leb _ _ (omega arith) in
          let high : nat_le (image.block + block_size) (s.base + length s.bytes) ≡ true = le-leb _ _ (omega arith) in
          or_left (has_bytes s image.block block_size) (list_any (λ (segment : Segment). has_bytes segment image.block block_size) rest)
          (and_from (nat_le s.base image.block) (nat_le (image.block + block_size) (s.base + length s.bytes)) low high)
      | inr later ↦ or_right (has_bytes s image.block block_size) (list_any (λ (segment : Segment). has_bytes segment image.block block_size) rest) (one_has rest image later)
    ]

pub block-readable : (soft : Soft) (handle : ℕ) (image : LoadedImage) → IsKept soft → image_of handle soft.images ≡ Some image → is_readable soft.memory image.block block_size ≡ true
block-readable soft handle image kept found =
    is_some-find (λ (segment : Segment). has_bytes segment image.block block_size) soft.memory
    ∙ one_has soft.memory image (found_passes (λ (i : LoadedImage). nat_eq i.handle handle) (has_block soft.memory) soft.images image found kept.images.blocks)
