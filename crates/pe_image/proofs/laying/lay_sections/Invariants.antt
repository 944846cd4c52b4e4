use Rattle.std.proofs.Common.{◌≡◌, ℕ, drop, length}
use Rattle.pe_image.specs.Headers.{sections_of}
use Rattle.pe_image.specs.ImageRules.{size_of}
use Rattle.pe_image.specs.LaidImage.{byte_at}
use Rattle.pe_image.proofs.ImageByteLemmas.{byte_over}
use Rattle.pe_image.proofs.laying.lay_sections.Given as goal

-- the sections that are left, over the image so far, give the image
abbrev pub invariant-loop-index : goal.invariant-loop-index
invariant-loop-index l = record {
  size : length l.image ≡ size_of l.bytes;
  bytes : (place : ℕ) → byte_over l.bytes (drop l.index (sections_of l.bytes)) l.image place ≡ byte_at l.bytes place;
}
