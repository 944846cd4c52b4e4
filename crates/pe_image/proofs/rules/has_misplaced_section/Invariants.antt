use Rattle.std.proofs.Common.{◌≡◌, drop, length}
use Rattle.std.specs.List.{list_any}
use Rattle.pe_image.specs.Headers.{headers_of, sections_of}
use Rattle.pe_image.specs.ImageRules.{is_misplaced, placed_from, has_misplaced_section}
use Rattle.pe_image.proofs.rules.has_misplaced_section.Given as goal

-- no section so far is misplaced
abbrev pub invariant-loop-index : goal.invariant-loop-index
invariant-loop-index l =
    list_any (is_misplaced (length l.bytes) (headers_of l.bytes).size_of_image) (placed_from l.front (drop l.index (sections_of l.bytes)))
    ≡ has_misplaced_section l.bytes
