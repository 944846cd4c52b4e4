use Rattle.std.proofs.Common.{length, sym, ◌∙◌, arith}
use Rattle.pe_image.specs.Headers.{headers_of}
use Rattle.pe_image.specs.ImageRules.{is_misplaced}
use Rattle.pe_image.proofs.SectionLemmas.{any_placed-first, any_placed-behind, any_placed-none}
use Rattle.pe_image.proofs.rules.has_misplaced_section.Goals as goal

-- the section at the place is misplaced
pub returns-then-is_misplaced : goal.returns-then-is_misplaced
returns-then-is_misplaced c =
    let bytes = c.args.bytes.now in
    let misplaced = is_misplaced (length bytes) (headers_of bytes).size_of_image in
    let bad = rw c.section_at-section.ensures at (sym c.is_misplaced.ensures ∙ c.if-is_misplaced.true) in
    sym (any_placed-first misplaced bytes c.loop-index.front c.loop-index.index (omega arith) bad) ∙ c.loop-index.invariant

-- it is not
pub loop-index-preserved : goal.loop-index-preserved
loop-index-preserved c =
    let bytes = c.args.bytes.now in
    let misplaced = is_misplaced (length bytes) (headers_of bytes).size_of_image in
    let good = rw c.section_at-section.ensures at (sym c.is_misplaced.ensures ∙ c.if-is_misplaced.false) in
    rw (c.end-front.ensures, c.section_at-section.ensures)
    (any_placed-behind misplaced bytes c.loop-index.front c.loop-index.index (omega arith) good ∙ c.loop-index.invariant)

-- no section is left
pub returns : goal.returns
returns c =
    let bytes = c.args.bytes.now in
    let misplaced = is_misplaced (length bytes) (headers_of bytes).size_of_image in
    sym (any_placed-none misplaced bytes c.loop-index.front c.loop-index.index (omega arith)) ∙ c.loop-index.invariant
