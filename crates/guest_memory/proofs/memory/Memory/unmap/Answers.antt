use Rattle.std.proofs.Common.{◌≡◌, ◌≤◌, ℕ, List, Ok, length, subst, sym, ap, ◌∙◌, arith}
use Rattle.guest_memory.specs.GuestMemory.{beginning_at, total_of}
use Rattle.guest_memory.specs.Totals.{IsInOrder, total_in, without_segment}
use Rattle.guest_memory.specs.declared.segment.Segment.{Segment}
use Rattle.guest_memory.specs.declared.totals.Totals.{Totals}
use Rattle.guest_memory.proofs.AddressLemmas.{beginning_is, beginning_not, unmapped_nowhere}
use Rattle.guest_memory.proofs.TotalsLemmas.{block-counted, in_order-unmapped, size-le-total, total_in-of}
use Rattle.guest_memory.proofs.memory.Memory.unmap.Goals as goal

-- its bytes are among those of its kind, and it is counted if it is a block
pub subtract-requires-clause-bytes : goal.subtract-requires-clause-bytes
subtract-requires-clause-bytes c =
    let segments : List Segment = c.self.inside.segments in
    let segment : Segment = c.in-Some.segment in
    let small : length segment.bytes ≤ total_of segments segment.kind = size-le-total segments c.args.base segment (beginning_is segments c.args.base segment c.in-Some.ensures.value) in
    let is : total_in c.self.inside.totals segment.kind ≡ total_of segments segment.kind = ap (λ (t : Totals). total_in t segment.kind) c.self.invariant.sums ∙ total_in-of segments segment.kind in
    let size : length c.as_slice.result.now ≡ length segment.bytes = ap length c.as_slice.ensures in
    omega (arith, small, is, size)

pub subtract-requires-clause-blocks : goal.subtract-requires-clause-blocks
subtract-requires-clause-blocks c =
    let segments : List Segment = c.self.inside.segments in
    let segment : Segment = c.in-Some.segment in
    λ is. omega (arith, block-counted segments c.args.base segment (beginning_is segments c.args.base segment c.in-Some.ensures.value) is, ap (λ (t : Totals). t.blocks) c.self.invariant.sums)

-- the others are in order, and the totals are theirs
pub invariant_of-self : goal.invariant_of-self
invariant_of-self c =
    let segment : Segment = c.in-Some.segment in
    let old : Totals = c.self.inside.totals in
    let there : beginning_at c.self.inside.segments c.args.base ≡ Ok segment = beginning_is c.self.inside.segments c.args.base segment c.in-Some.ensures.value in
    let rest = in_order-unmapped c.self.inside.segments old c.args.base segment c.self.invariant there in
    let totals : c.subtract.new.self ≡ without_segment old segment.kind (length segment.bytes) = c.subtract.ensures ∙ ap (λ (bytes : List ℕ). without_segment old segment.kind (length bytes)) c.as_slice.ensures in
    subst (λ (t : Totals). IsInOrder c.remove.new.self t) (sym totals)
    (subst (λ (s : List Segment). IsInOrder s (without_segment old segment.kind (length segment.bytes))) (sym c.remove.ensures.rest) rest)

-- the segment is the one that begins there
pub returns-in-Some-clause-answer : goal.returns-in-Some-clause-answer
returns-in-Some-clause-answer c =
    sym (beginning_is c.self.inside.segments c.args.base c.in-Some.segment c.in-Some.ensures.value) ∙ ap (λ (s : List Segment). beginning_at s c.args.base) c.self.view_is

-- none begins there
pub invariant_of-self-in-None : goal.invariant_of-self-in-None
invariant_of-self-in-None c =
    let same = c.in-None.ensures.rest ∙ unmapped_nowhere c.self.inside.segments c.args.base (beginning_not c.self.inside.segments c.args.base c.in-None.ensures.value) in
    subst (λ (s : List Segment). IsInOrder s c.self.inside.totals) (sym same) c.self.invariant

pub returns-in-None-clause-answer : goal.returns-in-None-clause-answer
returns-in-None-clause-answer c =
    sym (beginning_not c.self.inside.segments c.args.base c.in-None.ensures.value) ∙ ap (λ (s : List Segment). beginning_at s c.args.base) c.self.view_is
