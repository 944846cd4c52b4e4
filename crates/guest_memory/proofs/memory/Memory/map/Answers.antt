use Rattle.std.proofs.Common.{◌≡◌, ◌≤◌, ◌^◌, ℕ, List, true, length, subst, sym, ap, ◌∙◌, arith}
use Rattle.guest_memory.specs.GuestMemory.{block_count, lie_from, mapped, total_of}
use Rattle.guest_memory.specs.Totals.{IsInOrder, total_in, with_segment}
use Rattle.guest_memory.specs.declared.segment.Segment.{Segment}
use Rattle.guest_memory.specs.declared.totals.Totals.{Totals}
use Rattle.guest_memory.proofs.TotalsLemmas.{block_bound, in_order-mapped, lie_from-mapped_one, size_bound, total_bound, total_in-of}
use Rattle.guest_memory.proofs.memory.Memory.map.Goals as goal

-- segments lie apart with one more that overlaps none
pub insert-requires : goal.insert-requires
insert-requires c =
    lie_from-mapped_one c.self.inside.segments (record { base = c.args.base; bytes = c.of.result; kind = c.args.kind }) c.self.invariant.apart (sym c.is_in_range.ensures ∙ c.if-not-is_in_range.false) (sym c.meets_any.ensures ∙ c.if-meets_any.false)

-- both numbers are at most 2^63
pub add-requires-clause-bytes : goal.add-requires-clause-bytes
add-requires-clause-bytes c =
    let segments : List Segment = c.self.inside.segments in
    let bound : total_of segments c.args.kind ≤ 2 ^ 63 = total_bound segments c.args.kind c.self.invariant.apart in
    let is : total_in c.self.inside.totals c.args.kind ≡ total_of segments c.args.kind = ap (λ (t : Totals). total_in t c.args.kind) c.self.invariant.sums ∙ total_in-of segments c.args.kind in
    let small : length c.of.result ≤ 2 ^ 63 = size_bound c.args.base c.of.result c.args.kind (sym c.is_in_range.ensures ∙ c.if-not-is_in_range.false) in
    let size : length c.as_slice.result.now ≡ length c.of.result = ap length c.as_slice.ensures in
    omega (arith, bound, is, small, size)

pub add-requires-clause-blocks : goal.add-requires-clause-blocks
add-requires-clause-blocks c =
    let bound : block_count c.self.inside.segments ≤ 2 ^ 63 = block_bound c.self.inside.segments c.self.invariant.apart in
    omega (arith, bound, ap (λ (t : Totals). t.blocks) c.self.invariant.sums)

-- they lie in order, and the totals are theirs
pub invariant_of-self-2 : goal.invariant_of-self-2
invariant_of-self-2 c =
    let segments : List Segment = c.self.inside.segments in
    let new : Segment = record { base = c.args.base; bytes = c.of.result; kind = c.args.kind } in
    let lie : lie_from 0 (mapped new segments) ≡ true = lie_from-mapped_one segments new c.self.invariant.apart (sym c.is_in_range.ensures ∙ c.if-not-is_in_range.false) (sym c.meets_any.ensures ∙ c.if-meets_any.false) in
    let rest = in_order-mapped segments c.self.inside.totals c.args.base c.of.result c.args.kind c.self.invariant lie in
    let counted : c.add.new.self ≡ with_segment c.self.inside.totals c.args.kind (length c.of.result) = c.add.ensures ∙ ap (λ (bytes : List ℕ). with_segment c.self.inside.totals c.args.kind (length bytes)) c.as_slice.ensures in
    subst (λ (t : Totals). IsInOrder c.insert.new.self t) (sym counted)
    (subst (λ (s : List Segment). IsInOrder s (with_segment c.self.inside.totals c.args.kind (length c.of.result))) (sym c.in_ok-insert.ensures.ok) rest)

pub returns-clause-apart : goal.returns-clause-apart
returns-clause-apart c = (invariant_of-self-2 c).apart
