use Rattle.std.proofs.Common.{◌≡◌, ◌≤◌, ◌^◌, ℕ, List, true, length, subst, sym, ap, ◌∙◌, arith}
use Rattle.guest_memory.specs.GuestMemory.{block_count, lie_from, mapped, total_of}
use Rattle.guest_memory.specs.Totals.{IsInOrder, total_in, with_segment}
use Rattle.guest_memory.specs.declared.segment.Segment.{Segment}
use Rattle.guest_memory.specs.declared.totals.Totals.{Totals}
use Rattle.guest_memory.proofs.TotalsLemmas.{block_bound, in_order-mapped, put_back_size, total_bound, total_in-of}
use Rattle.guest_memory.proofs.memory.Memory.put_back.Goals as goal

-- both numbers are at most 2^63
pub add-requires-clause-bytes : goal.add-requires-clause-bytes
add-requires-clause-bytes c =
    let segments : List Segment = c.self.inside.segments in
    let new : Segment = c.args.segment in
    let lie : lie_from 0 (mapped new segments) ≡ true = ap (λ (s : List Segment). lie_from 0 (mapped new s)) c.self.view_is ∙ c.requires in
    let bound : total_of segments new.kind ≤ 2 ^ 63 = total_bound segments new.kind c.self.invariant.apart in
    let is : total_in c.self.inside.totals new.kind ≡ total_of segments new.kind = ap (λ (t : Totals). total_in t new.kind) c.self.invariant.sums ∙ total_in-of segments new.kind in
    let small : length new.bytes ≤ 2 ^ 63 = put_back_size segments new lie in
    let size : length c.as_slice.result.now ≡ length new.bytes = ap length c.as_slice.ensures in
    omega (arith, bound, is, small, size)

pub add-requires-clause-blocks : goal.add-requires-clause-blocks
add-requires-clause-blocks c =
    let bound : block_count c.self.inside.segments ≤ 2 ^ 63 = block_bound c.self.inside.segments c.self.invariant.apart in
    omega (arith, bound, ap (λ (t : Totals). t.blocks) c.self.invariant.sums)

-- segments lie in order with it, and the totals are theirs
pub invariant_of-self-2 : goal.invariant_of-self-2
invariant_of-self-2 c =
    let segments : List Segment = c.self.inside.segments in
    let totals : Totals = c.self.inside.totals in
    let new : Segment = c.args.segment in
    let lie : lie_from 0 (mapped new segments) ≡ true = ap (λ (s : List Segment). lie_from 0 (mapped new s)) c.self.view_is ∙ c.requires in
    let rest = in_order-mapped segments totals new.base new.bytes new.kind c.self.invariant lie in
    let counted : c.add.new.self ≡ with_segment totals new.kind (length new.bytes) = c.add.ensures ∙ ap (λ (bytes : List ℕ). with_segment totals new.kind (length bytes)) c.as_slice.ensures in
    subst (λ (t : Totals). IsInOrder c.insert.new.self t) (sym counted)
    (subst (λ (s : List Segment). IsInOrder s (with_segment totals new.kind (length new.bytes))) (sym c.in_ok-insert.ensures.ok) rest)
