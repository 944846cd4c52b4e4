use Rattle.std.proofs.Common.{◌≡◌, ◌+◌, ◌-◌, ℕ, sym, ◌∙◌, arith}
use Rattle.guest_memory.specs.Segment.{end_of, extent}
use Rattle.guest_memory.specs.declared.segment.Segment.{Segment}
use Rattle.guest_memory.proofs.AddressLemmas.{meets_none_up_to, meets_where}
use Rattle.guest_memory.proofs.segments.Segments.meets_any.Goals as goal

-- the last address that a segment takes
last_address : (new : Segment) (size : ℕ) → size ≡ extent new → new.base + (size - 1) + 1 ≡ end_of new
last_address new size is = grind (arith, is)

-- the last that begins before its end meets it, or none does
pub returns-in-Some : goal.returns-in-Some
returns-in-Some c =
    let new : Segment = c.args.segment.now in
    c.meets.ensures ∙ sym (meets_where c.args.self.now new c.in-Some.last.now (new.base + (c.extent.result - 1)) c.last_up_to.ensures.apart (last_address new c.extent.result c.extent.ensures) c.in-Some.ensures.last)

-- none begins before its end
pub returns-in-None : goal.returns-in-None
returns-in-None c =
    let new : Segment = c.args.segment.now in
    sym (meets_none_up_to c.args.self.now new (new.base + (c.extent.result - 1)) (last_address new c.extent.result c.extent.ensures) c.in-None.ensures.last)
