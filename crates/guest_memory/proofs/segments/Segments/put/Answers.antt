use Rattle.std.proofs.Common.{List, length, ap, sym, ◌∙◌}
use Rattle.guest_memory.specs.GuestMemory.{holder, put_bytes}
use Rattle.guest_memory.specs.declared.segment.Segment.{Segment}
use Rattle.guest_memory.proofs.AddressLemmas.{put_bytes_nowhere}
use Rattle.guest_memory.proofs.FilingLemmas.{filed_put, put_there}
use Rattle.guest_memory.proofs.segments.Segments.put.Goals as goal

-- the segment under the key has the range, and gets the bytes
pub invariant_of-self : goal.invariant_of-self
invariant_of-self c =
    filed_put c.self.inside.slots c.put_under.new.slots c.self.inside.bases c.in-Some.key c.args.at c.args.bytes.now c.self.invariant c.in-Some.ensures c.requires c.put_under.ensures

pub returns-in-Some : goal.returns-in-Some
returns-in-Some c =
    put_there c.self.inside.slots c.put_under.new.slots c.self.inside.bases c.in-Some.key c.args.at c.args.bytes.now c.self.invariant c.in-Some.ensures c.requires c.put_under.ensures
    ∙ ap (λ (s : List Segment). put_bytes s c.args.at c.args.bytes.now) c.self.view_is

-- no segment has it
pub returns-in_default : goal.returns-in_default
returns-in_default c =
    sym (put_bytes_nowhere c.args.self.now c.args.at c.args.bytes.now (ap (λ (s : List Segment). holder s c.args.at (length c.args.bytes.now)) (sym c.self.view_is) ∙ c.in_default.ensures))
