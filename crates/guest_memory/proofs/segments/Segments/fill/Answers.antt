use Rattle.std.proofs.Common.{◌<◌, ℕ, List, length, replicate, ap, subst, sym, ◌∙◌}
use Rattle.std.proofs.lemmas.List.{length-replicate}
use Rattle.guest_memory.specs.GuestMemory.{holder, put_bytes}
use Rattle.guest_memory.specs.Segments.{IsHolderKey}
use Rattle.guest_memory.specs.declared.segment.Segment.{Segment}
use Rattle.guest_memory.proofs.AddressLemmas.{put_bytes_nowhere}
use Rattle.guest_memory.proofs.FilingLemmas.{filed_put, put_there}
use Rattle.guest_memory.proofs.segments.Segments.fill.Goals as goal

-- the segment under the key has the range of so many bytes
has_all : (c : goal.After-fill_under) → IsHolderKey c.self.inside.slots c.self.inside.bases.entries c.args.at (length (replicate c.args.n c.args.byte)) c.in-Some.key
has_all c = subst (λ (size : ℕ). IsHolderKey c.self.inside.slots c.self.inside.bases.entries c.args.at size c.in-Some.key) (sym (length-replicate c.args.n c.args.byte)) c.in-Some.ensures

some : (c : goal.After-fill_under) → 0 < length (replicate c.args.n c.args.byte)
some c = subst (λ (size : ℕ). 0 < size) (sym (length-replicate c.args.n c.args.byte)) c.requires

-- and gets them
pub invariant_of-self : goal.invariant_of-self
invariant_of-self c =
    filed_put c.self.inside.slots c.fill_under.new.slots c.self.inside.bases c.in-Some.key c.args.at (replicate c.args.n c.args.byte) c.self.invariant (has_all c) (some c) c.fill_under.ensures

pub returns-in-Some : goal.returns-in-Some
returns-in-Some c =
    put_there c.self.inside.slots c.fill_under.new.slots c.self.inside.bases c.in-Some.key c.args.at (replicate c.args.n c.args.byte) c.self.invariant (has_all c) (some c) c.fill_under.ensures
    ∙ ap (λ (s : List Segment). put_bytes s c.args.at (replicate c.args.n c.args.byte)) c.self.view_is

-- no segment has it
pub returns-in_default : goal.returns-in_default
returns-in_default c =
    let none = ap (λ (size : ℕ). holder c.args.self.now c.args.at size) (length-replicate c.args.n c.args.byte) ∙ ap (λ (s : List Segment). holder s c.args.at c.args.n) (sym c.self.view_is) ∙ c.in_default.ensures in
    sym (put_bytes_nowhere c.args.self.now c.args.at (replicate c.args.n c.args.byte) none)
