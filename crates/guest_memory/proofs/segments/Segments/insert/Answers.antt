use Rattle.std.proofs.Common.{◌≡◌, List, Some, true, ap, subst, sym, ◌∙◌}
use Rattle.slab.specs.Slab.{Slab, Updates}
use Rattle.guest_memory.specs.GuestMemory.{lie_from, mapped}
use Rattle.guest_memory.specs.Segments.{IsFiled, all_in}
use Rattle.guest_memory.specs.declared.segment.Segment.{Segment}
use Rattle.guest_memory.proofs.FilingLemmas.{filed_inserted, filed_room, inserted}
use Rattle.guest_memory.proofs.segments.Segments.insert.Goals as goal

-- more room changes nothing
room_is : (c : goal.After-insert_reserved) → IsFiled c.reserve.new.self c.self.inside.bases
room_is c = subst (λ (s : Slab Segment). IsFiled s c.self.inside.bases) (sym c.reserve.ensures.rest_kept) (filed_room c.self.inside.slots c.self.inside.bases c.reserve.new.self.capacity c.self.invariant)

view_of_room : (c : goal.After-insert_reserved) → all_in c.reserve.new.self c.self.inside.bases.entries ≡ c.args.self.now
view_of_room c = ap (λ (s : Slab Segment). all_in s c.self.inside.bases.entries) c.reserve.ensures.rest_kept ∙ c.self.view_is

lies : (c : goal.After-insert_reserved) → lie_from 0 (mapped c.args.segment (all_in c.reserve.new.self c.self.inside.bases.entries)) ≡ true
lies c = ap (λ (s : List Segment). lie_from 0 (mapped c.args.segment s)) (view_of_room c) ∙ c.requires

placed : (c : goal.After-insert_reserved) → Updates c.reserve.new.self c.insert_reserved.new.self c.vacant_key-key.result (Some c.args.segment)
placed c = let key = c.insert_reserved.ensures.key ∙ sym c.vacant_key-key.ensures.value in rw key at c.insert_reserved.ensures.updates

-- the map names the segment by its key
pub invariant_of-self-2 : goal.invariant_of-self-2
invariant_of-self-2 c =
    filed_inserted c.reserve.new.self c.insert_reserved.new.self c.self.inside.bases c.insert.new.self c.vacant_key-key.result c.args.segment (room_is c) c.vacant_key-key.ensures.vacant (placed c)
    c.in_ok-insert.ensures.updates c.in_ok-insert.ensures.entries c.in_ok-insert.ensures.ordered (lies c)

pub returns-clause-ok : goal.returns-clause-ok
returns-clause-ok c =
    inserted c.reserve.new.self c.insert_reserved.new.self c.self.inside.bases c.insert.new.self c.vacant_key-key.result c.args.segment (room_is c) c.vacant_key-key.ensures.vacant (placed c)
    c.in_ok-insert.ensures.updates c.in_ok-insert.ensures.entries c.in_ok-insert.ensures.ordered (lies c)
    ∙ ap (mapped c.args.segment) (view_of_room c)
