use Rattle.std.proofs.Common.{sym, ap, ◌∙◌}
use Rattle.guest_memory.specs.GuestMemory.{begins}
use Rattle.guest_memory.proofs.AddressLemmas.{begins_is, is_of_some}
use Rattle.guest_memory.proofs.memory.Memory.begins.Goals as goal

-- the segment that begins there is of the kind, or it is not
pub returns-in-Some : goal.returns-in-Some
returns-in-Some c =
    c.is_of.ensures
    ∙ ap (is_of_some c.args.kind) c.in-Some.ensures
    ∙ sym (begins_is 0 c.args.kind c.self.inside.segments c.args.base c.self.invariant.apart)
    ∙ ap (begins c.args.kind c.args.base) c.self.view_is

-- no segment begins there
pub returns-in-None : goal.returns-in-None
returns-in-None c =
    ap (is_of_some c.args.kind) c.in-None.ensures
    ∙ sym (begins_is 0 c.args.kind c.self.inside.segments c.args.base c.self.invariant.apart)
    ∙ ap (begins c.args.kind c.args.base) c.self.view_is
