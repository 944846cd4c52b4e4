use Rattle.std.proofs.Common.{◌≡◌, ◌<◌, ℕ, List, true, is_ok, if◌then◌else◌, ap, subst, ◌∙◌, arith}
use Rattle.std.proofs.lemmas.Bool.Decides.{nat_tests}
use Rattle.guest_memory.specs.Segment.{is_access}
use Rattle.guest_memory.specs.GuestMemory.{written}
use Rattle.guest_memory.specs.Segments.{IsHolderKey}
use Rattle.guest_memory.specs.declared.segment.Segment.{Segment}
use Rattle.guest_memory.proofs.FilingLemmas.{answered, filed_answered}
use Rattle.guest_memory.proofs.segments.Segments.write.Goals as goal

some : (n : ℕ) → is_access n ≡ true → 0 < n
some n access = grind (arith, nat_tests, access)

-- the segment under the key has the range
has_all : (c : goal.After-write_under) → IsHolderKey c.self.inside.slots c.self.inside.bases.entries c.args.at c.args.n c.in-Some.key
has_all c = subst (λ (size : ℕ). IsHolderKey c.self.inside.slots c.self.inside.bases.entries c.args.at size c.in-Some.key) c.from.ensures c.in-Some.ensures

-- it gets the number, or may not be written
pub invariant_of-self : goal.invariant_of-self
invariant_of-self c =
    filed_answered c.self.inside.slots c.write_under.new.slots c.self.inside.bases c.in-Some.key c.args.at c.args.n c.args.value c.self.invariant (has_all c) (some c.args.n c.requires) c.write_under.result c.write_under.ensures.ok c.write_under.ensures.err

pub returns-in-Some-clause-bytes : goal.returns-in-Some-clause-bytes
returns-in-Some-clause-bytes c =
    answered c.self.inside.slots c.write_under.new.slots c.self.inside.bases c.in-Some.key c.args.at c.args.n c.args.value c.self.invariant (has_all c) (some c.args.n c.requires) c.write_under.result c.write_under.ensures.ok c.write_under.ensures.err
    ∙ ap (λ (s : List Segment). if is_ok c.write_under.result then written s c.args.at c.args.n c.args.value else s) c.self.view_is
