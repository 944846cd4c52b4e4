use Rattle.std.proofs.Common.{◌≡◌, ℕ, List, Option, None, Some, Bor, MatchOption, ap, subst, sym, ◌∙◌}
use Rattle.std.specs.BTreeMap.{BTreeMap}
use Rattle.std.specs.Option.{option_copied}
use Rattle.std.specs.Prelude.{is_ok}
use Rattle.slab.specs.Slab.{Slab, get}
use Rattle.guest_memory.specs.GuestMemory.{beginning_at}
use Rattle.guest_memory.specs.Segments.{IsFiled, IsLastKey, IsLastUpTo, NoneUpTo, all_in}
use Rattle.guest_memory.specs.declared.segment.Segment.{Segment}
use Rattle.guest_memory.proofs.FilingLemmas.{last_there, last_up_to, none_up_to}
use Rattle.guest_memory.proofs.segments.Segments.last_up_to.Goals as goal

-- the segment under the last key
under_last : (slots : Slab Segment) (bases : BTreeMap ℕ ℕ) (segments : List Segment) (at key : ℕ) (found : Option (Bor Segment)) → IsFiled slots bases → all_in slots bases.entries ≡ segments → IsLastKey at bases key → option_copied found ≡ get slots key
    → MatchOption found (NoneUpTo at segments) (λ last. IsLastUpTo at segments last.now)
under_last slots bases segments at key None filed view last is = absurd (last_there slots bases filed at key last (sym is))
under_last slots bases segments at key (Some one) filed view last is = subst (λ (s : List Segment). IsLastUpTo at s one.now) view (last_up_to slots bases filed at key one.now last (sym is))

pub returns-in-Some-clause-last : goal.returns-in-Some-clause-last
returns-in-Some-clause-last c =
    under_last c.self.inside.slots c.self.inside.bases c.args.self.now c.args.at c.in-Some.key c.get.result c.self.invariant c.self.view_is c.in-Some.ensures c.get.ensures

-- there is no key, so none begins there or below
pub returns-in-None-clause-last : goal.returns-in-None-clause-last
returns-in-None-clause-last c =
    λ base low. ap (λ (s : List Segment). is_ok (beginning_at s base)) (sym c.self.view_is) ∙ none_up_to c.self.inside.slots c.self.inside.bases c.self.invariant c.args.at c.in-None.ensures base low
