use Rattle.std.proofs.Common.{◌-◌, ◌/◌, sym, ◌∙◌, arith}
use Rattle.service_thunks.proofs.AddressLemmas.{by_place-none, by_place-some}
use Rattle.service_thunks.proofs.addresses.placed_at.Goals as goal
use Rattle.service_thunks.proofs.addresses.placed_at.Goals.{then-at-from-via-then-at-from, then-at-from-via-else-at-from+then-at-from-ne0}

-- the address is below them, or between two of them
pub returns-then-at-from : goal.returns-then-at-from
returns-then-at-from c =
    sym (by_place-none c.args.at c.args.from c.args.services.now (λ k same. elim c.then-at-from.branch [
      | then-at-from-via-then-at-from w ↦ omega arith
      | then-at-from-via-else-at-from+then-at-from-ne0 w ↦ omega arith
    ]))

-- or one of them
pub returns : goal.returns
returns c = c.nth.ensures ∙ sym (by_place-some c.args.from ((c.args.at - c.args.from) / 8) c.args.at c.args.services.now (omega arith))
