-- Pairs that can be installed: the next one is not refused.
use Rattle.std.proofs.Common.{◌≡◌, ◌<◌, ℕ, suc, true, refl, sym, ap, ◌∙◌, arith}
use Rattle.std.specs.Prelude.{Option, Result, Ok, Err, is_ok}
use Rattle.world_model.specs.World.{State}
use Rattle.world_model.specs.Kept.{IsKept}
use Rattle.service_model.specs.Words.{◌>>=◌}
use Rattle.service_model.specs.Allowed.{PairsAreInstalled, all_there, can_install}
use Rattle.service_model.specs.Changes.{pair_installed, pairs_installed}
use Rattle.service_model.specs.declared.plan.Stop.{Stop}

there-ok : (list count owner : ℕ) (before : State) (result : Result (Option ℕ × State) Stop) → all_there list count owner before result ≡ true → is_ok result ≡ true
there-ok list count owner before (Ok end) there = refl
there-ok list count owner before (Err stop) there = absurd cc

pub next_fits : PairsAreInstalled → (before now : State) (handle on : Option ℕ) (list count owner i : ℕ) → IsKept before.soft → can_install handle list count before ≡ true → i < count
    → pairs_installed i list owner handle before ≡ Ok (on, now) → is_ok (pair_installed i list owner (on, now)) ≡ true
next_fits law before now handle on list count owner i kept can low is =
    let there : is_ok (pairs_installed (suc i) list owner handle before) ≡ true =
    there-ok list (suc i) owner before (pairs_installed (suc i) list owner handle before) (law before handle list count owner (suc i) kept can (omega arith)) in
    sym (ap (λ (result : Result (Option ℕ × State) Stop). is_ok (result >>= pair_installed i list owner)) is) ∙ there
