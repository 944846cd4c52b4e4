-- Events keep their serial numbers, in order from 1.
use Rattle.std.proofs.Common.{◌≡◌, ◌<◌, ℕ, zero, suc, ◌+◌, Bool, true, false, ◌&&◌, cond, nat_eq, List, [], ◌∷◌, ◌++◌, length, map, set, get_or, refl, sym, ap, ◌∙◌, arith}
use Rattle.std.proofs.lemmas.Bool.{and_from, and_parts}
use Rattle.std.proofs.lemmas.Bool.Decides.{nat_tests}
use Rattle.fw_types.specs.declared.event.Event.{Event}
use Rattle.fw_types.specs.declared.event.Outcome.{Outcome}
use Rattle.world_model.specs.Events.{are_numbered, with_result}

-- one more event with the next number
pub numbered-push : (from : ℕ) (events : List Event) (new : Event) → are_numbered from events ≡ true → new.serial ≡ from + length events → are_numbered from (events ++ new ∷ []) ≡ true
numbered-push from [] new numbered is = let here : nat_eq new.serial from ≡ true = grind (arith, nat_tests) in rw here refl
numbered-push from (event ∷ events) new numbered is =
    let parts = and_parts (nat_eq event.serial from) (are_numbered (from + 1) events) numbered in
    and_from (nat_eq event.serial from) (are_numbered (from + 1) (events ++ new ∷ [])) parts.0 (numbered-push (from + 1) events new parts.1 (omega arith))

same_serial : (serial : ℕ) (outcome : Outcome) (event : Event) → (with_result serial outcome event).serial ≡ event.serial
same_serial serial outcome event = by_test (nat_eq event.serial serial)
  where
    by_test : (here : Bool) → (cond here (record event { result = outcome }) event).serial ≡ event.serial
    by_test true = refl
    by_test false = refl

-- an event that ends keeps its number
pub numbered-ended : (from serial : ℕ) (outcome : Outcome) (events : List Event) → are_numbered from (map (with_result serial outcome) events) ≡ are_numbered from events
numbered-ended from serial outcome [] = refl
numbered-ended from serial outcome (event ∷ events) =
    ap (λ (n : ℕ). nat_eq n from && are_numbered (from + 1) (map (with_result serial outcome) events)) (same_serial serial outcome event)
    ∙ ap (λ b. nat_eq event.serial from && b) (numbered-ended (from + 1) serial outcome events)

-- events of other numbers stay
none_ended : (from serial : ℕ) (outcome : Outcome) (events : List Event) → are_numbered from events ≡ true → serial < from → map (with_result serial outcome) events ≡ events
none_ended from serial outcome [] numbered below = refl
none_ended from serial outcome (event ∷ events) numbered below =
    let parts = and_parts (nat_eq event.serial from) (are_numbered (from + 1) events) numbered in
    let other : nat_eq event.serial serial ≡ false = grind (arith, nat_tests, parts.0) in
    rw (other, none_ended (from + 1) serial outcome events parts.1 (omega arith)) refl

-- the event of a number is the one at that place
pub ended_at : (from place : ℕ) (outcome : Outcome) (events : List Event) (d : Event) → are_numbered from events ≡ true → place < length events
    → set events place (record (get_or events place d) { result = outcome }) ≡ map (with_result (from + place) outcome) events
ended_at from place outcome [] d numbered within = absurd (omega arith)
ended_at from zero outcome (event ∷ events) d numbered within =
    let parts = and_parts (nat_eq event.serial from) (are_numbered (from + 1) events) numbered in
    let here : nat_eq event.serial (from + 0) ≡ true = grind (arith, nat_tests, parts.0) in
    rw (here, none_ended (from + 1) (from + 0) outcome events parts.1 (omega arith)) refl
ended_at from (suc place) outcome (event ∷ events) d numbered within =
    let parts = and_parts (nat_eq event.serial from) (are_numbered (from + 1) events) numbered in
    let other : nat_eq event.serial (from + suc place) ≡ false = grind (arith, nat_tests, parts.0) in
    let number : from + suc place ≡ from + 1 + place = omega arith in
    rw other (ap (λ others. event ∷ others) (ended_at (from + 1) place outcome events d parts.1 (omega arith) ∙ ap (λ (n : ℕ). map (with_result n outcome) events) (sym number)))
