-- A list of handles, slot by slot.
use Rattle.std.proofs.Common.{◌≡◌, ◌+◌, ◌-◌, ◌<◌, ℕ, true, false, not, nat_eq, find, sym, ap, ◌∙◌, arith}
use Rattle.std.specs.Prelude.{Option, Some, Result, Ok}
use Rattle.std.specs.List.{range_with_len}
use Rattle.service_thunks.specs.Arguments.{slot_at}
use Rattle.world_model.specs.World.{State}
use Rattle.service_model.specs.Words.{◌>>=◌, number}
use Rattle.service_model.specs.Connecting.{first_without, has_handle, is_handle, length_by}
use Rattle.service_model.specs.declared.plan.Stop.{Stop}
use Rattle.service_rows.proofs.RangeLines.{find_here, find_on}

-- the first slot without a handle, from slot i on
abbrev pub first_from : (list i slots : ℕ) → State → Option ℕ
first_from list i slots w = find (λ i. not (has_handle list w i)) (range_with_len i (slots - i))

pub first-same : (list slots : ℕ) (w : State) → first_from list 0 slots w ≡ first_without slots list w
unfolding first_without
first-same list slots w =
    let all : slots - 0 ≡ slots = omega arith in
    ap (λ n. find (λ i. not (has_handle list w i)) (range_with_len 0 n)) all

-- a slot that has a handle is skipped
pub slot_on : (list slots i at handle : ℕ) (w : State) → i < slots → at ≡ slot_at list i → number at w ≡ Ok handle → nat_eq handle 0 ≡ false → first_from list i slots w ≡ first_from list (i + 1) slots w
slot_on list slots i at handle w less place read some =
    let found : number (slot_at list i) w ≡ Ok handle = ap (λ at. number at w) (sym place) ∙ read in
    let has : not (has_handle list w i) ≡ false = ap (λ (result : Result ℕ Stop). not (is_handle result)) found ∙ ap (λ none. not (not none)) some in
    find_on (λ i. not (has_handle list w i)) i slots less has

-- the first slot without a handle ends the list
pub slot_last : (list slots i at : ℕ) (w : State) (result : Result ℕ Stop) (first : Option ℕ) → i < slots → at ≡ slot_at list i → number at w ≡ result → is_handle result ≡ false → first_from list i slots w ≡ first
    → length_by first list w ≡ (result >>= λ value. Ok (Some i))
slot_last list slots i at w result first less place read none is =
    let found : number (slot_at list i) w ≡ result = ap (λ at. number at w) (sym place) ∙ read in
    let has : not (has_handle list w i) ≡ true = ap (λ (result : Result ℕ Stop). not (is_handle result)) found ∙ ap not none in
    let here : first ≡ Some i = sym is ∙ find_here (λ i. not (has_handle list w i)) i slots less has in
    ap (λ first. length_by first list w) here ∙ ap (λ (result : Result ℕ Stop). result >>= λ value. Ok (Some i)) found
