use Rattle.std.proofs.Common.{◌≡◌, ◌<◌, ◌+◌, suc, ◌||◌, ◌∷◌, [], List, ℕ, length, drop, ap, sym, ◌∙◌, add-one}
use Rattle.std.specs.List.{list_any}
use Rattle.std.proofs.Math.Seq.{drop-cons}
use Rattle.std.proofs.lemmas.List.{drop_all}
use Rattle.record_rows.specs.Inside.{rows_of}
use Rattle.record_log.specs.SoundRows.{is_among, is_chosen}
use Rattle.record_log.proofs.ChosenLemmas.{any_step, chosen_of_agent, is_by_agent, or_false}
use Rattle.record_log.proofs.row_finding.places_of_agent.Goals as goal

pub loop-guid-preserved : goal.loop-guid-preserved
loop-guid-preserved c place =
    let a = c.args in
    let guids = c.as_slice-guid-items.result.now in
    let guid = c.guid-item.result in
    let i = c.loop-guid.guid-index in
    let p = λ (g : List ℕ). is_chosen (is_by_agent a.handle a.agent g) (rows_of a.rows.now) place in
    let within : i < length guids = c.loop-guid-test.true in
    let step : drop i guids ≡ guid ∷ drop (i + 1) guids =
    drop-cons guids i guid within ∙ ap (λ (g : List ℕ). g ∷ drop (suc i) guids) (sym c.guid-item.is) ∙ ap (λ (n : ℕ). guid ∷ drop n guids) (sym (add-one i)) in
    ap (λ b. b || list_any p (drop (i + 1) guids)) (c.in_ok-push_places_by.ensures place)
    ∙ any_step p (is_among c.loop-guid.places.items place) guid (drop i guids) (drop (i + 1) guids) step
    ∙ c.loop-guid.invariant place

pub returns : goal.returns
returns c place =
    let a = c.args in
    let guids = c.as_slice-guid-items.result.now in
    let rows = rows_of a.rows.now in
    let p = λ (g : List ℕ). is_chosen (is_by_agent a.handle a.agent g) rows place in
    let none : drop c.loop-guid.guid-index guids ≡ [] = drop_all c.loop-guid.guid-index guids c.loop-guid-test.false in
    sym (or_false (is_among c.loop-guid.places.items place)) ∙ ap (λ (l : List (List ℕ)). is_among c.loop-guid.places.items place || list_any p l) (sym none)
    ∙ c.loop-guid.invariant place ∙ ap (list_any p) c.as_slice-guid-items.ensures.value
    ∙ chosen_of_agent rows c.requires a.handle c.in_ok-guids.guids.items c.in_ok-guids.ensures a.agent place
