use Rattle.std.proofs.Common.{◌≡◌, ◌<◌, ◌+◌, suc, ◌++◌, ◌∷◌, [], List, ℕ, length, drop, ap, sym, ◌∙◌, add-one}
use Rattle.std.specs.List.{flat_map}
use Rattle.std.specs.Option.{option_to_list}
use Rattle.std.proofs.Math.Seq.{drop-cons}
use Rattle.std.proofs.lemmas.List.{append-nil, drop_all}
use Rattle.fw_types.specs.declared.attr.TheConstants.Attr.{BY_CHILD_CONTROLLER}
use Rattle.open_records.specs.Changing.{is_open}
use Rattle.record_rows.specs.Inside.{rows_of}
use Rattle.record_log.specs.SoundRows.{is_among, last_counting}
use Rattle.record_log.proofs.ChosenLemmas.{chosen_of_child, flat_step}
use Rattle.record_log.proofs.row_finding.places_of_child.Goals as goal

pub loop-guid-preserved : goal.loop-guid-preserved
loop-guid-preserved c =
    let a = c.args in
    let guids = c.as_slice-guid-items.result.now in
    let guid = c.guid-item.result in
    let i = c.loop-guid.guid-index in
    let find : List ℕ → List ℕ = λ g. option_to_list (last_counting (is_open a.handle g a.agent c.get.result BY_CHILD_CONTROLLER) (rows_of a.rows.now)) in
    let within : i < length guids = c.loop-guid-test.true in
    let step : drop i guids ≡ guid ∷ drop (i + 1) guids =
    drop-cons guids i guid within ∙ ap (λ (g : List ℕ). g ∷ drop (suc i) guids) (sym c.guid-item.is) ∙ ap (λ (n : ℕ). guid ∷ drop n guids) (sym (add-one i)) in
    ap (λ l. l ++ flat_map find (drop (i + 1) guids)) c.in_ok-push_place.ensures
    ∙ flat_step find c.loop-guid.places.items guid (drop i guids) (drop (i + 1) guids) step ∙ c.loop-guid.invariant

pub returns : goal.returns
returns c place =
    let a = c.args in
    let guids = c.as_slice-guid-items.result.now in
    let rows = rows_of a.rows.now in
    let find : ℕ → List ℕ → List ℕ = λ child g. option_to_list (last_counting (is_open a.handle g a.agent child BY_CHILD_CONTROLLER) rows) in
    let none : drop c.loop-guid.guid-index guids ≡ [] = drop_all c.loop-guid.guid-index guids c.loop-guid-test.false in
    let all : c.loop-guid.places.items ≡ flat_map (find a.child) c.in_ok-guids.guids.items =
    sym (append-nil c.loop-guid.places.items) ∙ ap (λ (l : List (List ℕ)). c.loop-guid.places.items ++ flat_map (find c.get.result) l) (sym none) ∙ c.loop-guid.invariant
    ∙ ap (flat_map (find c.get.result)) c.as_slice-guid-items.ensures.value ∙ ap (λ (child : ℕ). flat_map (find child) c.in_ok-guids.guids.items) c.get.ensures.value in
    ap (λ (l : List ℕ). is_among l place) all ∙ chosen_of_child rows c.requires a.handle c.in_ok-guids.guids.items c.in_ok-guids.ensures a.agent a.child place
