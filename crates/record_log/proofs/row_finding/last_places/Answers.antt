use Rattle.std.proofs.Common.{◌≡◌, ◌+◌, ◌++◌, ◌∷◌, [], List, ℕ, drop, get_or, ap, sym, ◌∙◌, add-one}
use Rattle.std.specs.List.{flat_map}
use Rattle.std.specs.Option.{option_to_list}
use Rattle.std.proofs.Math.Seq.{drop-cons}
use Rattle.std.proofs.lemmas.List.{append-nil, drop_all}
use Rattle.fw_types.specs.Attr.{legal_attributes}
use Rattle.open_records.specs.Changing.{is_open}
use Rattle.record_rows.specs.Inside.{rows_of}
use Rattle.record_log.specs.SoundRows.{last_counting}
use Rattle.record_log.proofs.ChosenLemmas.{flat_step}
use Rattle.record_log.proofs.row_finding.last_places.Goals as goal

pub loop-attr-preserved : goal.loop-attr-preserved
loop-attr-preserved c =
    let a = c.args in
    let find : ℕ → List ℕ = λ attr. option_to_list (last_counting (is_open a.handle a.guid a.agent a.controller attr) (rows_of a.rows.now)) in
    let i = c.loop-attr.attr-index in
    let found = c.loop-attr.places.items in
    let step : drop i legal_attributes ≡ get_or legal_attributes i 0 ∷ drop (i + 1) legal_attributes = drop-cons legal_attributes i 0 c.loop-attr-test.true ∙ ap (λ (n : ℕ). get_or legal_attributes i 0 ∷ drop n legal_attributes) (sym (add-one i)) in
    ap (λ l. l ++ flat_map find (drop (i + 1) legal_attributes)) c.in_ok-push_place.ensures
    ∙ flat_step find found (get_or legal_attributes i 0) (drop i legal_attributes) (drop (i + 1) legal_attributes) step ∙ c.loop-attr.invariant

pub returns : goal.returns
returns c =
    let a = c.args in
    let find : ℕ → List ℕ = λ attr. option_to_list (last_counting (is_open a.handle a.guid a.agent a.controller attr) (rows_of a.rows.now)) in
    let none : drop c.loop-attr.attr-index legal_attributes ≡ [] = drop_all c.loop-attr.attr-index legal_attributes c.loop-attr-test.false in
    sym (append-nil c.loop-attr.places.items) ∙ ap (λ (l : List ℕ). c.loop-attr.places.items ++ flat_map find l) (sym none) ∙ c.loop-attr.invariant
