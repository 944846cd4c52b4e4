use Rattle.std.proofs.Common.{◌++◌, ◌||◌, List, ℕ, ap, ◌∙◌}
use Rattle.record_rows.specs.Inside.{rows_of}
use Rattle.record_log.specs.SoundRows.{is_among}
use Rattle.record_log.proofs.ChosenLemmas.{among_append, is_by_agent, listed_chosen}
use Rattle.record_log.proofs.row_finding.push_places_by.Goals as goal

pub returns : goal.returns
returns c place =
    let a = c.args in
    let old = a.places.now.items in
    let mine = c.in_ok-mine.mine.items in
    ap (λ (l : List ℕ). is_among l place) (c.in_ok-extend_from_slice.ensures.items ∙ ap (λ (l : List ℕ). old ++ l) c.as_slice.ensures.value)
    ∙ among_append old mine place
    ∙ ap (λ b. is_among old place || b) (listed_chosen (is_by_agent a.handle a.agent a.guid) (rows_of a.rows.now) mine c.in_ok-mine.ensures place)
