use Rattle.std.proofs.Common.{◌≡◌, ℕ, Vec, Global, subst, sym}
use Rattle.std.specs.List.{flat_map}
use Rattle.std.specs.Option.{option_to_list}
use Rattle.fw_types.specs.Attr.{legal_attributes}
use Rattle.open_records.specs.Changing.{is_open}
use Rattle.record_rows.specs.Inside.{rows_of}
use Rattle.record_log.specs.SoundRows.{AreChosen, last_counting}
use Rattle.record_log.proofs.ChosenLemmas.{chosen_left, is_left, mapped_ok}
use Rattle.record_log.proofs.row_finding.places_left.Goals as goal

pub returns : goal.returns
returns c =
    let a = c.args in
    let rows = rows_of a.rows.now in
    mapped_ok c.last_places.result
    (λ (v : Vec ℕ Global). v.items ≡ flat_map (λ (attr : ℕ). option_to_list (last_counting (is_open a.handle a.guid a.agent a.controller attr) rows)) legal_attributes)
    (λ (v : Vec ℕ Global). AreChosen (is_left a.handle a.guid a.agent a.controller) rows v.items)
    (λ v is. subst (AreChosen (is_left a.handle a.guid a.agent a.controller) rows) (sym is) (chosen_left rows c.requires a.handle a.guid a.agent a.controller)) c.last_places.ensures
