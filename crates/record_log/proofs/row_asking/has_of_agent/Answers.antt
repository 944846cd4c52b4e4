use Rattle.std.proofs.Common.{ℕ, sym, ap, ◌∙◌}
use Rattle.std.specs.List.{list_any}
use Rattle.open_records.specs.Records.{is_asked}
use Rattle.open_records.specs.declared.open_record.KeyedRecord.{KeyedRecord}
use Rattle.record_rows.specs.Asking.{passes_at}
use Rattle.record_rows.specs.Inside.{rows_of}
use Rattle.record_log.proofs.AskingLemmas.{places_meant}
use Rattle.record_log.proofs.ChosenLemmas.{is_by_agent, listed_chosen}
use Rattle.record_log.proofs.LastCounting.{any_on}
use Rattle.record_log.proofs.row_asking.has_of_agent.Goals as goal

pub returns-in-Ok : goal.returns-in-Ok
returns-in-Ok c =
    let a = c.args in
    let rows = rows_of a.rows.now in
    c.is_meant_at.ensures
    ∙ ap (list_any (λ (place : ℕ). passes_at (λ (one : KeyedRecord). is_asked a.meant.now one.rec) rows.lines place)) c.as_slice.ensures.value
    ∙ places_meant rows a.handle a.guid a.agent a.meant.now c.in-Ok.places.items c.requires.meant (listed_chosen (is_by_agent a.handle a.agent a.guid) rows c.in-Ok.places.items c.in-Ok.ensures)

pub returns-in-Err : goal.returns-in-Err
returns-in-Err c = c.any.ensures ∙ sym (any_on (rows_of c.args.rows.now) c.args.handle c.args.guid (is_asked c.args.meant.now))
