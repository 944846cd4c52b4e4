use Rattle.std.proofs.Common.{ap, sym, ◌∙◌}
use Rattle.std.specs.List.{list_any}
use Rattle.open_records.specs.Records.{is_for_child}
use Rattle.open_records.specs.Interfaces.{Interface}
use Rattle.open_records.specs.declared.open_record.KeyedRecord.{KeyedRecord}
use Rattle.record_rows.specs.Inside.{rows_of}
use Rattle.record_rows.specs.Rows.{shown}
use Rattle.record_rows.proofs.KeptRows.{none_shown_on, number_outside}
use Rattle.record_rows.proofs.Walks.{any_child_of}
use Rattle.record_rows.proofs.rows.RecordRows.has_child.Goals as goal

pub returns-in-None : goal.returns-in-None
returns-in-None c =
    ap (list_any (λ (one : KeyedRecord). is_for_child one.rec)) (sym (none_shown_on c.self.invariant c.self.view_is (c.args.handle, c.args.guid) c.in-None.ensures))

pub returns-in-Some : goal.returns-in-Some
returns-in-Some c =
    let interface : Interface = (c.args.handle, c.args.guid) in
    let has = number_outside c.self.view_is interface c.in-Some.interface c.in-Some.ensures in
    let rows = rows_of c.args.self.now in
    c.any_child_at.ensures ∙ ap (list_any (λ (one : KeyedRecord). is_for_child one.rec)) (c.other_places_on.ensures.shown interface has) ∙ any_child_of interface (shown rows)
