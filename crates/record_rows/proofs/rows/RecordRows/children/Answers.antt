use Rattle.std.proofs.Common.{◌≡◌, List, map, filter, ap, subst, sym, ◌∙◌}
use Rattle.std.specs.Prelude.{IfOk}
use Rattle.open_records.specs.declared.open_record.Rec.{Rec}
use Rattle.open_records.specs.Records.{is_for_child}
use Rattle.open_records.specs.Interfaces.{Interface}
use Rattle.open_records.specs.declared.open_record.KeyedRecord.{KeyedRecord}
use Rattle.record_rows.specs.Inside.{rows_of}
use Rattle.record_rows.specs.Rows.{shown}
use Rattle.record_rows.proofs.KeptRows.{none_shown_on, number_outside}
use Rattle.record_rows.proofs.Walks.{children_of}
use Rattle.record_rows.proofs.rows.RecordRows.children.Goals as goal

pub returns-in-None : goal.returns-in-None
returns-in-None c =
    let none = none_shown_on c.self.invariant c.self.view_is (c.args.handle, c.args.guid) c.in-None.ensures in
    c.new.ensures.items ∙ ap (λ (list : List KeyedRecord). filter is_for_child (map (λ (one : KeyedRecord). one.rec) list)) (sym none)

pub returns-in-Some : goal.returns-in-Some
returns-in-Some c =
    let interface : Interface = (c.args.handle, c.args.guid) in
    let has = number_outside c.self.view_is interface c.in-Some.interface c.in-Some.ensures in
    let rows = rows_of c.args.self.now in
    let whole = ap (λ (records : List KeyedRecord). filter is_for_child (map (λ (one : KeyedRecord). one.rec) records)) (c.other_places_on.ensures.shown interface has) ∙ children_of interface (shown rows) in
    subst (λ (list : List Rec). IfOk c.children_at.result (λ records. records.items ≡ list)) whole c.children_at.ensures
