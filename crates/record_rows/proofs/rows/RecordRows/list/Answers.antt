use Rattle.std.proofs.Common.{◌≡◌, List, map, ap, subst, sym, ◌∙◌}
use Rattle.std.specs.Prelude.{IfOk}
use Rattle.open_records.specs.Interfaces.{Interface}
use Rattle.open_records.specs.declared.open_record.KeyedRecord.{KeyedRecord}
use Rattle.record_rows.proofs.KeptRows.{none_shown_on, number_outside}
use Rattle.record_rows.proofs.rows.RecordRows.list.Goals as goal

pub returns-in-None : goal.returns-in-None
returns-in-None c =
    c.new.ensures.items ∙ ap (map (λ (one : KeyedRecord). one.rec)) (sym (none_shown_on c.self.invariant c.self.view_is (c.args.handle, c.args.guid) c.in-None.ensures))

pub returns-in-Some : goal.returns-in-Some
returns-in-Some c =
    let interface : Interface = (c.args.handle, c.args.guid) in
    let has = number_outside c.self.view_is interface c.in-Some.interface c.in-Some.ensures in
    subst (λ (list : List KeyedRecord). IfOk c.records_at.result (λ records. records.items ≡ map (λ (one : KeyedRecord). one.rec) list)) (c.places_on.ensures.shown interface has) c.records_at.ensures
