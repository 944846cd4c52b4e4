use Rattle.std.proofs.Common.{◌&&◌, nat_eq, subst, sym}
use Rattle.std.proofs.lemmas.Result.{IfOk-weaker}
use Rattle.open_records.specs.Interfaces.{Interface, is_on}
use Rattle.open_records.specs.declared.open_record.KeyedRecord.{KeyedRecord}
use Rattle.record_rows.specs.Asking.{ArePlacesOf}
use Rattle.record_rows.specs.Inside.{rows_of}
use Rattle.record_rows.proofs.KeptRows.{no_line_on, number_outside}
use Rattle.record_rows.proofs.Walks.{narrower, no_places}
use Rattle.record_rows.proofs.rows.RecordRows.places_by.Goals as goal

pub returns-in-None : goal.returns-in-None
returns-in-None c =
    let interface : Interface = (c.args.handle, c.args.guid) in
    let none = no_line_on c.self.invariant c.self.view_is interface c.in-None.ensures in
    rw (c.new.ensures.items) (no_places (is_on interface) (λ (one : KeyedRecord). nat_eq one.rec.agent c.args.agent) (rows_of c.args.self.now) none)

pub returns-in-Some : goal.returns-in-Some
returns-in-Some c =
    let interface : Interface = (c.args.handle, c.args.guid) in
    let has = number_outside c.self.view_is interface c.in-Some.interface c.in-Some.ensures in
    let rows = rows_of c.args.self.now in
    let test = λ (one : KeyedRecord). nat_eq one.rec.agent c.args.agent in
    IfOk-weaker c.places_among.result _ _
    (λ places is. subst (ArePlacesOf (λ (one : KeyedRecord). is_on interface one && test one) rows) (sym is) (narrower (is_on interface) test rows c.places_on.result.now (c.places_on.ensures.places interface has)))
    c.places_among.ensures
