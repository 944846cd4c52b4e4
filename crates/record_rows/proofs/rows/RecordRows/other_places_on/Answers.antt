use Rattle.record_rows.specs.Asking.{is_other_record_on}
use Rattle.record_rows.specs.Index.{is_other_on}
use Rattle.record_rows.specs.Inside.{rows_of}
use Rattle.record_rows.proofs.KeptRows.{alike_others, given_places, given_records, listed_others, listed_places, listed_records, number_inside}
use Rattle.record_rows.proofs.rows.RecordRows.other_places_on.Goals as goal

pub returns-in-Some-clause-shown : goal.returns-in-Some-clause-shown
returns-in-Some-clause-shown c interface has =
    let number = c.args.number in
    let alike = alike_others c.self.invariant c.self.view_is c.soundness.ensures.names c.soundness.ensures.classes interface number (number_inside c.self.view_is interface number has) in
    listed_records (is_other_on number) (is_other_record_on interface) (rows_of c.args.self.now) c.self.inside.index alike c.in-Some.places.now
    ((listed_others c.self.invariant c.self.view_is).each number c.in-Some.places.now c.in-Some.ensures)

pub returns-in-Some-clause-places : goal.returns-in-Some-clause-places
returns-in-Some-clause-places c interface has =
    let number = c.args.number in
    let alike = alike_others c.self.invariant c.self.view_is c.soundness.ensures.names c.soundness.ensures.classes interface number (number_inside c.self.view_is interface number has) in
    listed_places (is_other_on number) (is_other_record_on interface) (rows_of c.args.self.now) c.self.inside.index alike c.in-Some.places.now
    ((listed_others c.self.invariant c.self.view_is).each number c.in-Some.places.now c.in-Some.ensures)

pub returns-in-None-clause-shown : goal.returns-in-None-clause-shown
returns-in-None-clause-shown c interface has =
    let number = c.args.number in
    let alike = alike_others c.self.invariant c.self.view_is c.soundness.ensures.names c.soundness.ensures.classes interface number (number_inside c.self.view_is interface number has) in
    given_records (is_other_on number) (is_other_record_on interface) (rows_of c.args.self.now) c.self.inside.index alike c.others.result.now c.others.ensures

pub returns-in-None-clause-places : goal.returns-in-None-clause-places
returns-in-None-clause-places c interface has =
    let number = c.args.number in
    let alike = alike_others c.self.invariant c.self.view_is c.soundness.ensures.names c.soundness.ensures.classes interface number (number_inside c.self.view_is interface number has) in
    given_places (is_other_on number) (is_other_record_on interface) (rows_of c.args.self.now) c.self.inside.index alike c.others.result.now c.others.ensures
