use Rattle.std.proofs.Common.{filter, sym, ◌∙◌}
use Rattle.open_records.specs.Interfaces.{is_on}
use Rattle.record_rows.specs.Asking.{counts_at}
use Rattle.record_rows.specs.Index.{is_key_on}
use Rattle.record_rows.specs.Inside.{rows_of}
use Rattle.record_rows.proofs.KeptRows.{alike_on, given_places, given_records, listed_places, listed_records, listed_rows, number_inside, weak_cut}
use Rattle.record_rows.proofs.Walks.{all_other, other_places}
use Rattle.record_rows.proofs.rows.RecordRows.places_on.Goals as goal

pub returns-in-Some-clause-shown : goal.returns-in-Some-clause-shown
returns-in-Some-clause-shown c interface has =
    let number = c.args.number in
    let alike = alike_on c.self.invariant c.self.view_is c.soundness.ensures.names c.soundness.ensures.classes interface number (number_inside c.self.view_is interface number has) in
    listed_records (is_key_on number) (is_on interface) (rows_of c.args.self.now) c.self.inside.index alike c.in-Some.places.now
    ((listed_rows c.self.invariant c.self.view_is).each number c.in-Some.places.now c.in-Some.ensures)

pub returns-in-Some-clause-places : goal.returns-in-Some-clause-places
returns-in-Some-clause-places c interface has =
    let number = c.args.number in
    let alike = alike_on c.self.invariant c.self.view_is c.soundness.ensures.names c.soundness.ensures.classes interface number (number_inside c.self.view_is interface number has) in
    listed_places (is_key_on number) (is_on interface) (rows_of c.args.self.now) c.self.inside.index alike c.in-Some.places.now
    ((listed_rows c.self.invariant c.self.view_is).each number c.in-Some.places.now c.in-Some.ensures)

pub returns-then-is_weak_cut-clause-shown : goal.returns-then-is_weak_cut-clause-shown
returns-then-is_weak_cut-clause-shown c interface has =
    let cut = c.if-is_weak_cut.ensures interface (number_inside c.self.view_is interface c.args.number has) in
    let weak = weak_cut c.self.view_is interface c.len.result c.len.ensures (sym cut) in
    c.other_places_on.ensures.shown interface has ∙ sym (all_other (rows_of c.args.self.now) interface weak)

pub returns-then-is_weak_cut-clause-places : goal.returns-then-is_weak_cut-clause-places
returns-then-is_weak_cut-clause-places c interface has =
    let rows = rows_of c.args.self.now in
    let cut = c.if-is_weak_cut.ensures interface (number_inside c.self.view_is interface c.args.number has) in
    let weak = weak_cut c.self.view_is interface c.len.result c.len.ensures (sym cut) in
    other_places rows interface weak (filter (counts_at rows) c.other_places_on.result.now) (c.other_places_on.ensures.places interface has)

pub returns-clause-shown : goal.returns-clause-shown
returns-clause-shown c interface has =
    let number = c.args.number in
    let alike = alike_on c.self.invariant c.self.view_is c.soundness.ensures.names c.soundness.ensures.classes interface number (number_inside c.self.view_is interface number has) in
    given_records (is_key_on number) (is_on interface) (rows_of c.args.self.now) c.self.inside.index alike c.places.result.now c.places.ensures

pub returns-clause-places : goal.returns-clause-places
returns-clause-places c interface has =
    let number = c.args.number in
    let alike = alike_on c.self.invariant c.self.view_is c.soundness.ensures.names c.soundness.ensures.classes interface number (number_inside c.self.view_is interface number has) in
    given_places (is_key_on number) (is_on interface) (rows_of c.args.self.now) c.self.inside.index alike c.places.result.now c.places.ensures
