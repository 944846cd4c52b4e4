use Rattle.std.proofs.Common.{length, ap, sym, ◌∙◌}
use Rattle.open_records.specs.Interfaces.{is_on}
use Rattle.record_rows.specs.Index.{is_key_on}
use Rattle.record_rows.specs.Inside.{rows_of}
use Rattle.record_rows.proofs.KeptRows.{alike_on, given_count, listed_count, listed_rows, number_inside, weak_cut}
use Rattle.record_rows.proofs.Walks.{all_other}
use Rattle.record_rows.proofs.rows.RecordRows.count_by_number.Goals as goal

pub returns-in-Some : goal.returns-in-Some
returns-in-Some c interface has =
    let number = c.args.number in
    let alike = alike_on c.self.invariant c.self.view_is c.soundness.ensures.names c.soundness.ensures.classes interface number (number_inside c.self.view_is interface number has) in
    listed_count (is_key_on number) (is_on interface) (rows_of c.args.self.now) c.self.inside.index alike c.in-Some.places.now
    ((listed_rows c.self.invariant c.self.view_is).each number c.in-Some.places.now c.in-Some.ensures)

pub returns-then-is_weak_cut : goal.returns-then-is_weak_cut
returns-then-is_weak_cut c interface has =
    let cut = c.if-is_weak_cut.ensures interface (number_inside c.self.view_is interface c.args.number has) in
    let weak = weak_cut c.self.view_is interface c.len.result c.len.ensures (sym cut) in
    c.count_others.ensures interface has ∙ ap length (sym (all_other (rows_of c.args.self.now) interface weak))

pub returns : goal.returns
returns c interface has =
    let number = c.args.number in
    let alike = alike_on c.self.invariant c.self.view_is c.soundness.ensures.names c.soundness.ensures.classes interface number (number_inside c.self.view_is interface number has) in
    c.count_at.ensures ∙ given_count (is_key_on number) (is_on interface) (rows_of c.args.self.now) c.self.inside.index alike c.places.result.now c.places.ensures
