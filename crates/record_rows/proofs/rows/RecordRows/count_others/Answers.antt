use Rattle.std.proofs.Common.{◌∙◌}
use Rattle.record_rows.specs.Asking.{is_other_record_on}
use Rattle.record_rows.specs.Index.{is_other_on}
use Rattle.record_rows.specs.Inside.{rows_of}
use Rattle.record_rows.proofs.KeptRows.{alike_others, given_count, listed_count, listed_others, number_inside}
use Rattle.record_rows.proofs.rows.RecordRows.count_others.Goals as goal

pub returns-in-Some : goal.returns-in-Some
returns-in-Some c interface has =
    let number = c.args.number in
    let alike = alike_others c.self.invariant c.self.view_is c.soundness.ensures.names c.soundness.ensures.classes interface number (number_inside c.self.view_is interface number has) in
    listed_count (is_other_on number) (is_other_record_on interface) (rows_of c.args.self.now) c.self.inside.index alike c.in-Some.places.now
    ((listed_others c.self.invariant c.self.view_is).each number c.in-Some.places.now c.in-Some.ensures)

pub returns-in-None : goal.returns-in-None
returns-in-None c interface has =
    let number = c.args.number in
    let alike = alike_others c.self.invariant c.self.view_is c.soundness.ensures.names c.soundness.ensures.classes interface number (number_inside c.self.view_is interface number has) in
    c.count_at.ensures ∙ given_count (is_other_on number) (is_other_record_on interface) (rows_of c.args.self.now) c.self.inside.index alike c.others.result.now c.others.ensures
