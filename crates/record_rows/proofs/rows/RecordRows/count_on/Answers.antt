use Rattle.std.proofs.Common.{length, ap, sym}
use Rattle.open_records.specs.Interfaces.{Interface}
use Rattle.record_rows.proofs.KeptRows.{none_shown_on, number_outside}
use Rattle.record_rows.proofs.rows.RecordRows.count_on.Goals as goal

pub returns-in-None : goal.returns-in-None
returns-in-None c = ap length (sym (none_shown_on c.self.invariant c.self.view_is (c.args.handle, c.args.guid) c.in-None.ensures))

pub returns-in-Some : goal.returns-in-Some
returns-in-Some c =
    let interface : Interface = (c.args.handle, c.args.guid) in
    c.count_by_number.ensures interface (number_outside c.self.view_is interface c.in-Some.interface c.in-Some.ensures)
