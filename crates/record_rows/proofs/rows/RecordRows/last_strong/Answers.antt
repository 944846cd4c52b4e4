use Rattle.std.proofs.Common.{◌&&◌, None, sym, ◌∙◌}
use Rattle.open_records.specs.Records.{is_strong}
use Rattle.open_records.specs.Interfaces.{Interface, is_on}
use Rattle.open_records.specs.Keyed.{is_of}
use Rattle.open_records.specs.declared.open_record.KeyedRecord.{KeyedRecord}
use Rattle.record_rows.specs.Index.{is_strong_on}
use Rattle.record_rows.proofs.KeptRows.{alike_at, no_line_on}
use Rattle.record_rows.proofs.Walks.{last_by_index, none_last, none_strong_on, strong_rows}
use Rattle.record_rows.proofs.rows.RecordRows.last_strong.Goals as goal

pub returns-in_err-interface : goal.returns-in_err-interface
returns-in_err-interface c =
    let test = λ (one : KeyedRecord). is_of c.args.handle c.args.guid one && is_strong one.rec in
    let lines = c.args.self.now.lines in
    let none = no_line_on c.self.invariant c.self.view_is (c.args.handle, c.args.guid) c.in_err-interface.ensures in
    c.from_residual.ensures ∙ sym (none_last test 0 None lines (none_strong_on c.args.handle c.args.guid lines none))

pub returns : goal.returns
returns c =
    let inside = c.self.inside in
    let interface : Interface = (c.args.handle, c.args.guid) in
    let number = c.in_ok-interface.interface in
    let test = λ (one : KeyedRecord). is_on interface one && is_strong one.rec in
    let alike = alike_at c.self.invariant c.self.view_is (is_strong_on number) test
    (strong_rows inside.cutters.names inside.cutters.classes c.soundness.ensures.names c.soundness.ensures.classes interface number c.in_ok-interface.ensures inside.records.items inside.marks.items c.self.invariant.marked) in
    c.last_strong.ensures ∙ last_by_index (is_strong_on number) test inside.index c.args.self.now.lines alike
