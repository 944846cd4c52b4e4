use Rattle.std.proofs.Common.{◌≡◌, filter, ap, sym, ◌∙◌}
use Rattle.open_records.specs.Records.{is_for_child}
use Rattle.open_records.specs.Keyed.{records_of}
use Rattle.open_records.proofs.ManagingLemmas.{of_children}
use Rattle.record_rows.specs.Inside.{rows_of}
use Rattle.record_rows.specs.Rows.{entries_of, shown}
use Rattle.record_rows.proofs.InOrder.{records_in_order}
use Rattle.record_log.proofs.managing.add_children_on.Goals as goal

pub returns : goal.returns
returns c =
    let rows = rows_of c.args.rows.now in
    let records = records_of (entries_of rows) c.args.handle c.args.guid in
    let mine : c.as_slice.result.now ≡ filter is_for_child records =
    c.as_slice.ensures.value ∙ c.in_ok-children.ensures ∙ ap (filter is_for_child) (sym (records_in_order (shown rows) c.args.handle c.args.guid)) in
    rw (← of_children c.args.agent records, ← mine) c.add_children.ensures
