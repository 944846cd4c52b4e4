use Rattle.std.proofs.Common.{◌≡◌, ◌||◌, true, false, ap, sym, ◌∙◌}
use Rattle.std.specs.Prelude.{is_some}
use Rattle.std.specs.List.{list_any}
use Rattle.open_records.specs.Records.{is_for_child, is_strong}
use Rattle.open_records.specs.Keyed.{records_of}
use Rattle.record_rows.specs.Inside.{rows_of}
use Rattle.record_rows.specs.Rows.{entries_of}
use Rattle.record_log.proofs.AskingLemmas.{agents_any, child_any, found_any}
use Rattle.record_log.proofs.row_asking.has_of_agents.Goals as goal

pub returns-then-is_some : goal.returns-then-is_some
returns-then-is_some c =
    let a = c.args in
    let rows = rows_of a.rows.now in
    let records = records_of (entries_of rows) a.handle a.guid in
    let strong : list_any is_strong records ≡ true = sym (c.is_some.ensures ∙ ap is_some c.holder.ensures ∙ found_any is_strong records) ∙ c.if-is_some.true in
    c.if-is_some.true ∙ ap (λ b. b || list_any is_for_child records) (sym strong) ∙ sym (agents_any rows c.requires a.handle a.guid)

pub returns-else-is_some : goal.returns-else-is_some
returns-else-is_some c =
    let a = c.args in
    let rows = rows_of a.rows.now in
    let records = records_of (entries_of rows) a.handle a.guid in
    let weak : list_any is_strong records ≡ false = sym (c.is_some.ensures ∙ ap is_some c.holder.ensures ∙ found_any is_strong records) ∙ c.if-is_some.false in
    c.has_child.ensures ∙ child_any rows a.handle a.guid ∙ ap (λ b. b || list_any is_for_child records) (sym weak) ∙ sym (agents_any rows c.requires a.handle a.guid)
