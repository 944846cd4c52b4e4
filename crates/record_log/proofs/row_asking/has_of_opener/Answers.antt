use Rattle.std.proofs.Common.{ap, sym, ◌∙◌}
use Rattle.std.specs.List.{list_any}
use Rattle.fw_types.specs.Attr.{legal_attributes}
use Rattle.open_records.specs.Records.{is_asked}
use Rattle.open_records.specs.declared.open_record.Meant.{Meant}
use Rattle.open_records.specs.Keyed.{records_of}
use Rattle.record_rows.specs.Inside.{rows_of}
use Rattle.record_rows.specs.Rows.{entries_of}
use Rattle.record_log.proofs.AskingLemmas.{is_bit_open, look_end, look_found, look_on, opener_meant}
use Rattle.record_log.proofs.row_asking.has_of_opener.Goals as goal

pub loop-attr-preserved : goal.loop-attr-preserved
loop-attr-preserved c =
    let a = c.args in
    look_on (is_bit_open (rows_of a.rows.now) a.handle a.guid a.agent a.controller a.meant.now.bits) legal_attributes c.loop-attr.attr-index c.loop-attr.invariant c.loop-attr-test.true (sym c.is_meant_open.ensures ∙ c.if-is_meant_open.false)

pub returns-then-is_meant_open : goal.returns-then-is_meant_open
returns-then-is_meant_open c =
    let a = c.args in
    let rows = rows_of a.rows.now in
    look_found (is_bit_open rows a.handle a.guid a.agent a.controller a.meant.now.bits) legal_attributes c.loop-attr.attr-index c.loop-attr.invariant c.loop-attr-test.true (sym c.is_meant_open.ensures ∙ c.if-is_meant_open.true)
    ∙ opener_meant rows c.requires.sound a.handle a.guid a.agent a.controller a.meant.now.bits
    ∙ ap (λ (m : Meant). list_any (is_asked m) (records_of (entries_of rows) a.handle a.guid)) (sym c.requires.meant)

pub returns : goal.returns
returns c =
    let a = c.args in
    let rows = rows_of a.rows.now in
    look_end (is_bit_open rows a.handle a.guid a.agent a.controller a.meant.now.bits) legal_attributes c.loop-attr.attr-index c.loop-attr.invariant c.loop-attr-test.false
    ∙ opener_meant rows c.requires.sound a.handle a.guid a.agent a.controller a.meant.now.bits
    ∙ ap (λ (m : Meant). list_any (is_asked m) (records_of (entries_of rows) a.handle a.guid)) (sym c.requires.meant)
