use Rattle.std.proofs.Common.{ℕ, Option, find, ap, sym, ◌∙◌}
use Rattle.std.specs.Option.{option_to_list}
use Rattle.open_records.specs.Records.{is_equal}
use Rattle.open_records.specs.declared.open_record.Rec.{Rec}
use Rattle.open_records.specs.Verdicts.{judge}
use Rattle.open_records.specs.Keyed.{records_of}
use Rattle.record_rows.specs.Inside.{rows_of}
use Rattle.record_rows.specs.Rows.{entries_of}
use Rattle.record_log.proofs.AskingLemmas.{judged_strong, judged_weak}
use Rattle.record_log.proofs.row_asking.judged.Goals as goal

pub returns-then-has_bit_of : goal.returns-then-has_bit_of
returns-then-has_bit_of c =
    let a = c.args in
    let records = records_of (entries_of (rows_of a.rows.now)) a.handle a.guid in
    c.judged_by.ensures ∙ ap (λ (o : Option Rec). judge (option_to_list o) a.agent a.controller a.attr) c.holder.ensures
    ∙ judged_strong records a.agent a.controller a.attr (sym c.has_bit_of.ensures ∙ c.if-has_bit_of.true)

pub returns : goal.returns
returns c =
    let a = c.args in
    let records = records_of (entries_of (rows_of a.rows.now)) a.handle a.guid in
    c.judged_by-2.ensures
    ∙ ap (λ (o : Option Rec). judge (option_to_list o) a.agent a.controller a.attr) (c.record_of.ensures ∙ ap (λ (attr : ℕ). find (is_equal a.agent a.controller attr) records) c.bits.ensures.value)
    ∙ judged_weak records a.agent a.controller a.attr (sym c.has_bit_of.ensures ∙ c.if-has_bit_of.false)
