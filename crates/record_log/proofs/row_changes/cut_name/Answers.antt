use Rattle.std.proofs.Common.{◌≡◌, ℕ, filter, length, subst}
use Rattle.std.specs.Prelude.{IfSome}
use Rattle.open_records.specs.Records.{is_named}
use Rattle.open_records.specs.declared.open_record.KeyedRecord.{KeyedRecord}
use Rattle.record_rows.specs.Inside.{rows_of}
use Rattle.record_rows.specs.Rows.{shown}
use Rattle.record_log.specs.SoundRows.{CutsName}
use Rattle.record_log.proofs.CutChanges.{name_fallen}
use Rattle.record_log.proofs.row_changes.cut_name.Goals as goal

pub returns-clause-cut : goal.returns-clause-cut
returns-clause-cut c = subst (λ (n : ℕ). CutsName n c.cut_name-cut.result c.args.rows.now c.cut_name-cut.new.self) c.get-2.ensures.value c.cut_name-cut.ensures.cut

pub returns-clause-tally : goal.returns-clause-tally
returns-clause-tally c =
    let a = c.args in
    let cut = subst (λ (n : ℕ). CutsName n c.cut_name-cut.result a.rows.now c.cut_name-cut.new.self) c.get-2.ensures.value c.cut_name-cut.ensures.cut in
    let counted = subst (λ (n : ℕ). IfSome c.few_named-before.result (λ count. count ≡ length (filter (λ (one : KeyedRecord). is_named n one.rec) (shown (rows_of a.rows.now))))) c.get.ensures.value c.few_named-before.ensures in
    c.fall.ensures (rows_of a.rows.now) (rows_of c.cut_name-cut.new.self) (name_fallen a.name a.rows.now c.cut_name-cut.new.self c.few_named-before.result counted c.cut_name-cut.result cut) c.requires
