use Rattle.std.proofs.Common.{◌≡◌, Bool, true, false, not, ◌&&◌, refl, ap, ◌∙◌}
use Rattle.open_records.specs.Changing.{is_weak_on}
use Rattle.open_records.specs.Interfaces.{is_on}
use Rattle.open_records.specs.declared.open_record.KeyedRecord.{KeyedRecord}
use Rattle.open_records.proofs.ListLemmas.{filter_both}
use Rattle.std.specs.Prelude.{length, filter}
use Rattle.record_rows.specs.Rows.{RowsView, in_order, is_weak, shown, with_weak_cut}
use Rattle.record_rows.proofs.InOrder.{in_order-filter}
use Rattle.record_rows.proofs.Shown.{is_lasting_on, shown-unlasting, shown-unweak}
use Rattle.record_rows.proofs.laws.cuts_clear.Goals as goal

both : (on weak : Bool) → not on ≡ (not (on && weak) && not (on && not weak))
both true true = refl
both true false = refl
both false weak = refl

pub returns : goal.returns
returns c rows interface =
    let first : RowsView = record rows { cuts = with_weak_cut interface (length rows.lines) rows.cuts } in
    ap in_order (shown-unlasting first interface ∙ ap (filter (λ (one : KeyedRecord). not (is_lasting_on interface one))) (shown-unweak rows interface)
    ∙ filter_both (λ (one : KeyedRecord). not (is_weak_on interface one)) (λ (one : KeyedRecord). not (is_lasting_on interface one)) (λ (one : KeyedRecord). not (is_on interface one)) (shown rows)
    (λ one. both (is_on interface one) (is_weak one.rec)))
    ∙ in_order-filter (λ (one : KeyedRecord). not (is_on interface one)) (shown rows)
