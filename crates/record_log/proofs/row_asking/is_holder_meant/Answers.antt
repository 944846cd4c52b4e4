use Rattle.std.proofs.Common.{◌≡◌, ◌||◌, Bool, true, false, Option, refl, ap, sym, ◌∙◌}
use Rattle.std.specs.List.{list_any}
use Rattle.std.specs.Option.{option_to_list}
use Rattle.open_records.specs.Records.{is_asked}
use Rattle.open_records.specs.declared.open_record.Rec.{Rec}
use Rattle.record_rows.specs.Inside.{rows_of}
use Rattle.record_log.proofs.AskingLemmas.{holder_meant}
use Rattle.record_log.proofs.row_asking.is_holder_meant.Goals as goal

or_false : (b : Bool) → b ≡ (b || false)
or_false true = refl
or_false false = refl

pub returns-in-None : goal.returns-in-None
returns-in-None c =
    let a = c.args in
    ap (λ (o : Option Rec). list_any (is_asked a.meant.now) (option_to_list o)) (sym c.in-None.is ∙ c.holder.ensures)
    ∙ holder_meant (rows_of a.rows.now) c.requires.sound a.handle a.guid a.meant.now c.requires.meant

pub returns-in-Some : goal.returns-in-Some
returns-in-Some c =
    let a = c.args in
    c.is_meant.ensures ∙ or_false (is_asked a.meant.now c.in-Some.rec)
    ∙ ap (λ (o : Option Rec). list_any (is_asked a.meant.now) (option_to_list o)) (sym c.in-Some.is ∙ c.holder.ensures)
    ∙ holder_meant (rows_of a.rows.now) c.requires.sound a.handle a.guid a.meant.now c.requires.meant
