use Rattle.std.proofs.Common.{◌≡◌, ◌+◌, ℕ, true, Some, None, min, sym, ap, subst, ◌∙◌}
use Rattle.std.specs.Prelude.{slice_get}
use Rattle.fw_types.specs.Attr.{is_legal}
use Rattle.open_records.specs.Adding.{added, first, most}
use Rattle.open_records.specs.declared.open_record.KeyedRecord.{KeyedRecord}
use Rattle.open_records.specs.Changing.{is_open}
use Rattle.record_rows.specs.Inside.{rows_of}
use Rattle.record_rows.specs.Rows.{counted_at}
use Rattle.record_log.specs.SoundRows.{IsChange, count_in_line, last_counting}
use Rattle.record_log.specs.declared.record_change.RecordChange.{RecordChange}
use Rattle.record_log.proofs.LineChanges.{counted_change, counted_count, counted_fits, fullness, keys_of_lines, made_change, made_count}
use Rattle.record_log.proofs.TallyLemmas.{more_tallied, same_tallied}
use Rattle.record_log.proofs.row_changes.enter_row.Goals as goal

pub returns-in-Some-clause-answer : goal.returns-in-Some-clause-answer
returns-in-Some-clause-answer c =
    let a = c.args in
    let rows = rows_of a.rows.now in
    let last : last_counting (is_open a.handle a.guid a.agent a.controller a.attr) rows ≡ Some c.in-Some.place =
    ap (λ (attr : ℕ). last_counting (is_open a.handle a.guid a.agent a.controller attr) rows) (sym c.bits.ensures.value) ∙ sym c.place_of.ensures ∙ c.in-Some.is in
    counted_fits a.limit a.handle a.guid a.agent a.controller a.attr c.in-Some.place a.rows.now c.requires.sound last

pub returns-in-Some-clause-ok : goal.returns-in-Some-clause-ok
returns-in-Some-clause-ok c =
    let a = c.args in
    let rows = rows_of a.rows.now in
    let into = added a.handle a.guid a.agent a.controller a.attr in
    let last : last_counting (is_open a.handle a.guid a.agent a.controller a.attr) rows ≡ Some c.in-Some.place =
    ap (λ (attr : ℕ). last_counting (is_open a.handle a.guid a.agent a.controller attr) rows) (sym c.bits.ensures.value) ∙ sym c.place_of.ensures ∙ c.in-Some.is in
    let legal : is_legal a.attr ≡ true = subst (λ (n : ℕ). is_legal n ≡ true) c.bits.ensures.value c.bits.ensures.legal in
    subst (λ (change : RecordChange). IsChange a.limit change into a.rows.now c.raise.new.rows) (sym c.raise.ensures.change)
    (counted_change a.limit a.handle a.guid a.agent a.controller a.attr c.in-Some.place a.rows.now c.raise.new.rows c.requires.sound last c.raise.ensures.raised c.requires.verdict legal)

pub returns-in-Some-clause-keys : goal.returns-in-Some-clause-keys
returns-in-Some-clause-keys c =
    let old = c.args.rows.now in
    keys_of_lines old c.raise.new.rows (counted_at c.in-Some.place (min (count_in_line (slice_get old.lines c.in-Some.place) + 1) most) old.lines) c.raise.ensures.raised

pub returns-in_ok-push-in-None-clause-answer : goal.returns-in_ok-push-in-None-clause-answer
returns-in_ok-push-in-None-clause-answer c =
    let a = c.args in
    let rows = rows_of a.rows.now in
    let last : last_counting (is_open a.handle a.guid a.agent a.controller a.attr) rows ≡ None =
    ap (λ (attr : ℕ). last_counting (is_open a.handle a.guid a.agent a.controller attr) rows) (sym c.bits.ensures.value) ∙ sym c.place_of.ensures ∙ c.in-None.is in
    fullness a.limit a.handle a.guid a.agent a.controller a.attr rows c.requires.sound last
    ∙ sym c.meets_limit.ensures.limit ∙ c.if-meets_limit.false

pub returns-in_ok-push-in-None-clause-ok : goal.returns-in_ok-push-in-None-clause-ok
returns-in_ok-push-in-None-clause-ok c =
    let a = c.args in
    let rows = rows_of a.rows.now in
    let last : last_counting (is_open a.handle a.guid a.agent a.controller a.attr) rows ≡ None =
    ap (λ (attr : ℕ). last_counting (is_open a.handle a.guid a.agent a.controller attr) rows) (sym c.bits.ensures.value) ∙ sym c.place_of.ensures ∙ c.in-None.is in
    let legal : is_legal a.attr ≡ true = subst (λ (n : ℕ). is_legal n ≡ true) c.bits.ensures.value c.bits.ensures.legal in
    made_change a.limit a.handle a.guid a.agent a.controller a.attr a.rows.now c.push.new.self c.requires.sound last c.in_ok-push-in-None.ensures.ok c.push.ensures.keys c.requires.verdict legal
    (sym c.meets_limit.ensures.limit ∙ c.if-meets_limit.false)

pub returns-then-meets_limit-clause-answer : goal.returns-then-meets_limit-clause-answer
returns-then-meets_limit-clause-answer c =
    let a = c.args in
    let rows = rows_of a.rows.now in
    let last : last_counting (is_open a.handle a.guid a.agent a.controller a.attr) rows ≡ None =
    ap (λ (attr : ℕ). last_counting (is_open a.handle a.guid a.agent a.controller attr) rows) (sym c.bits.ensures.value) ∙ sym c.place_of.ensures ∙ c.in-None.is in
    fullness a.limit a.handle a.guid a.agent a.controller a.attr rows c.requires.sound last ∙ sym c.meets_limit.ensures.limit ∙ c.if-meets_limit.true

pub returns-in-Some-clause-tally : goal.returns-in-Some-clause-tally
returns-in-Some-clause-tally c =
    let a = c.args in
    let rows = rows_of a.rows.now in
    let last : last_counting (is_open a.handle a.guid a.agent a.controller a.attr) rows ≡ Some c.in-Some.place =
    ap (λ (attr : ℕ). last_counting (is_open a.handle a.guid a.agent a.controller attr) rows) (sym c.bits.ensures.value) ∙ sym c.place_of.ensures ∙ c.in-Some.is in
    same_tallied a.tally.now rows (rows_of c.raise.new.rows) (counted_count a.limit a.handle a.guid a.agent a.controller a.attr c.in-Some.place a.rows.now c.raise.new.rows c.requires.sound last c.raise.ensures.raised) c.requires.tally

pub returns-in_ok-push-in-None-clause-tally : goal.returns-in_ok-push-in-None-clause-tally
returns-in_ok-push-in-None-clause-tally c =
    let a = c.args in
    let one : KeyedRecord = record { handle = a.handle; guid = a.guid; rec = first a.agent a.controller a.attr } in
    more_tallied c.meets_limit.new.tally (rows_of a.rows.now) (rows_of c.push.new.self) (made_count a.limit one a.rows.now c.push.new.self c.requires.sound c.in_ok-push-in-None.ensures.ok) c.meets_limit.ensures.tally
