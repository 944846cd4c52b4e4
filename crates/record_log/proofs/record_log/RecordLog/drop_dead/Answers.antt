use Rattle.std.proofs.Common.{◌≡◌, Bool, true, false, not, List, [], ◌∷◌, filter, refl, ap, ◌∙◌}
use Rattle.open_records.specs.Parties.{are_parties_live, with_live_parties}
use Rattle.open_records.specs.declared.open_record.KeyedRecord.{KeyedRecord}
use Rattle.record_rows.specs.Inside.{rows_of}
use Rattle.record_log.specs.MarkedRecords.{MarkedRecords}
use Rattle.record_rows.specs.Rows.{entries_of}
use Rattle.record_log.proofs.LineChanges.{where_fewer, where_sound, where_table}
use Rattle.record_log.proofs.RecordMarks.{inside_none, none_open, tables_none}
use Rattle.record_log.proofs.TallyLemmas.{fewer_tallied}
use Rattle.record_log.proofs.record_log.RecordLog.drop_dead.Goals as goal

twice_not : (p : KeyedRecord → Bool) (xs : List KeyedRecord) → filter (λ (x : KeyedRecord). not (not (p x))) xs ≡ filter p xs
twice_not p [] = refl
twice_not p (x ∷ xs) = by_test (p x) refl (twice_not p xs)
  where
    by_test : (b : Bool) → p x ≡ b → filter (λ (y : KeyedRecord). not (not (p y))) xs ≡ filter p xs → filter (λ (y : KeyedRecord). not (not (p y))) (x ∷ xs) ≡ filter p (x ∷ xs)
    by_test true is rest = rw is (ap (λ l. x ∷ l) rest)
    by_test false is rest = rw is rest

pub invariant_of-self : goal.invariant_of-self
invariant_of-self c =
    let inside = c.self.inside in
    let none = none_open inside.limit inside.log.marks (rows_of inside.rows) _ (ap (λ (v : MarkedRecords). v.marks) c.self.view_is) c.requires.unmarked in
    inside_none inside.limit (record inside.tally { exact = false }) c.close_where.new.self inside.log.marks none (where_sound inside.limit (λ (one : KeyedRecord). not (are_parties_live c.args.db.now one)) inside.rows c.close_where.new.self c.close_where.ensures c.self.invariant.now)
    (fewer_tallied inside.tally (rows_of inside.rows) (rows_of c.close_where.new.self) (where_fewer inside.limit (λ (one : KeyedRecord). not (are_parties_live c.args.db.now one)) inside.rows c.close_where.new.self c.close_where.ensures c.self.invariant.now) c.self.invariant.tallied)

pub returns-clause-now : goal.returns-clause-now
returns-clause-now c =
    let inside = c.self.inside in
    where_table inside.limit (λ (one : KeyedRecord). not (are_parties_live c.args.db.now one)) inside.rows c.close_where.new.self c.close_where.ensures c.self.invariant.now
    ∙ ap (λ (entries : List KeyedRecord). record { entries = entries; limit = inside.limit }) (twice_not (are_parties_live c.args.db.now) (entries_of (rows_of inside.rows)))
    ∙ ap (λ (v : MarkedRecords). with_live_parties c.args.db.now v.now) c.self.view_is

pub returns-clause-marks : goal.returns-clause-marks
returns-clause-marks c =
    let inside = c.self.inside in
    let none = none_open inside.limit inside.log.marks (rows_of inside.rows) _ (ap (λ (v : MarkedRecords). v.marks) c.self.view_is) c.requires.unmarked in
    tables_none inside.limit inside.log.marks (rows_of c.close_where.new.self) none
