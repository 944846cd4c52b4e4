use Rattle.std.proofs.Common.{◌≡◌, List, length, map, Some, refl, sym, ap, subst, ◌∙◌}
use Rattle.record_rows.specs.Inside.{rows_of}
use Rattle.record_log.specs.MarkedRecords.{MarkedRecords, newest_of, older_marks}
use Rattle.record_rows.specs.Rows.{RowsView}
use Rattle.record_log.specs.SoundRows.{AreSoundRows, IsSoundRows}
use Rattle.record_log.specs.TakingBack.{rows_at, table_of, tables_at}
use Rattle.record_log.specs.declared.record_change.RecordChange.{RecordChange}
use Rattle.record_log.proofs.RecordMarks.{all_known_stays, all_known_taken, all_taken, all_tallied_taken, fewer_left, inside_committed, is_last_known, length-tables_at, newest_rows, newest_stays, newest_table, rows_taken, sound_newest, tables_committed, without_none}
use Rattle.undo_log.specs.Log.{last_change}
use Rattle.record_log.proofs.record_log.RecordLog.rollback.Goals as goal

pub back-init : goal.back-init
back-init c =
    let inside = c.self.inside in
    let rows = rows_of inside.rows in
    let marks : tables_at inside.limit inside.log.marks rows ≡ c.args.self.now.marks = ap (λ (v : MarkedRecords). v.marks) c.self.view_is in
    record {
      marks = marks;
      known = c.self.invariant.known;
      carried = c.self.invariant.carried;
      at_marks = c.self.invariant.at_marks;
      newest = c.requires.newest;
      limit = ap (λ (v : MarkedRecords). v.now.limit) c.self.view_is;
      now = sym (newest_table inside.limit (rows_at inside.log.marks rows) rows) ∙ ap (λ (v : MarkedRecords). newest_of v.marks v.now) c.self.view_is;
      sound = sound_newest inside.limit (rows_at inside.log.marks rows) rows c.self.invariant.at_marks c.self.invariant.now;
    }

pub take_last-requires : goal.take_last-requires
take_last-requires c =
    let inside = c.back.self-inside in
    record { newest = c.back.invariant.newest ∙ ap length (sym c.back.invariant.marks) ∙ length-tables_at inside.limit inside.log.marks (rows_of inside.rows) }

-- the last change can be taken back
pub take_back-requires : goal.take_back-requires
take_back-requires c =
    let inside = c.back.self-inside in
    let is : last_change inside.log.marks ≡ Some c.in-Some.change = sym c.take_last.ensures.change ∙ c.in-Some.is in
    is_last_known inside.log.marks c.in-Some.change inside.rows is c.back.invariant.known

-- what the marks keep stays as it is
pub back-preserved : goal.back-preserved
back-preserved c =
    let inside = c.back.self-inside in
    let rows = rows_of inside.rows in
    let change : RecordChange = c.in-Some.change in
    let is : last_change inside.log.marks ≡ Some change = sym c.take_last.ensures.change ∙ c.in-Some.is in
    let same : rows_at c.take_last.new.self.marks (rows_of c.take_back.new.rows) ≡ rows_at inside.log.marks rows = rw (c.take_last.ensures.rest, c.take_back.ensures.back) (rows_taken inside.log.marks change rows is) in
    let newest : newest_rows (rows_at c.take_last.new.self.marks (rows_of c.take_back.new.rows)) (rows_of c.take_back.new.rows) ≡ newest_rows (rows_at inside.log.marks rows) rows =
    ap (λ (all : List RowsView). newest_rows all (rows_of c.take_back.new.rows)) same ∙ newest_stays inside.log.marks (rows_at inside.log.marks rows) change rows (rows_of c.take_back.new.rows) rows refl is in
    record {
      marks = ap (λ (all : List RowsView). map (table_of inside.limit) all) same ∙ c.back.invariant.marks;
      known = rw c.take_last.ensures.rest (all_known_stays inside.rows c.take_back.new.rows c.take_back.ensures.keys _ (all_known_taken inside.log.marks change inside.rows is c.back.invariant.known));
      carried = rw (c.take_last.ensures.rest, c.take_back.ensures.back) (all_tallied_taken inside.log.marks change rows is c.back.invariant.carried);
      at_marks = subst (AreSoundRows inside.limit) (sym same) c.back.invariant.at_marks;
      newest = c.back.invariant.newest;
      limit = c.back.invariant.limit;
      now = ap (table_of inside.limit) newest ∙ c.back.invariant.now;
      sound = subst (IsSoundRows inside.limit) (sym newest) c.back.invariant.sound;
    }

pub commit-requires : goal.commit-requires
commit-requires c =
    let inside = c.back.self-inside in
    let left = c.take_last.ensures.rest ∙ without_none inside.log.marks (sym c.take_last.ensures.change ∙ c.in_default.is) in
    record { newest = c.back.invariant.newest ∙ ap length (sym c.back.invariant.marks) ∙ length-tables_at inside.limit inside.log.marks (rows_of inside.rows) ∙ ap length (sym left) }

pub tally_at_mark-self-inside-requires : goal.tally_at_mark-self-inside-requires
tally_at_mark-self-inside-requires c =
    let inside = c.back.self-inside in
    let none = sym c.take_last.ensures.change ∙ c.in_default.is in
    let left = c.take_last.ensures.rest ∙ without_none inside.log.marks none in
    record {
      taken = rw left none;
      carried = rw left c.back.invariant.carried;
    }

-- nothing is left to take back
pub invariant_of-self : goal.invariant_of-self
invariant_of-self c =
    let inside = c.back.self-inside in
    let rows = rows_of inside.rows in
    let none = sym c.take_last.ensures.change ∙ c.in_default.is in
    let left = c.take_last.ensures.rest ∙ without_none inside.log.marks none in
    let now = subst (IsSoundRows inside.limit) (all_taken inside.log.marks rows none) c.back.invariant.sound in
    rw (c.commit.ensures, left) (inside_committed inside.limit c.tally_at_mark-self-inside.result inside.rows inside.log.marks (record { now = now; tallied = c.tally_at_mark-self-inside.ensures; at_marks = c.back.invariant.at_marks; known = c.back.invariant.known; carried = c.back.invariant.carried }))

pub returns-clause-now : goal.returns-clause-now
returns-clause-now c =
    let inside = c.back.self-inside in
    let rows = rows_of inside.rows in
    let none = sym c.take_last.ensures.change ∙ c.in_default.is in
    ap (table_of inside.limit) (sym (all_taken inside.log.marks rows none)) ∙ c.back.invariant.now

pub returns-clause-marks : goal.returns-clause-marks
returns-clause-marks c =
    let inside = c.back.self-inside in
    let none = sym c.take_last.ensures.change ∙ c.in_default.is in
    let left = c.take_last.ensures.rest ∙ without_none inside.log.marks none in
    rw (c.commit.ensures, left) (tables_committed inside.limit inside.log.marks (rows_of inside.rows)) ∙ ap older_marks c.back.invariant.marks

pub back-smaller : goal.back-smaller
back-smaller c =
    let inside = c.back.self-inside in
    let is : last_change inside.log.marks ≡ Some c.in-Some.change = sym c.take_last.ensures.change ∙ c.in-Some.is in
    rw c.take_last.ensures.rest (fewer_left inside.log.marks c.in-Some.change is)
