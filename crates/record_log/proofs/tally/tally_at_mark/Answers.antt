use Rattle.std.proofs.Common.{◌≡◌, Some, ap, sym, ◌∙◌}
use Rattle.std.specs.Prelude.{option_copied}
use Rattle.record_rows.specs.Inside.{rows_of}
use Rattle.record_log.proofs.RecordMarks.{tallied_at_mark}
use Rattle.record_log.proofs.TallyLemmas.{rows_tallied}
use Rattle.undo_log.specs.Log.{carried}
use Rattle.record_log.proofs.tally.tally_at_mark.Goals as goal

pub returns-in-Some : goal.returns-in-Some
returns-in-Some c =
    let is : carried c.args.log.now.marks ≡ Some c.in-Some.tally.now = sym c.carried.ensures ∙ ap option_copied c.in-Some.is in
    tallied_at_mark c.args.log.now.marks c.in-Some.tally.now (rows_of c.args.rows.now) c.requires.taken is c.requires.carried

pub returns-in-None : goal.returns-in-None
returns-in-None c = rows_tallied (rows_of c.args.rows.now) c.len.result c.len.ensures
