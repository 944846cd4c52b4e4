use Rattle.std.proofs.Common.{List, false, ap, sym}
use Rattle.record_rows.specs.Rows.{Line}
use Rattle.record_log.specs.SoundRows.{count_in_line}
use Rattle.record_log.proofs.LineChanges.{closed_back}
use Rattle.record_log.proofs.LineLemmas.{take_front}
use Rattle.record_rows.proofs.Undone.{counted_back}
use Rattle.std.specs.Prelude.{slice_get}
use Rattle.record_log.proofs.laws.changes_are_taken_back.Goals as goal

pub returns-clause-made : goal.returns-clause-made
returns-clause-made c rows one = ap (λ (lines : List Line). record rows { lines = lines }) (take_front rows.lines (record { keyed = one; closed = false }))

pub returns-clause-counted : goal.returns-clause-counted
returns-clause-counted c rows place count =
    ap (λ (lines : List Line). record rows { lines = lines }) (counted_back place count (count_in_line (slice_get rows.lines place)) rows.lines (λ line there. ap count_in_line (sym there)))

pub returns-clause-closed : goal.returns-clause-closed
returns-clause-closed c limit test places rows sound are = ap (λ (lines : List Line). record rows { lines = lines }) (closed_back limit test places rows sound are)
