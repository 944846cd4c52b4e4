use Rattle.std.proofs.Common.{◌≡◌, drop, []}
use Rattle.open_records.specs.Managing.{child_numbers, records_on}
use Rattle.open_records.specs.NumberLists.{joined}
use Rattle.record_rows.specs.Inside.{rows_of}
use Rattle.record_rows.specs.Rows.{entries_of}
use Rattle.record_log.proofs.managing.children_on.Given as goal

-- what is found, with what the other protocols give, is the whole
abbrev pub invariant-loop-guid : goal.invariant-loop-guid
invariant-loop-guid l =
    joined l.found (child_numbers l.agent (records_on (entries_of (rows_of l.rows)) l.handle (drop l.guid-index l.protocols)))
    ≡ joined [] (child_numbers l.agent (records_on (entries_of (rows_of l.rows)) l.handle l.protocols))
