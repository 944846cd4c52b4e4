use Rattle.std.proofs.Common.{◌≡◌, ◌++◌, map, take}
use Rattle.bind_engine.specs.Dump.{record_line}
use Rattle.bind_engine.proofs.dump.add_records.Given as goal

-- the lines of the records so far come after the earlier lines
abbrev pub invariant-loop-rec : goal.invariant-loop-rec
invariant-loop-rec l = l.lines.items ≡ l.fn.lines.items ++ map record_line (take l.rec-index l.records)
