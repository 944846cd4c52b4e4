use Rattle.std.proofs.Common.{◌≡◌, ◌++◌, take, string_bytes}
use Rattle.std.specs.List.{flat_map}
use Rattle.report_text.specs.Report.{dump_line}
use Rattle.report_text.proofs.lines.write_dump.Given as goal

-- the lines so far were written
abbrev pub invariant-loop-entry : goal.invariant-loop-entry
invariant-loop-entry l = string_bytes l.out ≡ string_bytes l.initial.out ++ flat_map dump_line (take l.entry-index l.dump)
