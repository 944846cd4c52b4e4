use Rattle.std.proofs.Common.{◌≡◌, ◌++◌, take, string_bytes}
use Rattle.std.specs.List.{flat_map}
use Rattle.report_text.specs.Report.{event_line}
use Rattle.report_text.proofs.lines.write_events.Given as goal

-- the lines of the events so far were written
abbrev pub invariant-loop-event : goal.invariant-loop-event
invariant-loop-event l = string_bytes l.out ≡ string_bytes l.initial.out ++ flat_map event_line (take l.event-index l.events)
