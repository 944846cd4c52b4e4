use Rattle.std.proofs.Common.{◌≡◌, take, string_bytes}
use Rattle.std.specs.List.{flat_map}
use Rattle.report_text.specs.Report.{rom_note_line}
use Rattle.report_text.proofs.boot.render_boot.Given as goal

-- the lines of the notes so far were written
abbrev pub invariant-loop-note : goal.invariant-loop-note
invariant-loop-note l = string_bytes l.out ≡ flat_map rom_note_line (take l.note-index l.notes)
