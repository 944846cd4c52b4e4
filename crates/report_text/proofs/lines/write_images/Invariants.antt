use Rattle.std.proofs.Common.{◌≡◌, ◌+◌, ◌++◌, drop, string_bytes}
use Rattle.report_text.specs.Report.{image_lines}
use Rattle.report_text.proofs.lines.write_images.Given as goal

-- what was written and the lines that are left are the whole
abbrev pub invariant-loop-note : goal.invariant-loop-note
invariant-loop-note l = record {
  numbered : l.number ≡ l.note-index + 1;
  whole : string_bytes l.initial.out ++ image_lines 1 l.images ≡ string_bytes l.out ++ image_lines l.number (drop l.note-index l.images);
}
