-- The lines so far, and those of the sections that are left.
use Rattle.std.proofs.Common.{◌≡◌, ◌++◌, drop}
use Rattle.std.specs.Prelude.{string_bytes}
use Rattle.std.specs.List.{flat_map}
use Rattle.image_tools.specs.ToolTexts.{section_line}
use Rattle.image_tools.proofs.image_look.write_sections.Given as goal

abbrev pub invariant-loop-section : goal.invariant-loop-section
invariant-loop-section l = string_bytes l.out ++ flat_map section_line (drop l.section-index l.sections) ≡ string_bytes l.initial.out ++ flat_map section_line l.sections
