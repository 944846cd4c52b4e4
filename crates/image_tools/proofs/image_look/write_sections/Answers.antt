use Rattle.image_tools.specs.ToolTexts.{section_line}
use Rattle.image_tools.proofs.TextLemmas.{lines-end, lines-step}
use Rattle.image_tools.proofs.image_look.write_sections.Goals as goal

pub loop-section-preserved : goal.loop-section-preserved
loop-section-preserved c = lines-step section_line c.args.sections.now c.loop-section.section-index _ _ _ _ c.loop-section-test.true c.in_ok-write_section.ensures c.loop-section.invariant

pub returns : goal.returns
returns c = lines-end section_line c.args.sections.now c.loop-section.section-index _ _ c.loop-section-test.false c.loop-section.invariant
