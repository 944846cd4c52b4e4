use Rattle.std.proofs.Common.{ap, ◌∙◌}
use Rattle.image_tools.specs.Tools.{answer}
use Rattle.image_tools.proofs.EntryLemmas.{image-made, image-refused}
use Rattle.image_tools.proofs.assembling.image_answer.Goals as goal

pub returns-in-Ok : goal.returns-in-Ok
returns-in-Ok c =
    ap (answer 0) c.of.ensures
    ∙ image-made c.far_entries_are_refused.ensures c.args.code.items c.args.place c.driver_parts-parts.result c.in-Ok.file c.driver_parts-parts.ensures c.in-Ok.ensures.answer

pub returns : goal.returns
returns c =
    image-refused c.far_entries_are_refused.ensures c.args.code.items c.args.place c.driver_parts-parts.result c.in-Err.fault c.refused_parts_answer.result c.driver_parts-parts.ensures c.in-Err.ensures.answer
    c.refused_parts_answer.ensures.line c.refused_parts_answer.ensures.cause
