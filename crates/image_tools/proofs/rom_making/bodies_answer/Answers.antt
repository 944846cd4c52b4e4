use Rattle.std.proofs.Common.{ap, ◌∙◌}
use Rattle.image_tools.specs.Tools.{answer}
use Rattle.image_tools.proofs.FileLemmas.{rom-made, rom-refused}
use Rattle.image_tools.proofs.rom_making.bodies_answer.Goals as goal

pub returns-in-Ok : goal.returns-in-Ok
returns-in-Ok c =
    ap (answer 0) c.of.ensures
    ∙ rom-made c.args.vendor c.args.device c.args.class c.args.bodies.now c.in-Ok.rom.items c.in-Ok.ensures.refused c.in-Ok.ensures.layout

pub returns-in-Err : goal.returns-in-Err
returns-in-Err c =
    rom-refused c.args.vendor c.args.device c.args.class c.args.bodies.now c.in-Err.fault c.refused_rom_answer.result c.in-Err.ensures.refused
    c.refused_rom_answer.ensures.line c.refused_rom_answer.ensures.cause
