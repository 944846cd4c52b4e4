use Rattle.std.proofs.Common.{◌-◌, arith}
use Rattle.fw_types.specs.declared.limits.TheConstants.{MOST_LEVELS}
use Rattle.bind_engine.specs.Commands.{command_unloaded}
use Rattle.bind_engine.specs.Levels.{outside}
use Rattle.bind_engine.proofs.Leaving.{done-idle, done-spends, done-stays}
use Rattle.bind_engine.proofs.unload.unload.Goals as goal

pub unload_image-requires-clause-marks : goal.unload_image-requires-clause-marks
unload_image-requires-clause-marks c = c.rest_is_free.ensures.fewer 2 4 MOST_LEVELS c.args.world.now.marks (omega arith) (c.rest_is_free.ensures.marks c.args.world.now c.requires.rest)

pub returns-clause-spends : goal.returns-clause-spends
returns-clause-spends c =
    let old = c.args.world.now.now in
    let settings = c.args.settings.now in
    done-spends c.unload_image.result (command_unloaded settings c.args.image old) old c.unload_image.new.world.now c.unload_image.ensures.now
    (c.unloads_spend.ensures settings (MOST_LEVELS - 1) outside c.args.image old (omega arith))

pub returns-clause-idle : goal.returns-clause-idle
returns-clause-idle c =
    let old = c.args.world.now.now in
    let settings = c.args.settings.now in
    done-idle c.unload_image.result c.args.world.now c.unload_image.new.world c.command_paths_stay.ensures.none c.requires c.unload_image.ensures.marks c.unload_image.ensures.stacks
    (done-stays c.unload_image.result (command_unloaded settings c.args.image old) old c.unload_image.new.world.now c.unload_image.ensures.now
    (c.unloads_stay.ensures.unloads settings (MOST_LEVELS - 1) outside c.args.image old (omega arith) (c.levels_can_run.ensures.rest old.soft c.is_kept.ensures c.requires.rest.no_stack)))
