use Rattle.std.proofs.Common.{◌-◌, arith}
use Rattle.fw_types.specs.declared.limits.TheConstants.{MOST_LEVELS}
use Rattle.bind_engine.specs.Levels.{loaded, no_device, outside}
use Rattle.bind_engine.proofs.Leaving.{done-idle, loaded-spends, loaded-stays}
use Rattle.bind_engine.proofs.rom_load.load_driver.Goals as goal

pub load_image-requires-clause-marks : goal.load_image-requires-clause-marks
load_image-requires-clause-marks c = c.rest_is_free.ensures.fewer 2 4 MOST_LEVELS c.args.world.now.marks (omega arith) (c.rest_is_free.ensures.marks c.args.world.now c.requires.rest)

pub returns-clause-spends : goal.returns-clause-spends
returns-clause-spends c =
    let old = c.args.world.now.now in
    let settings = c.args.settings.now in
    loaded-spends c.load_image.result (loaded settings c.args.file.now old) old c.load_image.new.world.now c.load_image.ensures.now
    (c.all_is_paid.ensures.loads settings (MOST_LEVELS - 1) outside c.args.file.now no_device old (omega arith))

pub returns-clause-idle : goal.returns-clause-idle
returns-clause-idle c =
    let old = c.args.world.now.now in
    let settings = c.args.settings.now in
    done-idle c.load_image.result c.args.world.now c.load_image.new.world c.command_paths_stay.ensures.none c.requires c.load_image.ensures.marks c.load_image.ensures.stacks
    (loaded-stays c.load_image.result (loaded settings c.args.file.now old) old c.load_image.new.world.now c.load_image.ensures.now
    (c.loads_stay.ensures settings (MOST_LEVELS - 1) outside c.args.file.now no_device old (omega arith) (c.levels_can_run.ensures.rest old.soft c.is_kept.ensures c.requires.rest.no_stack)))
