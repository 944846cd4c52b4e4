use Rattle.std.proofs.Common.{arith}
use Rattle.fw_types.specs.declared.limits.TheConstants.{MOST_LEVELS}
use Rattle.bind_engine.specs.Commands.{command_disconnected}
use Rattle.bind_engine.specs.Levels.{outside}
use Rattle.bind_engine.proofs.Leaving.{done-idle, done-spends, done-stays}
use Rattle.bind_engine.proofs.connect.disconnect.Goals as goal

pub disconnect-requires-clause-marks : goal.disconnect-requires-clause-marks
disconnect-requires-clause-marks c = c.rest_is_free.ensures.fewer 0 4 MOST_LEVELS c.args.world.now.marks (omega arith) (c.rest_is_free.ensures.marks c.args.world.now c.requires.rest)

pub returns-clause-spends : goal.returns-clause-spends
returns-clause-spends c =
    let old = c.args.world.now.now in
    let settings = c.args.settings.now in
    done-spends c.disconnect.result (command_disconnected settings c.args.d.now old) old c.disconnect.new.world.now c.disconnect.ensures.now
    (c.all_is_paid.ensures.disconnects settings MOST_LEVELS outside c.args.d.now old (omega arith))

pub returns-clause-idle : goal.returns-clause-idle
returns-clause-idle c =
    let old = c.args.world.now.now in
    let settings = c.args.settings.now in
    done-idle c.disconnect.result c.args.world.now c.disconnect.new.world c.command_paths_stay.ensures.none c.requires c.disconnect.ensures.marks c.disconnect.ensures.stacks
    (done-stays c.disconnect.result (command_disconnected settings c.args.d.now old) old c.disconnect.new.world.now c.disconnect.ensures.now
    (c.activations_stay.ensures.disconnects settings MOST_LEVELS outside c.args.d.now old (omega arith) (c.levels_can_run.ensures.rest old.soft c.is_kept.ensures c.requires.rest.no_stack)))
