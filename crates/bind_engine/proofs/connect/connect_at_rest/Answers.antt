use Rattle.std.proofs.Common.{arith}
use Rattle.fw_types.specs.declared.limits.TheConstants.{MOST_LEVELS}
use Rattle.driver_model.specs.Moves.{plain}
use Rattle.driver_model.specs.Connect.{connect}
use Rattle.bind_engine.specs.Levels.{all_levels, outside}
use Rattle.bind_engine.proofs.Leaving.{done-spends, done-stays}
use Rattle.bind_engine.proofs.connect.connect_at_rest.Goals as goal

pub connect-requires-clause-marks : goal.connect-requires-clause-marks
connect-requires-clause-marks c = c.rest_is_free.ensures.fewer 0 4 MOST_LEVELS c.args.world.now.marks (omega arith) (c.rest_is_free.ensures.marks c.args.world.now c.requires)

pub returns-clause-spends : goal.returns-clause-spends
returns-clause-spends c =
    let old = c.args.world.now.now in
    let settings = c.args.settings.now in
    done-spends c.connect.result (connect plain settings (all_levels settings) outside c.args.c.now c.args.context.now old) old c.connect.new.world.now c.connect.ensures.now
    (c.all_is_paid.ensures.connects settings MOST_LEVELS outside c.args.c.now c.args.context.now old (omega arith))

pub returns-clause-stays : goal.returns-clause-stays
returns-clause-stays c =
    let old = c.args.world.now.now in
    let settings = c.args.settings.now in
    done-stays c.connect.result (connect plain settings (all_levels settings) outside c.args.c.now c.args.context.now old) old c.connect.new.world.now c.connect.ensures.now
    (c.activations_stay.ensures.connects settings MOST_LEVELS outside c.args.c.now c.args.context.now old (omega arith) (c.levels_can_run.ensures.rest old.soft c.is_kept.ensures c.requires.no_stack))
