use Rattle.std.proofs.Common.{◌≡◌, ℕ, false, nat_eq, sym, ap, ◌∙◌}
use Rattle.fw_types.specs.declared.status.TheConstants.Status.{SUCCESS, UNSUPPORTED}
use Rattle.handle_db.specs.Database.{is_live}
use Rattle.driver_model.specs.BusSupport.{functions_chosen, support_status}
use Rattle.bind_parts.proofs.BusStarts.{dead_by, refused, same_by, started_unsupported, unsupported}
use Rattle.bind_parts.proofs.bus_start.begin_start.Goals as goal

pub returns-in_default-clause-start : goal.returns-in_default-clause-start
returns-in_default-clause-start c =
    let dead : is_live c.args.controller c.args.world.now.now.soft.database ≡ false =
    dead_by (is_live c.args.controller c.args.world.now.now.soft.database) c.args.controller c.live_handle.result c.live_handle.ensures c.in_default.is in
    λ below scope. started_unsupported below scope c.args.controller c.args.path c.args.world.now.now UNSUPPORTED
    (c.roots_can_be_opened.ensures.dead c.args.controller c.args.path c.args.world.now.now dead)

pub returns-then-ne-clause-start : goal.returns-then-ne-clause-start
returns-then-ne-clause-start c =
    let same : c.args.controller ≡ c.in-Some.root =
    same_by (is_live c.args.controller c.args.world.now.now.soft.database) c.args.controller c.in-Some.root c.live_handle.result c.live_handle.ensures c.in-Some.is in
    let says : support_status (functions_chosen c.args.controller c.args.path c.args.world.now.now) ≡ c.bus_supported-status.result =
    ap (λ (root : ℕ). support_status (functions_chosen root c.args.path c.args.world.now.now)) same ∙ sym c.bus_supported-status.ensures in
    let other : nat_eq c.bus_supported-status.result.0 SUCCESS.0 ≡ false = refused (nat_eq c.bus_supported-status.result.0 SUCCESS.0) c.ne.result c.ne.ensures c.if-ne.true in
    λ below scope. started_unsupported below scope c.args.controller c.args.path c.args.world.now.now c.bus_supported-status.result
    (unsupported (functions_chosen c.args.controller c.args.path c.args.world.now.now) c.bus_supported-status.result says other)
