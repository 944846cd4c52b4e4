use Rattle.fw_types.specs.Attr.{is_legal}
use Rattle.handle_db.specs.Database.{interface_of, is_live}
use Rattle.open_records.specs.OpenRecords.{records_of}
use Rattle.open_records.specs.Verdicts.{judge, may_enter}
use Rattle.std.proofs.Common.{is_some}
use Rattle.world_model.specs.Records.{is_none_or_live}
use Rattle.service_model.specs.Allowed.{can_store}
use Rattle.leaf_services.proofs.Conditions.{last_of_six}
use Rattle.leaf_services.proofs.interfaces.enter.Goals as goal

pub enter-requires-clause-verdict : goal.enter-requires-clause-verdict
enter-requires-clause-verdict c =
    let w = c.args.w.now.now in
    last_of_six (can_store c.args.out w) (is_some (interface_of c.args.handle c.args.guid w.soft.database))
    (is_live c.args.agent w.soft.database) (is_none_or_live c.args.controller w.soft.database) (is_legal c.args.attr)
    (may_enter (judge (records_of w.soft.records.entries c.args.handle c.args.guid) c.args.agent c.args.controller c.args.attr))
    c.requires
