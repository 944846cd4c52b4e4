use Rattle.std.proofs.Common.{◌≡◌, drop}
use Rattle.std.specs.Prelude.{Some}
use Rattle.std.specs.List.{list_any}
use Rattle.open_records.specs.Leaving.{is_meant}
use Rattle.open_records.specs.Managing.{records_on}
use Rattle.bind_plan.proofs.agent_records.is_among_records.Given as goal

-- there is a record on the protocols from here on exactly if there is one on any protocol
abbrev pub invariant-loop-guid : goal.invariant-loop-guid
invariant-loop-guid l =
    list_any (is_meant (Some l.agent) l.controller l.bits) (records_on l.records.now.entries l.handle (drop l.guid-index l.protocols))
    ≡ list_any (is_meant (Some l.fn.agent) l.fn.controller l.fn.bits) (records_on l.fn.records.now.entries l.fn.handle l.fn.protocols)
