use Rattle.std.proofs.Common.{◌≡◌, drop}
use Rattle.std.specs.List.{list_any}
use Rattle.driver_model.specs.Disconnect.{has_any_record}
use Rattle.bind_parts.proofs.stopping.any_has_record.Given as goal

-- an agent from here on has a record exactly if any agent has one
abbrev pub invariant-loop-agent : goal.invariant-loop-agent
invariant-loop-agent l =
    list_any (λ agent. has_any_record l.controller agent l.world.now.soft) (drop l.agent-index l.agents)
    ≡ list_any (λ agent. has_any_record l.fn.controller agent l.fn.world.now.soft) l.fn.agents
