use Rattle.std.proofs.Common.{◌≡◌, drop}
use Rattle.bind_parts.proofs.Records.{list_from}
use Rattle.bind_parts.proofs.asking.platform_list.Given as goal

-- the controller's list among the lists from here on is its list among all of them
abbrev pub invariant-loop-list : goal.invariant-loop-list
invariant-loop-list l = list_from l.controller (drop l.list-index l.lists) ≡ list_from l.fn.controller l.fn.settings.platform
