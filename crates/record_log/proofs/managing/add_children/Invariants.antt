use Rattle.std.proofs.Common.{◌≡◌, drop}
use Rattle.open_records.specs.Managing.{child_numbers}
use Rattle.open_records.specs.NumberLists.{joined}
use Rattle.record_log.proofs.managing.add_children.Given as goal

-- what is found, with those of the rest, is the whole
abbrev pub invariant-loop-rec : goal.invariant-loop-rec
invariant-loop-rec l =
    joined l.found (child_numbers l.agent (drop l.rec-index l.mine))
    ≡ joined l.initial.found (child_numbers l.agent l.mine)
