use Rattle.std.proofs.Common.{◌≡◌, ◌++◌, map, take, drop}
use Rattle.handle_db.specs.OwnedInterfaces.{without_interfaces_of}
use Rattle.handle_db.proofs.owned.drop_owned.Given as goal

-- the entries so far are done, and the others as they were
abbrev pub invariant-loop-entry : goal.invariant-loop-entry
invariant-loop-entry l =
    l.entry-items ≡ map (without_interfaces_of l.image l.own) (take l.entry-index l.initial.entry-items) ++ drop l.entry-index l.initial.entry-items
