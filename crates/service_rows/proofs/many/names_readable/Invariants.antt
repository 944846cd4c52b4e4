use Rattle.std.proofs.Common.{◌≡◌, ◌-◌}
use Rattle.std.specs.List.{range_with_len}
use Rattle.service_model.specs.Words.{each}
use Rattle.service_model.specs.Many.{name_readable}
use Rattle.service_rows.proofs.many.names_readable.Given as goal

-- the answer for the rest from here on is the answer for the whole list
abbrev pub invariant-loop-i : goal.invariant-loop-i
invariant-loop-i l =
    each (name_readable l.list l.w.now) (range_with_len l.i (l.count - l.i)) ≡ each (name_readable l.list l.w.now) (range_with_len 0 l.count)
