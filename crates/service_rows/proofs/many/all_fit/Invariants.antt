use Rattle.std.proofs.Common.{◌≡◌, ◌-◌}
use Rattle.std.specs.List.{range_with_len}
use Rattle.service_model.specs.Words.{each}
use Rattle.service_model.specs.Many.{pair_fits}
use Rattle.service_rows.proofs.many.all_fit.Given as goal

-- the answer for the rest from here on is the answer for the whole list
abbrev pub invariant-loop-i : goal.invariant-loop-i
invariant-loop-i l =
    each (pair_fits l.handle l.list l.w.now) (range_with_len l.i (l.count - l.i)) ≡ each (pair_fits l.handle l.list l.w.now) (range_with_len 0 l.count)
