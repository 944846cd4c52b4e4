use Rattle.std.proofs.Common.{◌≡◌, ◌-◌}
use Rattle.std.specs.List.{list_any, range_with_len}
use Rattle.service_model.specs.Many.{is_named, is_seen, pair_name}
use Rattle.service_rows.proofs.many.is_seen.Given as goal

-- the answer for the rest from here on is the answer for the whole list
abbrev pub invariant-loop-i : goal.invariant-loop-i
invariant-loop-i l =
    list_any (λ i. is_named l.name (pair_name l.list i l.w.now)) (range_with_len l.i (l.seen - l.i)) ≡ is_seen l.name l.list l.seen l.w.now
