use Rattle.std.proofs.Common.{◌-◌, ◌+◌, ℕ, map, vec_len}
use Rattle.std.specs.Prelude.{Vec}
use Rattle.std.specs.declared.alloc.Global.{Global}
use Rattle.record_rows.specs.IndexInside.{AreSame}
use Rattle.record_rows.proofs.place_lists.PlaceLists.reach.Given as goal

abbrev pub invariant-loop-self : goal.invariant-loop-self
invariant-loop-self l =
    AreSame (map (λ (list : Vec ℕ Global). list.items) l.initial.self-inside.lists.items) (map (λ (list : Vec ℕ Global). list.items) l.self-inside.lists.items)

abbrev pub decreases-loop-self : goal.decreases-loop-self
decreases-loop-self l = l.number + 1 - vec_len l.self-inside.lists
