use Rattle.std.proofs.Common.{◌≡◌, ◌-◌, ◌+◌, ℕ, map, vec_len}
use Rattle.record_rows.specs.ShownPlaces.{AreStamped, listed_at, listed_in}
use Rattle.record_rows.proofs.shown_places.ShownPlaces.reach.Given as goal

abbrev pub invariant-loop-self : goal.invariant-loop-self
invariant-loop-self l =
    (l.self-inside.changes ≡ l.initial.self-inside.changes) × AreStamped l.self-inside.changes l.self-inside.lists.items
    × ((other : ℕ) → listed_at other (map (listed_in l.self-inside.changes) l.self-inside.lists.items) ≡ listed_at other (map (listed_in l.initial.self-inside.changes) l.initial.self-inside.lists.items))

abbrev pub decreases-loop-self : goal.decreases-loop-self
decreases-loop-self l = l.number + 1 - vec_len l.self-inside.lists
