use Rattle.std.proofs.Common.{◌≡◌, drop}
use Rattle.world_model.specs.Undo.{with_thunks}
use Rattle.soft_pieces.proofs.thunks.with_thunks.Given as goal

-- the others, put in their places, give the whole
abbrev pub invariant-loop-thunk : goal.invariant-loop-thunk
invariant-loop-thunk l = with_thunks (drop l.thunk-index l.gone) l.all.items ≡ with_thunks l.gone l.initial.all.items
