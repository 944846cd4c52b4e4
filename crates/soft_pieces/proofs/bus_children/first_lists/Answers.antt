use Rattle.std.proofs.Common.{ℕ, ◌∷◌, [], ◌++◌, List, Option, None, ap, ◌∙◌}
use Rattle.std.proofs.lemmas.List.{replicate-append-replicate}
use Rattle.soft_pieces.proofs.bus_children.first_lists.Goals as goal

pub loop-preserved : goal.loop-preserved
loop-preserved c =
    let none : Option (List ℕ) = None in
    c.in_ok-push.ensures.items ∙ ap (λ (lists : List (Option (List ℕ))). lists ++ none ∷ []) c.loop.invariant ∙ replicate-append-replicate c.loop.counter 1 none
