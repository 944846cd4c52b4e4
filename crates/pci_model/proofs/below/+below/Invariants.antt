use Rattle.std.proofs.Common.{◌≡◌, ◌+◌, ◌-◌, ◌*◌, ◌++◌, ◌∷◌, [], take}
use Rattle.std.specs.List.{flat_map}
use Rattle.std.specs.Option.{option_map_or}
use Rattle.pci_model.specs.Below.{functions_within}
use Rattle.pci_model.specs.BoardLines.{secondary_of}
use Rattle.pci_model.proofs.below.+below.Given as goal

-- each bridge leaves one bus fewer
abbrev pub decreases-add_below : goal.decreases-add_below
decreases-add_below l = 2 * l.most

abbrev pub decreases-add_function : goal.decreases-add_function
decreases-add_function l = 2 * l.most + 1

abbrev pub invariant-add_below-loop-number : goal.invariant-add_below-loop-number
invariant-add_below-loop-number l =
    l.numbers.items
    ≡ l.initial.numbers.items ++ flat_map (λ number. number ∷ option_map_or (functions_within (l.most - 1) l.board.lines) (secondary_of l.board.lines number) []) (take l.number-index l.number-items)
