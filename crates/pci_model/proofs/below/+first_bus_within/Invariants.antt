use Rattle.pci_model.proofs.below.+first_bus_within.Given as goal

-- each bridge leaves one step fewer
abbrev pub decreases-first_bus_within : goal.decreases-first_bus_within
decreases-first_bus_within l = l.most
