use Rattle.world_model.proofs.ChildLaws.{bus_list_is_set, function_is_of_child, opening_has_bus_lists, pci_io_is_of_child, removing_forgets}
use Rattle.world_model.proofs.laws.children_are_known.Goals as goal

pub returns : goal.returns
returns c = record {
  handle = function_is_of_child;
  pci_io = pci_io_is_of_child;
  removed = removing_forgets;
  bus_list = bus_list_is_set;
  opening = opening_has_bus_lists;
}
