use Rattle.std.proofs.Common.{nat_le, ap, ◌∙◌}
use Rattle.std.specs.List.{list_all}
use Rattle.pci_model.specs.declared.function.BarRange.{BarRange}
use Rattle.pci_model.proofs.TableLemmas.{low_ranges}
use Rattle.pci_model.proofs.tables.device_of.Goals as goal

pub new-requires : goal.new-requires
new-requires c =
    ap (list_all (λ (range : BarRange). nat_le range.index 5)) (c.as_slice.ensures.value ∙ c.in_ok-ranges.ensures)
    ∙ low_ranges c.args.lines.now c.args.function.now.location c.requires
