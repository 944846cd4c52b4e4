use Rattle.std.proofs.Common.{length, map, ap, sym, subst, ◌∙◌, arith}
use Rattle.std.specs.List.{position}
use Rattle.pci_model.specs.BoardLines.{is_at}
use Rattle.pci_model.specs.ConfigSpace.{first_device}
use Rattle.pci_model.specs.Indexed.{OnceEach}
use Rattle.pci_model.specs.declared.function.Function.{Function}
use Rattle.pci_model.proofs.BoardLimits.{few_functions}
use Rattle.pci_model.proofs.TableLemmas.{once_each}
use Rattle.pci_model.proofs.FirstDevices.{indexed}
use Rattle.pci_model.proofs.board.board_of.Goals as goal

pub number_table-requires-clause-few : goal.number_table-requires-clause-few
number_table-requires-clause-few c =
    omega (arith, few_functions c.args.lines.now c.requires, ap length (c.as_slice.ensures.value ∙ c.in_ok-functions.ensures))

pub number_table-requires-clause-once : goal.number_table-requires-clause-once
number_table-requires-clause-once c =
    subst OnceEach (sym (c.as_slice.ensures.value ∙ c.in_ok-functions.ensures)) (once_each c.args.lines.now c.requires)

pub invariant_of-result : goal.invariant_of-result
invariant_of-result c =
    indexed c.args.lines.now c.in_ok-lines.lines.items c.in_ok-roots.roots.items c.in_ok-functions.functions.items c.in_ok-numbers.numbers c.in_ok-devices.devices.items c.requires
    c.in_ok-lines.ensures c.in_ok-roots.ensures c.in_ok-functions.ensures
    (λ location. c.in_ok-numbers.ensures location ∙ ap (position (λ (function : Function). is_at function.location location)) c.as_slice.ensures.value)
    (c.in_ok-devices.ensures ∙ ap (map (first_device c.args.lines.now)) c.as_slice-2.ensures.value)
