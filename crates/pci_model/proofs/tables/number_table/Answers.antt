use Rattle.std.proofs.Common.{None, get_or}
use Rattle.pci_model.specs.declared.function.Function.{Function}
use Rattle.pci_model.proofs.TableLemmas.{get-any, numbers_more}
use Rattle.pci_model.proofs.tables.number_table.Goals as goal

pub loop-number-preserved : goal.loop-number-preserved
loop-number-preserved c location =
    let nobody : Function = record { location = (0, 0, 0); vendor = 0; id = 0; class = 0; secondary = None } in
    let function : Function = get_or c.args.functions.now c.loop-number.number nobody in
    numbers_more c.args.functions.now c.loop-number.number function c.loop-number.table c.insert.new.self location c.requires.once c.loop-number-test.true
    (get-any c.args.functions.now c.loop-number.number nobody function c.loop-number-test.true) (c.loop-number.invariant location) (c.in_ok-insert.ensures.updates.0 location)
