use Rattle.std.proofs.Common.{ap, sym, ◌∙◌}
use Rattle.std.specs.Prelude.{option_copied}
use Rattle.pci_model.specs.BoardLines.{name_at}
use Rattle.pci_model.proofs.TableLemmas.{first_given, given-none}
use Rattle.pci_model.proofs.tables.name_in.Goals as goal

-- a line that gives a name, after those that give none
pub returns-in-Some : goal.returns-in-Some
returns-in-Some c =
    sym (first_given (name_at c.args.location) c.args.lines.now c.loop-line.line-index c.line-item.result c.in-Some.name.now c.loop-line-test.true c.line-item.is c.loop-line.invariant (sym c.name_at.ensures ∙ ap option_copied c.in-Some.is))

pub loop-line-preserved : goal.loop-line-preserved
loop-line-preserved c =
    given-none (name_at c.args.location) c.args.lines.now c.loop-line.line-index c.line-item.result c.loop-line-test.true c.line-item.is c.loop-line.invariant (sym c.name_at.ensures ∙ ap option_copied c.in_default.is)
