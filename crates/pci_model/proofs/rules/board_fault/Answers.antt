use Rattle.std.proofs.Common.{◌≤◌, Some, take, arith, sym, ap, ◌∙◌}
use Rattle.std.proofs.lemmas.List.{length-take-le}
use Rattle.pci_model.specs.declared.fault.BoardFault.{BoardFault}
use Rattle.pci_model.proofs.PassingLines.{front-all, front-here, front-push, no_lines}
use Rattle.pci_model.proofs.BoardLimits.{few_lines}
use Rattle.pci_model.proofs.rules.board_fault.Goals as goal

-- no line is a board
pub loop-place-init : goal.loop-place-init
loop-place-init c = no_lines

-- a board has few lines
few : (c : goal.In-Some) → c.loop-place.place ≤ 2064
few c =
    let all = few_lines (take c.loop-place.place c.args.lines.now) c.loop-place.invariant in
    omega (arith, all, length-take-le c.loop-place.place c.args.lines.now (omega arith))

pub overflow_cast-place : goal.overflow_cast-place
overflow_cast-place c = let small = few c in omega arith

pub overflow_add-place : goal.overflow_add-place
overflow_add-place c = let small = few c in omega arith

pub returns-in-Some : goal.returns-in-Some
returns-in-Some c =
    ap (λ (f : BoardFault). Some f) c.on.ensures
    ∙ sym (front-here c.args.lines.now c.loop-place.place c.index-lines-place.result c.in-Some.fault c.loop-place-test.true c.index-lines-place.is c.loop-place.invariant (sym c.line_fault.ensures ∙ c.in-Some.is))

pub loop-place-preserved : goal.loop-place-preserved
loop-place-preserved c =
    front-push c.args.lines.now c.loop-place.place c.index-lines-place.result c.loop-place-test.true c.index-lines-place.is c.loop-place.invariant (sym c.line_fault.ensures ∙ c.in_default.is)

pub returns : goal.returns
returns c = sym (front-all c.args.lines.now c.loop-place.place c.loop-place-test.false c.loop-place.invariant)
