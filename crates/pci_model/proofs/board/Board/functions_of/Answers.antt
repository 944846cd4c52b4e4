use Rattle.std.proofs.Common.{ℕ, Some, None, Vec, Global, List, [], ◌∷◌, ◌++◌, append-nil, ap, sym, ◌∙◌, arith}
use Rattle.std.specs.List.{range_with_len}
use Rattle.pci_model.specs.BoardLines.{functions_at}
use Rattle.pci_model.proofs.TableLemmas.{found-all, found_more}
use Rattle.pci_model.proofs.board.Board.functions_of.Goals as goal
use Rattle.pci_model.proofs.board.Board.functions_of.Goals.{in-Some+in_ok-push, in_default}

pub loop-position-preserved : goal.loop-position-preserved
loop-position-preserved c = elim c.match-find.branch [
  | in-Some+in_ok-push w ↦ ap (λ (numbers : Vec ℕ Global). numbers.items) w.numbers-is ∙ w.in_ok-push.ensures.items
      ∙ ap (λ (numbers : List ℕ). numbers ++ w.in-Some.number ∷ []) c.loop-position.invariant
      ∙ sym (found_more c.args.self.now.lines c.args.bus c.loop-position.position (Some w.in-Some.number) (sym c.find.ensures ∙ w.in-Some.is))
  | in_default w ↦ ap (λ (numbers : Vec ℕ Global). numbers.items) w.numbers-is ∙ c.loop-position.invariant
      ∙ sym (append-nil (functions_at c.args.self.now.lines c.args.bus (range_with_len 0 c.loop-position.position)))
      ∙ sym (found_more c.args.self.now.lines c.args.bus c.loop-position.position None (sym c.find.ensures ∙ w.in_default.is))
]

pub returns : goal.returns
returns c = found-all c.args.self.now.lines c.args.bus c.loop-position.position c.loop-position.numbers.items (omega arith) c.loop-position.invariant
