use Rattle.std.proofs.Common.{◌≡◌, ◌<◌, ◌++◌, List, [], ◌∷◌, sym, ap, ◌∙◌, arith}
use Rattle.pci_model.specs.BoardRules.{board_fault}
use Rattle.pci_model.specs.declared.line.BoardLine.{BoardLine}
use Rattle.load_gen.specs.GeneratedLoad.{board_lines, function_line}
use Rattle.load_gen.proofs.BoardLemmas.{board_lines-more, next_passes, root_passes}
use Rattle.load_gen.proofs.board.board_lines.Goals as goal

pub loop-number-init : goal.loop-number-init
loop-number-init c =
    let lines : c.push.new.self.items ≡ board_lines 0 = c.in_ok-push.ensures.items ∙ ap (λ (before : List BoardLine). before ++ _) c.new-lines.ensures.items in
    record {
      lines = lines;
      board = ap board_fault lines ∙ c.lines_are_checked.ensures.more [] _ c.lines_are_checked.ensures.none root_passes;
    }

pub loop-number-preserved : goal.loop-number-preserved
loop-number-preserved c =
    let number = c.loop-number.number in
    let before = c.loop-number.invariant in
    let few : number < 256 = omega arith in
    let line : c.function_line.result ≡ function_line number = c.function_line.ensures in
    let pushed : c.push-in-loop-number.new.self.items ≡ board_lines number ++ function_line number ∷ [] =
    c.in_ok-push-2.ensures.items ∙ ap (λ (lines : List BoardLine). lines ++ c.function_line.result ∷ []) before.lines ∙ ap (λ (l : BoardLine). board_lines number ++ l ∷ []) line in
    record {
      lines = pushed ∙ board_lines-more number;
      board = ap board_fault pushed ∙ c.lines_are_checked.ensures.more (board_lines number) (function_line number) (ap board_fault (sym before.lines) ∙ before.board) (next_passes number few);
    }
