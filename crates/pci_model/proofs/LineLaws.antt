-- Lines that are refused, and lines of a board.
use Rattle.std.proofs.Common.{◌≡◌, ◌+◌, List, [], ◌∷◌, ◌++◌, length, Option, Some, None, refl, ap, sym, ◌∙◌, append-nil, append_assoc}
use Rattle.pci_model.specs.BoardRules.{board_fault, fault_after, fault_on, fault_or, line_fault}
use Rattle.pci_model.specs.Laws.{IsRefusedFor}
use Rattle.pci_model.specs.declared.line.BoardLine.{BoardLine}
use Rattle.pci_model.specs.declared.fault.LineFault.{LineFault}
use Rattle.pci_model.specs.declared.fault.BoardFault.{BoardFault}
use Rattle.pci_model.proofs.PassingLines.{board_fault-push, no_lines, none_or}

refused_by : (before : List BoardLine) (line : BoardLine) (lines : List BoardLine) (fault : BoardFault) (kind : Option LineFault) → board_fault before ≡ None → line_fault before line ≡ kind
    → fault_or kind (length before + 1) (fault_after (before ++ line ∷ []) lines) ≡ Some fault
    → (line_fault before line ≡ None → fault_after (before ++ line ∷ []) lines ≡ Some fault → IsRefusedFor ((before ++ line ∷ []) ++ lines) fault)
    → IsRefusedFor (before ++ line ∷ lines) fault
refused_by before line lines fault None ok is h later =
    let rest = later is h in
    record {
      before = rest.before;
      line = rest.line;
      after = rest.after;
      kind = rest.kind;
      whole = sym (append_assoc before (line ∷ []) lines) ∙ rest.whole;
      board = rest.board;
      here = rest.here;
      fault_is = rest.fault_is;
    }
refused_by before line lines fault (Some kind) ok is h later =
    record {
      before = before;
      line = line;
      after = lines;
      kind = kind;
      whole = refl;
      board = ok;
      here = is;
      fault_is = (let fault_is : fault_on kind (length before + 1) ≡ fault = cc in sym fault_is);
    }

refused_from : (before lines : List BoardLine) (fault : BoardFault) → board_fault before ≡ None → fault_after before lines ≡ Some fault → IsRefusedFor (before ++ lines) fault
refused_from before [] fault ok h = absurd cc
refused_from before (line ∷ lines) fault ok h =
    refused_by before line lines fault (line_fault before line) ok refl h
    (λ none later. refused_from (before ++ line ∷ []) lines fault (board_fault-push before line ok none) later)

pub refused_at_first : (lines : List BoardLine) (fault : BoardFault) → board_fault lines ≡ Some fault → IsRefusedFor lines fault
unfolding board_fault
refused_at_first lines fault h = refused_from [] lines fault no_lines h

passes_from : (before front after : List BoardLine) (line : BoardLine) → fault_after before (front ++ line ∷ after) ≡ None → line_fault (before ++ front) line ≡ None
passes_from before [] after line h = rw (append-nil before) (none_or (line_fault before line) (length before + 1) (fault_after (before ++ line ∷ []) after) h).0
passes_from before (first ∷ front) after line h =
    let rest = none_or (line_fault before first) (length before + 1) (fault_after (before ++ first ∷ []) (front ++ line ∷ after)) h in
    ap (λ (b : List BoardLine). line_fault b line) (sym (append_assoc before (first ∷ []) front)) ∙ passes_from (before ++ first ∷ []) front after line rest.1

pub each_passes : (before after : List BoardLine) (line : BoardLine) → board_fault (before ++ line ∷ after) ≡ None → line_fault before line ≡ None
unfolding board_fault
each_passes before after line h = passes_from [] before after line h
