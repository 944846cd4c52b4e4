-- Lines of a board: each passes the rules, given the lines before it.
use Rattle.std.proofs.Common.{◌≡◌, ◌≤◌, ◌<◌, ◌+◌, ℕ, suc, Bool, true, false, cond, List, [], ◌∷◌, ◌++◌, length, take, drop, get_or, Option, Some, None, refl, ap, sym, subst, ◌∙◌, arith, append_assoc, append-nil, drop-cons}
use Rattle.std.proofs.lemmas.List.{length-take-le, take-append-drop, take_all, take_more}
use Rattle.std.specs.Prelude.{find, option_map}
use Rattle.pci_model.specs.BoardRules.{Rule, board_fault, fault_after, fault_on, fault_or, has_bad_class, has_bad_index, has_bad_location, has_bad_vendor, is_extra_function, is_extra_root, has_bad_range, is_of_no_function, is_on_undeclared_bus, leads_to_bus_0, line_fault, repeats_bar, repeats_bus, repeats_function, repeats_rom, rules}
use Rattle.pci_model.specs.declared.line.BoardLine.{BoardLine}
use Rattle.pci_model.specs.declared.fault.LineFault.{LineFault}
use Rattle.pci_model.specs.declared.fault.BoardFault.{BoardFault}

-- ---- a line that passes

-- a line breaks no rule, given the lines before it
pub record Passes (before : List BoardLine) (line : BoardLine) : Type 0 where
  pub roots : is_extra_root before line ≡ false
  pub functions : is_extra_function before line ≡ false
  pub place : has_bad_location line ≡ false
  pub vendor : has_bad_vendor line ≡ false
  pub class : has_bad_class line ≡ false
  pub secondary : leads_to_bus_0 line ≡ false
  pub bus : is_on_undeclared_bus before line ≡ false
  pub owner : is_of_no_function before line ≡ false
  pub index : has_bad_index before line ≡ false
  pub range : has_bad_range line ≡ false
  pub new_bus : repeats_bus before line ≡ false
  pub new_function : repeats_function before line ≡ false
  pub new_bar : repeats_bar before line ≡ false
  pub new_rom : repeats_rom before line ≡ false

-- none of a list of rules is broken
NoneBroken : List BoardLine → BoardLine → List Rule → Type 0
NoneBroken before line [] = Unit {0}
NoneBroken before line (rule ∷ rules) = (rule.breaks before line ≡ false) × NoneBroken before line rules

first_fault : List BoardLine → BoardLine → List Rule → Option LineFault
first_fault before line rules = option_map (λ (rule : Rule). rule.fault) (find (λ (rule : Rule). rule.breaks before line) rules)

none_first : (before : List BoardLine) (line : BoardLine) (rule : Rule) (rules : List Rule) (broken : Bool) → rule.breaks before line ≡ broken → first_fault before line (rule ∷ rules) ≡ None → (broken ≡ false) × (first_fault before line rules ≡ None)
unfolding first_fault
none_first before line rule rules true is h =
    let no : Some rule.fault ≡ None = ap (λ b. option_map (λ (rule : Rule). rule.fault) (cond b (Some rule) (find (λ (rule : Rule). rule.breaks before line) rules))) (sym is) ∙ h in absurd cc
none_first before line rule rules false is h =
    (refl, ap (λ b. option_map (λ (rule : Rule). rule.fault) (cond b (Some rule) (find (λ (rule : Rule). rule.breaks before line) rules))) (sym is) ∙ h)

none_broken : (before : List BoardLine) (line : BoardLine) (rules : List Rule) → first_fault before line rules ≡ None → NoneBroken before line rules
unfolding NoneBroken
none_broken before line [] h = tt
none_broken before line (rule ∷ rules) h =
    let here = none_first before line rule rules (rule.breaks before line) refl h in
    (here.0, none_broken before line rules here.1)

pub passes : (before : List BoardLine) (line : BoardLine) → line_fault before line ≡ None → Passes before line
unfolding line_fault NoneBroken first_fault
passes before line h =
    let all = none_broken before line rules h in
    record {
      roots = all.0;
      functions = all.1.0;
      place = all.1.1.0;
      vendor = all.1.1.1.0;
      class = all.1.1.1.1.0;
      secondary = all.1.1.1.1.1.0;
      bus = all.1.1.1.1.1.1.0;
      owner = all.1.1.1.1.1.1.1.0;
      index = all.1.1.1.1.1.1.1.1.0;
      range = all.1.1.1.1.1.1.1.1.1.0;
      new_bus = all.1.1.1.1.1.1.1.1.1.1.0;
      new_function = all.1.1.1.1.1.1.1.1.1.1.1.0;
      new_bar = all.1.1.1.1.1.1.1.1.1.1.1.1.0;
      new_rom = all.1.1.1.1.1.1.1.1.1.1.1.1.1.0;
    }

-- ---- lines one after the other

pub none_or : (fault : Option LineFault) (number : ℕ) (later : Option BoardFault) → fault_or fault number later ≡ None → (fault ≡ None) × (later ≡ None)
none_or None number later h = (refl, h)
none_or (Some fault) number later h = absurd cc

-- what holds of no lines, and of lines with one more if it passes after them, holds of the lines of a board
module _ (Holds : List BoardLine → Type 0) (more : (before : List BoardLine) (line : BoardLine) → Holds before → Passes before line → Holds (before ++ line ∷ [])) where
  pub holds_after : (before lines : List BoardLine) → Holds before → fault_after before lines ≡ None → Holds (before ++ lines)
  holds_after before [] here none = subst Holds (sym (append-nil before)) here
  holds_after before (line ∷ lines) here none =
      let parts = none_or (line_fault before line) (length before + 1) (fault_after (before ++ line ∷ []) lines) none in
      subst Holds (append_assoc before (line ∷ []) lines)
      (holds_after (before ++ line ∷ []) lines (more before line here (passes before line parts.0)) parts.1)

  pub holds_of_board : (lines : List BoardLine) → Holds [] → board_fault lines ≡ None → Holds lines
  unfolding board_fault
  holds_of_board lines none ok = holds_after [] lines none ok

-- ---- a front of lines that is a board

or-none : (fault : Option LineFault) (number : ℕ) (later : Option BoardFault) → fault ≡ None → fault_or fault number later ≡ later
or-none fault number later none = rw none refl

fault_after-append : (before lines more : List BoardLine) → fault_after before lines ≡ None → fault_after before (lines ++ more) ≡ fault_after (before ++ lines) more
fault_after-append before [] more none = ap (λ (b : List BoardLine). fault_after b more) (sym (append-nil before))
fault_after-append before (line ∷ lines) more none =
    let parts = none_or (line_fault before line) (length before + 1) (fault_after (before ++ line ∷ []) lines) none in
    or-none (line_fault before line) (length before + 1) (fault_after (before ++ line ∷ []) (lines ++ more)) parts.0
    ∙ fault_after-append (before ++ line ∷ []) lines more parts.1
    ∙ ap (λ (b : List BoardLine). fault_after b more) (append_assoc before (line ∷ []) lines)

-- its fault is that of the next line, or of a later one
pub board_fault-next : (before : List BoardLine) (line : BoardLine) (lines : List BoardLine) → board_fault before ≡ None
    → board_fault (before ++ line ∷ lines) ≡ fault_or (line_fault before line) (length before + 1) (fault_after (before ++ line ∷ []) lines)
unfolding board_fault
board_fault-next before line lines ok = fault_after-append [] before (line ∷ lines) ok

-- one more line that has no fault
pub board_fault-push : (before : List BoardLine) (line : BoardLine) → board_fault before ≡ None → line_fault before line ≡ None → board_fault (before ++ line ∷ []) ≡ None
board_fault-push before line ok none = board_fault-next before line [] ok ∙ or-none (line_fault before line) (length before + 1) None none

-- a line that has one
pub board_fault-here : (before : List BoardLine) (line : BoardLine) (lines : List BoardLine) (fault : LineFault) → board_fault before ≡ None → line_fault before line ≡ Some fault
    → board_fault (before ++ line ∷ lines) ≡ Some (fault_on fault (length before + 1))
board_fault-here before line lines fault ok is =
    board_fault-next before line lines ok ∙ ap (λ o. fault_or o (length before + 1) (fault_after (before ++ line ∷ []) lines)) is

-- ---- by the place of the next line

pub front-push : (lines : List BoardLine) (place : ℕ) (line : BoardLine) → place < length lines → line ≡ get_or lines place line → board_fault (take place lines) ≡ None → line_fault (take place lines) line ≡ None
    → board_fault (take (place + 1) lines) ≡ None
front-push lines place line inside is ok none =
    let longer : take (place + 1) lines ≡ take place lines ++ line ∷ [] = take_more lines place line inside ∙ ap (λ (l : BoardLine). take place lines ++ l ∷ []) (sym is) in
    ap board_fault longer ∙ board_fault-push (take place lines) line ok none

pub front-here : (lines : List BoardLine) (place : ℕ) (line : BoardLine) (fault : LineFault) → place < length lines → line ≡ get_or lines place line → board_fault (take place lines) ≡ None → line_fault (take place lines) line ≡ Some fault
    → board_fault lines ≡ Some (fault_on fault (place + 1))
front-here lines place line fault inside is ok here =
    let rest : drop place lines ≡ line ∷ drop (suc place) lines = drop-cons lines place line inside ∙ ap (λ (l : BoardLine). l ∷ drop (suc place) lines) (sym is) in
    let whole : lines ≡ take place lines ++ line ∷ drop (suc place) lines = sym (take-append-drop place lines) ∙ ap (λ (xs : List BoardLine). take place lines ++ xs) rest in
    let front : length (take place lines) ≡ place = length-take-le place lines (omega arith) in
    ap board_fault whole ∙ board_fault-here (take place lines) line (drop (suc place) lines) fault ok here ∙ ap (λ (n : ℕ). Some (fault_on fault (n + 1))) front

-- all of them
pub front-all : (lines : List BoardLine) (place : ℕ) → length lines ≤ place → board_fault (take place lines) ≡ None → board_fault lines ≡ None
front-all lines place past ok = ap board_fault (sym (take_all place lines past)) ∙ ok

pub no_lines : board_fault [] ≡ None
unfolding board_fault
no_lines = refl
