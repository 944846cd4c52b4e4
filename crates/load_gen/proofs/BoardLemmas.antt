-- The lines of the board of a load are a board.
use Rattle.std.proofs.Common.{◌≡◌, ◌<◌, ◌+◌, ◌/◌, ◌%◌, ℕ, true, false, List, [], ◌∷◌, ◌++◌, length, get_or, refl, ap, sym, ◌∙◌, arith}
use Rattle.std.specs.Prelude.{Option, Some, None, is_some, map}
use Rattle.std.specs.List.{filter_map, position, range_with_len}
use Rattle.std.proofs.lemmas.Bool.Decides.{nat_tests}
use Rattle.std.proofs.lemmas.List.FromFn.{get_or-map-range_with_len, length-map-range_with_len, map-range_with_len_more}
use Rattle.std.proofs.lemmas.List.Quantifiers.{position-Some}
use Rattle.pci_model.specs.BoardLines.{function_of, functions, is_at}
use Rattle.pci_model.specs.BoardRules.{is_extra_function, has_bad_location, line_fault, repeats_function}
use Rattle.pci_model.specs.declared.line.BoardLine.{BoardLine}
use Rattle.pci_model.specs.declared.line.BoardLine.TheVariants.{Root}
use Rattle.pci_model.specs.declared.function.Function.{Function}
use Rattle.load_gen.specs.GeneratedLoad.{board_lines, function_line}

-- the function with a number
abbrev function : ℕ → Function
function number = record { location = (0, number / 8, number % 8); vendor = 0x1AF4; id = 0x1000 + number; class = 0x020000; secondary = None }

functions-of : (numbers : List ℕ) → filter_map function_of (map function_line numbers) ≡ map function numbers
functions-of [] = refl
functions-of (number ∷ numbers) = ap (λ (others : List Function). function number ∷ others) (functions-of numbers)

functions-board : (size : ℕ) → functions (board_lines size) ≡ map function (range_with_len 0 size)
functions-board size = functions-of (range_with_len 0 size)

-- functions with different numbers are at different locations
apart : (number other : ℕ) → number < other → is_at (function number).location (function other).location ≡ false
apart number other less = grind (arith, nat_tests)

-- there is no function at the location of the next one
free_by : (number : ℕ) (found : Option ℕ) → position (λ (f : Function). is_at f.location (function number).location) (map function (range_with_len 0 number)) ≡ found → is_some found ≡ false
free_by number None is = refl
free_by number (Some place) is =
    let test = λ (f : Function). is_at f.location (function number).location in
    let all = map function (range_with_len 0 number) in
    let facts = position-Some test all place (function 0) is in
    let few : length all ≡ number = length-map-range_with_len function 0 number in
    let here : get_or all place (function 0) ≡ function place = get_or-map-range_with_len function 0 number place place (function 0) (omega arith) (omega arith) in
    let other : test (function place) ≡ false = apart place number (omega arith) in
    let no : true ≡ false = sym facts.1 ∙ ap test here ∙ other in
    absurd cc

free : (number : ℕ) → repeats_function (board_lines number) (function_line number) ≡ false
free number = rw (functions-board number) (free_by number _ refl)

room : (number : ℕ) → number < 256 → is_extra_function (board_lines number) (function_line number) ≡ false
room number few =
    let count : length (functions (board_lines number)) ≡ number = ap length (functions-board number) ∙ length-map-range_with_len function 0 number in
    rw count (grind (arith, nat_tests))

on_bus : (number : ℕ) → number < 256 → has_bad_location (function_line number) ≡ false
on_bus number few = grind (arith, nat_tests)

-- the next function has no fault
pub next_passes : (number : ℕ) → number < 256 → line_fault (board_lines number) (function_line number) ≡ None
unfolding line_fault
next_passes number few = rw (room number few, on_bus number few, free number) refl

-- the root bridge by itself is a board
pub root_passes : line_fault [] (Root 0 0) ≡ None
unfolding line_fault
root_passes = refl

-- one more line
pub board_lines-more : (number : ℕ) → board_lines number ++ function_line number ∷ [] ≡ board_lines (number + 1)
board_lines-more number = ap (λ (lines : List BoardLine). Root 0 0 ∷ lines) (sym (map-range_with_len_more function_line 0 number number (omega arith)))
