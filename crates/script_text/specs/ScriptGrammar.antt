-- The script: lines of words, each of which is a line of the board, a command or nothing.
-- The lines of a text are std's `lines`: a line feed ends a line, the last may lack it, and a
-- carriage return right before a line feed is dropped.
use Rattle.std.specs.Prelude.{◌≡◌, ℕ, ◌+◌, ◌-◌, ◌^◌, List, [], ◌∷◌, ◌++◌, Bool, true, false, not, ◌&&◌, ◌||◌, Option, Some, None, Result, Ok, Err, bytes_eq, codes, drop, length, map, nat_eq, nat_lt, option_map, unwrap_or, if◌then◌else◌}
use Rattle.std.specs.List.{filter_map, list_all, list_any}
use Rattle.std.specs.Option.{option_or}
use Rattle.std.specs.Str.Lines.{lines}
use Rattle.text_lines.specs.Words.{is_text_byte, word_at}
use Rattle.fw_types.specs.declared.limits.TheConstants.{LEAST_CALL_BUDGET, LEAST_COMMAND_BUDGET, MOST_BUDGET}
use Rattle.fw_types.specs.declared.command.PathArg.TheVariants.{Null}
use Rattle.fw_types.specs.declared.command.Command.{Command}
use Rattle.fw_types.specs.declared.command.Command.TheVariants as command
use Rattle.pci_model.specs.BoardRules.{line_fault}
use Rattle.pci_model.specs.declared.fault.LineFault.{LineFault}
use Rattle.pci_model.specs.declared.fault.LineFault.TheVariants as fault
use Rattle.pci_model.specs.declared.line.BoardLine.{BoardLine}
use Rattle.pci_model.specs.declared.line.BoardLine.TheVariants as board
use Rattle.script_text.specs.declared.script.TheConstants.{MOST_LINE_BYTES, MOST_LINES}
use Rattle.script_text.specs.declared.script.Item.{Item}
use Rattle.script_text.specs.declared.script.Item.TheVariants as item
use Rattle.script_text.specs.declared.script.Script.{Script}
use Rattle.script_text.specs.declared.script.ScriptKind.{ScriptKind}
use Rattle.script_text.specs.declared.script.ScriptKind.TheVariants.{TooLong, NotAscii, UnknownWord, Missing, Extra, Number, BoardLate, Duplicate}
use Rattle.script_text.specs.declared.script.ScriptFault.{ScriptFault}
use Rattle.script_text.specs.declared.script.ScriptFault.TheVariants.{Refused, OutOfMemory}
use Rattle.script_text.specs.declared.keyword.Keyword.{Keyword}
use Rattle.script_text.specs.declared.keyword.Keyword.TheVariants.{Root, Func, Bridge, Bar, Rom, Load, Connect, Disconnect, Unload, Platform, Budget, Dump}
use Rattle.script_text.specs.Numbers.{number_in}
use Rattle.script_text.specs.Forms.{form_of, keyword_of, line_words, path_of, some_refused}

-- ---- what lines give

-- the number of so many bits at a place, or 0 if the word there is no such number
abbrev pub number_at : (bits : ℕ) → List (List ℕ) → (place : ℕ) → ℕ
number_at bits words place = unwrap_or (number_in 0 (2 ^ bits - 1) (word_at words place)) 0

-- the handle at a place, or 0
abbrev pub handle_at : List (List ℕ) → ℕ → ℕ
handle_at words place = number_at 64 words place

-- the handles from a place on
abbrev pub handles_from : List (List ℕ) → ℕ → List ℕ
handles_from words place = map (λ word. unwrap_or (number_in 0 (2 ^ 64 - 1) word) 0) (drop place words)

-- the units at a place, or the least of them if the word there is no number in the range
abbrev pub units_at : List (List ℕ) → ℕ → ℕ → ℕ
units_at words place least = unwrap_or (number_in least MOST_BUDGET (word_at words place)) least

-- the line of the board, or the command, of a line with this keyword
abbrev pub item_for : Keyword → List (List ℕ) → Item
item_for Root words = item.Board (board.Root (number_at 32 words 1) (number_at 8 words 2))
item_for Func words = item.Board (board.Func (number_at 8 words 1) (number_at 8 words 2) (number_at 8 words 3) (number_at 16 words 4) (number_at 16 words 5) (number_at 32 words 6))
item_for Bridge words = item.Board (board.Bridge (number_at 8 words 1) (number_at 8 words 2) (number_at 8 words 3) (number_at 16 words 4) (number_at 16 words 5) (number_at 8 words 6))
item_for Bar words = item.Board (board.Bar (number_at 8 words 1) (number_at 8 words 2) (number_at 8 words 3) (number_at 8 words 4) (number_at 32 words 5) (number_at 32 words 6))
item_for Rom words = item.Board (board.Rom (number_at 8 words 1) (number_at 8 words 2) (number_at 8 words 3) (word_at words 4))
item_for Load words = item.Command (command.Load (word_at words 1))
item_for Connect words = item.Command (command.Connect (handle_at words 1) (bytes_eq (word_at words 2) (codes "all")) (unwrap_or (path_of (word_at words 3)) Null) (handles_from words 4))
item_for Disconnect words = item.Command (command.Disconnect (handle_at words 1) (handle_at words 2) (handle_at words 3))
item_for Unload words = item.Command (command.Unload (handle_at words 1))
item_for Platform words = item.Command (command.Platform (handle_at words 1) (handles_from words 2))
item_for Budget words = item.Command (command.Budget (units_at words 1 LEAST_COMMAND_BUDGET) (units_at words 2 LEAST_CALL_BUDGET))
item_for Dump words = item.Command command.Dump

-- what a line's words give, if they give anything
abbrev pub item_of : List (List ℕ) → Option Item
item_of words = option_map (λ keyword. item_for keyword words) (keyword_of words)

abbrev pub board_line_in : Item → Option BoardLine
board_line_in (item.Board line) = Some line
board_line_in (item.Command command) = None

abbrev pub command_in : Item → Option Command
command_in (item.Board line) = None
command_in (item.Command command) = Some command

-- what lines give, in order
abbrev pub items_of : List (List ℕ) → List Item
items_of lines = filter_map (λ line. item_of (line_words line)) lines

-- the lines of the board and the commands that are among items
abbrev pub script_with : List Item → Script
script_with items = record { board = filter_map board_line_in items; commands = filter_map command_in items }

-- a script with what one more line gives
abbrev pub with_item : Script → Option Item → Script
with_item script None = script
with_item script (Some (item.Board line)) = record script { board = script.board ++ line ∷ [] }
with_item script (Some (item.Command command)) = record script { commands = script.commands ++ command ∷ [] }

-- ---- why a line is refused by itself

-- a test of a line with a keyword, and the answer for a line without one
abbrev pub on_keyword : Bool → (Keyword → Bool) → Option Keyword → Bool
on_keyword without test None = without
on_keyword without test (Some keyword) = test keyword

-- a line with a keyword and a word that is refused for a kind
abbrev pub refuses_word : ScriptKind → Bool → List (List ℕ) → Bool
refuses_word kind without words = on_keyword without (λ keyword. some_refused kind (form_of keyword) 0 (drop 1 words)) (keyword_of words)

-- the line or the name in it has too many bytes, or the line's number is too large; the bytes of a
-- line count with its comment
abbrev pub is_too_long : ℕ → List ℕ → List (List ℕ) → Bool
is_too_long number line words = nat_lt MOST_LINE_BYTES (length line) || nat_lt MOST_LINES number || refuses_word TooLong false words

-- a byte is neither a tab nor a printable ASCII character
abbrev pub is_not_ascii : List ℕ → Bool
is_not_ascii line = not (list_all is_text_byte line)

-- there are words, and the first is no keyword, or a word for recursion or for a path is not in the grammar
abbrev pub has_unknown_word : List (List ℕ) → Bool
has_unknown_word words = not (nat_eq (length words) 0) && refuses_word UnknownWord true words

-- fewer words than the keyword needs, and more than it takes
abbrev pub has_too_few_words : List (List ℕ) → Bool
has_too_few_words words = on_keyword false (λ keyword. nat_lt (length words - 1) (length (form_of keyword).arguments)) (keyword_of words)

abbrev pub has_too_many_words : List (List ℕ) → Bool
has_too_many_words words = on_keyword false (λ keyword. nat_lt (length (form_of keyword).arguments + (form_of keyword).handles_after) (length words - 1)) (keyword_of words)

-- a number is malformed or out of its range
abbrev pub has_wrong_number : List (List ℕ) → Bool
has_wrong_number words = refuses_word Number false words

-- ---- why it is refused, given the lines before it

-- the first rule of boards that a line of the board breaks, given the board lines of the script before it.
-- A malformed number counts as 0 here; its line is refused for the number before it can be refused as a
-- duplicate
abbrev pub fault_after : Script → Option Item → Option LineFault
fault_after before None = None
fault_after before (Some (item.Board line)) = line_fault before.board line
fault_after before (Some (item.Command command)) = None

abbrev pub is_fault : LineFault → Option LineFault → Bool
is_fault kind None = false
is_fault fault.Extra (Some fault.Extra) = true
is_fault fault.Number (Some fault.Number) = true
is_fault fault.Duplicate (Some fault.Duplicate) = true
is_fault kind (Some other) = false

-- it is a line of the board, and the script before it has a command
abbrev pub is_late : Script → Option Item → Bool
is_late before None = false
is_late before (Some (item.Board line)) = not (nat_eq (length before.commands) 0)
is_late before (Some (item.Command command)) = false

-- ---- the kinds

-- the tests of a line with this number, each with its kind, in the order in which they count: those
-- of the line alone, and those of a line after a script
abbrev pub tests_alone : ℕ → List ℕ → List (List ℕ) → List (Bool × ScriptKind)
tests_alone number line words =
    (is_too_long number line words, TooLong)
    ∷ (is_not_ascii line, NotAscii)
    ∷ (has_unknown_word words, UnknownWord)
    ∷ (has_too_few_words words, Missing)
    ∷ []

abbrev pub tests_after : Script → List (List ℕ) → Option Item → List (Bool × ScriptKind)
tests_after before words item =
    (has_too_many_words words || is_fault fault.Extra (fault_after before item), Extra)
    ∷ (has_wrong_number words || is_fault fault.Number (fault_after before item), Number)
    ∷ (is_late before item, BoardLate)
    ∷ (is_fault fault.Duplicate (fault_after before item), Duplicate)
    ∷ []

abbrev pub tests_of : ℕ → Script → List ℕ → List (List ℕ) → List (Bool × ScriptKind)
tests_of number before line words = tests_alone number line words ++ tests_after before words (item_of words)

-- the first kind whose test holds
abbrev pub first_kind : List (Bool × ScriptKind) → Option ScriptKind
first_kind [] = None
first_kind (test ∷ tests) = if test.0 then Some test.1 else first_kind tests

-- the kind for which a line with this number is refused after a script, if it is
abbrev pub kind_after : ℕ → Script → List ℕ → Option ScriptKind
kind_after number before line = first_kind (tests_of number before line (line_words line))

-- ---- the script

-- what text means: a value, or that the line with a number is refused for a kind
pub data Reading (T : Type 0) : Type 0 where
  accepted : T → Reading T
  refused : ℕ → ScriptKind → Reading T

-- the kind for which a line is refused, given the lines before it, if it is
abbrev pub kind_of : List (List ℕ) → List ℕ → Option ScriptKind
kind_of before line = kind_after (length before + 1) (script_with (items_of before)) line

-- the first of these lines that is refused, given those before it, by its number from 1, and its kind
abbrev pub first_refusal : List (List ℕ) → List (List ℕ) → Option (ℕ × ScriptKind)
first_refusal before [] = None
first_refusal before (line ∷ later) = option_or (option_map (λ kind. (length before + 1, kind)) (kind_of before line)) (first_refusal (before ++ line ∷ []) later)

abbrev pub script_unless : Option (ℕ × ScriptKind) → Script → Reading Script
script_unless None script = accepted script
script_unless (Some refusal) script = refused refusal.0 refusal.1

-- bytes as a script, or the first line that is refused
abbrev pub script_of : List ℕ → Reading Script
script_of bytes = script_unless (first_refusal [] (lines bytes)) (script_with (items_of (lines bytes)))

abbrev pub line_unless : Option ScriptKind → ℕ → Option Item → Reading (Option Item)
line_unless None number item = accepted item
line_unless (Some kind) number item = refused number kind

-- what one line with this number gives after a script, or why the line is refused
abbrev pub line_of : ℕ → Script → List ℕ → Reading (Option Item)
line_of number before line = line_unless (kind_after number before line) number (item_of (line_words line))

-- an answer is what the text means, unless memory ran out
abbrev pub Gives : {T : Type 0} → Result T ScriptFault → Reading T → Type 0
Gives (Ok value) reading = reading ≡ accepted value
Gives (Err (Refused line kind)) reading = reading ≡ refused line kind
Gives (Err OutOfMemory) reading = Unit {0}
