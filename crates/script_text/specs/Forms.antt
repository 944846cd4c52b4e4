-- The forms of a script's lines: their words, first words and arguments.
use Rattle.std.specs.Prelude.{ℕ, ◌+◌, ◌-◌, ◌^◌, List, [], ◌∷◌, Bool, false, not, ◌&&◌, ◌||◌, Option, Some, None, bytes_eq, codes, drop, find, is_none, length, nat_eq, nat_lt, slice_get, if◌then◌else◌}
use Rattle.std.specs.List.{after_first, before_first, list_all, starts_with}
use Rattle.text_lines.specs.Words.{is_text_byte, word_at, words}
use Rattle.fw_types.specs.declared.limits.TheConstants.{LEAST_CALL_BUDGET, LEAST_COMMAND_BUDGET, MOST_BUDGET}
use Rattle.fw_types.specs.declared.command.PathArg.{PathArg}
use Rattle.fw_types.specs.declared.command.PathArg.TheVariants.{Null, End, Pci}
use Rattle.script_text.specs.declared.script.TheConstants.{MOST_LISTED_HANDLES, MOST_NAME_BYTES}
use Rattle.script_text.specs.declared.script.ScriptKind.{ScriptKind}
use Rattle.script_text.specs.declared.script.ScriptKind.TheVariants.{TooLong, UnknownWord, Number}
use Rattle.script_text.specs.declared.keyword.Keyword.{Keyword}
use Rattle.script_text.specs.declared.keyword.Keyword.TheVariants.{Root, Func, Bridge, Bar, Rom, Load, Connect, Disconnect, Unload, Platform, Budget, Dump}
use Rattle.script_text.specs.declared.keyword.Argument.{Argument}
use Rattle.script_text.specs.declared.keyword.Argument.TheVariants.{Name, Recursion, Path, Within}
use Rattle.script_text.specs.Numbers.{is_plain_decimal, number_in}

-- ---- words

-- a `#` begins a comment
abbrev pub is_hash : ℕ → Bool
is_hash b = nat_eq b 35

abbrev pub is_dot : ℕ → Bool
is_dot b = nat_eq b 46

-- whether all words have only tabs and printable ASCII characters
abbrev pub are_text : List (List ℕ) → Bool
are_text words = list_all (list_all is_text_byte) words

-- the words of a line: what is between blanks, before the comment
abbrev pub line_words : List ℕ → List (List ℕ)
line_words line = words (before_first is_hash line)

-- ---- the table of lines

-- a number that fits in so many bits. The numbers of a board line are as wide as the fields that they are for; the ranges
-- within that are rules of boards
abbrev pub bits : ℕ → Argument
bits n = Within 0 (2 ^ n - 1)

-- the number of a handle; 0 is NULL
abbrev pub handle : Argument
handle = bits 64

-- the form of a line: its first word, the arguments that have to follow it, and how many handles may
-- follow those
pub record Form : Type 0 where
  pub word : List ℕ
  pub arguments : List Argument
  pub handles_after : ℕ

abbrev pub form : List ℕ → List Argument → ℕ → Form
form word arguments handles_after = record { word = word; arguments = arguments; handles_after = handles_after }

abbrev pub form_of : Keyword → Form
-- UID BUS
form_of Root = form (codes "root") (bits 32 ∷ bits 8 ∷ []) 0
-- BUS DEV FN VENDOR ID CLASS
form_of Func = form (codes "func") (bits 8 ∷ bits 8 ∷ bits 8 ∷ bits 16 ∷ bits 16 ∷ bits 32 ∷ []) 0
-- BUS DEV FN VENDOR ID SECONDARY
form_of Bridge = form (codes "bridge") (bits 8 ∷ bits 8 ∷ bits 8 ∷ bits 16 ∷ bits 16 ∷ bits 8 ∷ []) 0
-- BUS DEV FN INDEX ADDRESS SIZE
form_of Bar = form (codes "bar") (bits 8 ∷ bits 8 ∷ bits 8 ∷ bits 8 ∷ bits 32 ∷ bits 32 ∷ []) 0
-- BUS DEV FN NAME
form_of Rom = form (codes "rom") (bits 8 ∷ bits 8 ∷ bits 8 ∷ Name ∷ []) 0
form_of Load = form (codes "load") (Name ∷ []) 0
form_of Connect = form (codes "connect") (handle ∷ Recursion ∷ Path ∷ []) MOST_LISTED_HANDLES
form_of Disconnect = form (codes "disconnect") (handle ∷ handle ∷ handle ∷ []) 0
form_of Unload = form (codes "unload") (handle ∷ []) 0
form_of Platform = form (codes "platform") (handle ∷ []) MOST_LISTED_HANDLES
form_of Budget = form (codes "budget") (Within LEAST_COMMAND_BUDGET MOST_BUDGET ∷ Within LEAST_CALL_BUDGET MOST_BUDGET ∷ []) 0
form_of Dump = form (codes "dump") [] 0

abbrev pub keywords : List Keyword
keywords = Root ∷ Func ∷ Bridge ∷ Bar ∷ Rom ∷ Load ∷ Connect ∷ Disconnect ∷ Unload ∷ Platform ∷ Budget ∷ Dump ∷ []

-- the keyword whose word comes first, if there is one
abbrev pub keyword_of : List (List ℕ) → Option Keyword
keyword_of words = find (λ keyword. bytes_eq (word_at words 0) (form_of keyword).word) keywords

-- ---- arguments

-- what has to be at a place after the first word, counted from 0
abbrev pub argument_at : Form → ℕ → Option Argument
argument_at form place =
    if nat_lt place (length form.arguments) then slice_get form.arguments place
    else (if nat_lt place (length form.arguments + form.handles_after) then Some handle else None)

abbrev pub is_recursion : List ℕ → Bool
is_recursion word = bytes_eq word (codes "one") || bytes_eq word (codes "all")

-- the device and the function of a path are before and after its dot
abbrev pub device_word : List ℕ → List ℕ
device_word word = before_first is_dot (drop 4 word)

abbrev pub function_word : List ℕ → List ℕ
function_word word = after_first is_dot (drop 4 word)

-- `none`, `end`, or `pci:` and two decimal numbers without leading zeros, with a dot between them
abbrev pub is_path : List ℕ → Bool
is_path word =
    bytes_eq word (codes "none")
    || bytes_eq word (codes "end")
    || (starts_with nat_eq word (codes "pci:") && is_plain_decimal (device_word word) && is_plain_decimal (function_word word))

abbrev pub pci_path : Option ℕ → Option ℕ → Option PathArg
pci_path (Some device) (Some function) = Some (Pci device function)
pci_path (Some device) None = None
pci_path None function = None

-- the path of such a word, if its numbers are in range
abbrev pub path_of : List ℕ → Option PathArg
path_of word =
    if bytes_eq word (codes "none") then Some Null
    else if bytes_eq word (codes "end") then Some End
    else pci_path (number_in 0 31 (device_word word)) (number_in 0 7 (function_word word))

abbrev pub is_long_name : Argument → List ℕ → Bool
is_long_name Name word = nat_lt MOST_NAME_BYTES (length word)
is_long_name _ word = false

abbrev pub is_unknown_word : Argument → List ℕ → Bool
is_unknown_word Recursion word = not (is_recursion word)
is_unknown_word Path word = not (is_path word)
is_unknown_word _ word = false

abbrev pub is_wrong_number : Argument → List ℕ → Bool
is_wrong_number Path word = is_none (path_of word)
is_wrong_number (Within least most) word = is_none (number_in least most word)
is_wrong_number _ word = false

-- whether a word is refused for a kind in the place of an argument
abbrev pub is_refused : ScriptKind → Argument → List ℕ → Bool
is_refused TooLong argument word = is_long_name argument word
is_refused UnknownWord argument word = is_unknown_word argument word
is_refused Number argument word = is_wrong_number argument word
is_refused _ argument word = false

abbrev pub is_refused_at : ScriptKind → Option Argument → List ℕ → Bool
is_refused_at kind None word = false
is_refused_at kind (Some argument) word = is_refused kind argument word

-- whether one of these words is refused for a kind; the first of them is at a place
abbrev pub some_refused : ScriptKind → Form → ℕ → List (List ℕ) → Bool
some_refused kind form place [] = false
some_refused kind form place (word ∷ words) = is_refused_at kind (argument_at form place) word || some_refused kind form (place + 1) words
