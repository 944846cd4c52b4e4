-- How the program may end: it ends with its answer, or it gives up after a prefix of the answer's text was taken.
use Rattle.std.specs.Prelude.{◌≡◌, ◌≤◌, ℕ, List, [], ◌++◌, Bool, true, false, ◌||◌, Option, Some, None, Result, Ok, Err, nat_eq, slice_get, take, ◌⊎◌}
use Rattle.std.specs.List.{concat}
use Rattle.std.specs.Option.{option_map_or}
use Rattle.fw_types.specs.declared.command.Command.{Command}
use Rattle.fw_shelf.specs.Shelf.{Files, NamedFile, absent, file_of, present, too_long}
use Rattle.fw_shelf.specs.Sink.{with_bytes, TakesProperPrefix}
use Rattle.script_text.specs.declared.script.Script.{Script}
use Rattle.script_text.specs.ScriptGrammar.{Reading, accepted, refused, script_of}
use Rattle.load_gen.specs.declared.load.TheConstants.{LARGEST_LOAD}
use Rattle.bind_engine.specs.Commands.{reads_file}
use Rattle.replay_shell.specs.declared.words.Form.{Form as FormOfCode}
use Rattle.replay_shell.specs.declared.words.Form.TheVariants.{Run, Check, Selftest, Disasm}
use Rattle.replay_shell.specs.declared.replay.Stop.{Stop}
use Rattle.replay_shell.specs.declared.replay.Stop.TheVariants.{Shelf, Sink, Memory}
use Rattle.replay_shell.specs.Headline.{Answer, Form, answer_of, check, disasm, form_of, opening_text, reply_texts, run, selftest}

-- ---- what the words ask for

-- the form that a value of the code means: it has the name itself in place of a reference to it
abbrev pub form_value : FormOfCode → Form
form_value (Run name) = run name.now
form_value (Check name) = check name.now
form_value (Selftest size) = selftest size
form_value (Disasm name) = disasm name.now

-- the size of a load, if the form has one, is from 1 to the largest
abbrev pub HasSize : FormOfCode → Type 0
HasSize (Run name) = Unit {0}
HasSize (Check name) = Unit {0}
HasSize (Selftest size) = (1 ≤ size) × (size ≤ LARGEST_LOAD)
HasSize (Disasm name) = Unit {0}

-- whether a form names a file
abbrev pub names_file : Option Form → Bool
names_file None = false
names_file (Some (run name)) = true
names_file (Some (check name)) = true
names_file (Some (selftest size)) = false
names_file (Some (disasm name)) = true

-- The script that is replayed over the files of the shelf, or an empty script if none is replayed.

abbrev pub no_script : Script
no_script = record { board = []; commands = [] }

abbrev pub read_script : Reading Script → Script
read_script (accepted script) = script
read_script (refused number kind) = no_script

abbrev pub file_script : NamedFile → Script
file_script absent = no_script
file_script (present bytes) = read_script (script_of bytes)
file_script too_long = no_script

abbrev pub form_script : Files → Option Form → Script
form_script files None = no_script
form_script files (Some (run name)) = file_script (file_of files name)
form_script files (Some (check name)) = no_script
form_script files (Some (selftest size)) = no_script
form_script files (Some (disasm name)) = no_script

abbrev pub script_for : Files → List (List ℕ) → Script
script_for files words = form_script files (form_of words)

-- the whole text that words ask for
abbrev pub text_for : Files → List (List ℕ) → List ℕ
text_for files words = (answer_of files words).text

-- ---- the answer, or a prefix of its text

-- the status is the answer's, and exactly the answer's text was taken
abbrev pub IsAnswered : Files → List (List ℕ) → ℕ → Option (List ℕ) → Option (List ℕ) → Type 0
IsAnswered files words status old new = (status ≡ (answer_of files words).status) × (new ≡ with_bytes old (text_for files words))

-- whether the program gives up with a status: the shelf failed, the sink failed, or memory ran out
abbrev pub gives_up : ℕ → Bool
gives_up status = nat_eq status 3 || nat_eq status 4 || nat_eq status 5

-- a prefix of a text was taken, which may be all of it
abbrev pub TakesPrefix : Option (List ℕ) → List ℕ → Option (List ℕ) → Type 0
TakesPrefix old text new = (n : ℕ) × (new ≡ with_bytes old (take n text))

-- whether the command at a place reads a file
abbrev pub reads_at : List Command → ℕ → Bool
reads_at commands place = option_map_or reads_file (slice_get commands place) false

-- nothing was taken; or the notes of the opening were taken, and the texts of the replies to the commands before one
-- that reads a file
abbrev pub StopsAtRead : Files → Script → Option (List ℕ) → Option (List ℕ) → Type 0
StopsAtRead files script old new =
    (new ≡ old)
    ⊎ ((k : ℕ) × (reads_at script.commands k ≡ true) × (new ≡ with_bytes old (opening_text files script ++ concat (take k (reply_texts files script)))))

-- How the program ends if this is its answer and this its script. It ends with the answer, or it gives up after a
-- prefix of the text was taken. That prefix is not the whole text if the sink failed.
abbrev pub EndsWith : Answer → Files → Script → Result ℕ Stop → Option (List ℕ) → Option (List ℕ) → Type 0
EndsWith a files script (Ok status) old new = (status ≡ a.status) × (new ≡ with_bytes old a.text)
EndsWith a files script (Err Shelf) old new = StopsAtRead files script old new
EndsWith a files script (Err Sink) old new = TakesProperPrefix old a.text new
EndsWith a files script (Err Memory) old new = TakesPrefix old a.text new

-- the same for words over files
abbrev pub Ends : Files → List (List ℕ) → Result ℕ Stop → Option (List ℕ) → Option (List ℕ) → Type 0
Ends files words result old new = EndsWith (answer_of files words) files (script_for files words) result old new
