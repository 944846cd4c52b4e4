-- What the program answers to its words over the files of a shelf: a status and the whole text that it writes. The last
-- definition, `answer_of`, puts all of it together.
use Rattle.std.specs.Prelude.{ℕ, List, [], ◌∷◌, ◌++◌, Bool, true, false, Option, Some, None, bytes_eq, codes, count_by, length, map, nat_le, option_map, slice_range, sum_by, String, string_bytes, if◌then◌else◌}
use Rattle.std.specs.List.{concat}
use Rattle.std.specs.declared.alloc.Global.{Global}
use Rattle.fw_types.specs.declared.command.Command.{Command}
use Rattle.fw_types.specs.declared.command.Command.TheVariants.{Dump}
use Rattle.fw_types.specs.declared.dump.DumpLine.{DumpLine}
use Rattle.fw_types.specs.declared.dump.DumpLine.TheVariants.{Handle, Proto, Entry}
use Rattle.fw_types.specs.declared.image.PeRefusal.{PeRefusal}
use Rattle.fw_types.specs.declared.reply.Reply.{Reply}
use Rattle.fw_shelf.specs.Shelf.{Files, NamedFile, absent, file_of, present, too_long}
use Rattle.pe_image.specs.ImageRules.{code_end_of, entry_of, refusal_of}
use Rattle.pe_image.specs.LaidImage.{laid}
use Rattle.ebc_asm.specs.Listing.{listing}
use Rattle.pci_model.specs.Devices.{board_of}
use Rattle.script_text.specs.declared.script.Script.{Script}
use Rattle.script_text.specs.Numbers.{numeral, only_between}
use Rattle.script_text.specs.ScriptGrammar.{Reading, accepted, refused, script_of}
use Rattle.report_text.specs.Report.{boot_text, reply_text}
use Rattle.load_gen.specs.GeneratedLoad as load
use Rattle.load_gen.specs.declared.load.TheConstants.{LARGEST_LOAD}
use Rattle.bind_engine.specs.Machine.{MachineView}
use Rattle.bind_engine.specs.Boot.{boot_notes, booted}
use Rattle.bind_engine.specs.Commands.{exec}
use Rattle.replay_shell.specs.declared.summary.Summary.{Summary}
use Rattle.replay_shell.specs.declared.summary.Totals.{Totals}
use Rattle.replay_shell.specs.OtherTexts.{absent_line, accepted_line, refused_image_line, refused_line, summary_line, too_long_line, usage_line}

-- ---- the words

-- the words as lists of bytes
abbrev pub words_in : List (String Global) → List (List ℕ)
words_in words = map string_bytes words

-- what the words ask for: the report of the script in a file, whether the file is a script, the summary of the
-- load of a size, or the listing of the image in a file
pub data Form : Type 0 where
  run : List ℕ → Form
  check : List ℕ → Form
  selftest : ℕ → Form
  disasm : List ℕ → Form

-- the size of a load: one to three decimal digits that write a number from 1 to 256
abbrev pub size_in : List ℕ → Option ℕ
size_in word = if nat_le (length word) 3 then only_between 1 LARGEST_LOAD (numeral 10 word) else None

-- the form that a verb and the word after it have
abbrev pub form_of_verb : List ℕ → List ℕ → Option Form
form_of_verb verb word =
    if bytes_eq verb (codes "run") then Some (run word)
    else if bytes_eq verb (codes "check") then Some (check word)
    else if bytes_eq verb (codes "selftest") then option_map selftest (size_in word)
    else if bytes_eq verb (codes "disasm") then Some (disasm word)
    else None

-- the form of the words, if they have one
abbrev pub form_of : List (List ℕ) → Option Form
form_of [] = None
form_of (verb ∷ []) = None
form_of (verb ∷ word ∷ []) = form_of_verb verb word
form_of (verb ∷ word ∷ other ∷ others) = None

-- ---- the report of a script

-- the machine at first, with the script's board
abbrev pub first_machine : Files → Script → MachineView
first_machine files script = booted files (board_of script.board)

-- the texts of commands and their replies, one after the other
abbrev pub texts : Files → MachineView → List Command → List (List ℕ)
texts files machine [] = []
texts files machine (command ∷ commands) =
    let after : Reply × MachineView = exec command files machine in
    reply_text command after.0 ∷ texts files after.1 commands

-- the notes of the opening: which functions of the script's board have no option ROM although a line names one
abbrev pub opening_text : Files → Script → List ℕ
opening_text files script = boot_text (boot_notes files (board_of script.board))

-- the texts of the script's replies
abbrev pub reply_texts : Files → Script → List (List ℕ)
reply_texts files script = texts files (first_machine files script) script.commands

-- the notes, and then the texts
abbrev pub report : Files → Script → List ℕ
report files script = opening_text files script ++ concat (reply_texts files script)

-- ---- the summary of a script

-- the replies to commands, one after the other
abbrev pub replies : Files → MachineView → List Command → List Reply
replies files machine [] = []
replies files machine (command ∷ commands) =
    let after : Reply × MachineView = exec command files machine in
    after.0 ∷ replies files after.1 commands

-- the machine after these commands
abbrev pub machine_after : Files → MachineView → List Command → MachineView
machine_after files machine [] = machine
machine_after files machine (command ∷ commands) = machine_after files (exec command files machine).1 commands

-- whether a line of a dump is that of a handle
abbrev pub is_handle : DumpLine → Bool
is_handle (Handle number) = true
is_handle (Proto guid interface owner) = false
is_handle (Entry agent controller attr count) = false

-- how many handles are live: the handles that a dump lists
abbrev pub live_handles : Files → MachineView → ℕ
live_handles files machine = count_by is_handle (exec Dump files machine).0.dump

-- sums over replies
abbrev pub totals_of : List Reply → Totals
totals_of replies = record {
  commands = length replies;
  units = sum_by (λ (reply : Reply). reply.units) replies;
  events = sum_by (λ (reply : Reply). length reply.events) replies;
}

-- the sums over the replies of a script, and the live handles after the last of its commands
abbrev pub summary_of : Files → Script → Summary
summary_of files script = record {
  totals = totals_of (replies files (first_machine files script) script.commands);
  handles = live_handles files (machine_after files (first_machine files script) script.commands);
}

-- ---- the listing of an image

-- The code, laid at 0, is listed from the entry to the end of the section that holds the entry. If no section holds it,
-- the listing is empty.
abbrev pub code_listing_to : Option ℕ → List ℕ → List ℕ
code_listing_to None file = []
code_listing_to (Some end) file = listing (slice_range (laid file 0) (entry_of file) end) (entry_of file)

abbrev pub code_listing : List ℕ → List ℕ
code_listing file = code_listing_to (code_end_of file) file

-- ---- the answer

pub record Answer : Type 0 where
  pub status : ℕ
  pub text : List ℕ

abbrev pub answer : ℕ → List ℕ → Answer
answer status text = record { status = status; text = text }

-- the file with a name is absent, there, or too long
abbrev pub answer_to_file : (List ℕ → Answer) → NamedFile → Answer
answer_to_file answer_to_bytes absent = answer 6 absent_line
answer_to_file answer_to_bytes (present bytes) = answer_to_bytes bytes
answer_to_file answer_to_bytes too_long = answer 7 too_long_line

-- the report of a script, or the line that says which of its lines is refused
abbrev pub script_answer : Files → Reading Script → Answer
script_answer files (accepted script) = answer 0 (report files script)
script_answer files (refused number kind) = answer 2 (refused_line number kind)

-- `ok`, or that line
abbrev pub check_answer : Reading Script → Answer
check_answer (accepted script) = answer 0 accepted_line
check_answer (refused number kind) = answer 2 (refused_line number kind)

-- the summary of the load of a size; the load has its own files
abbrev pub summary_answer : ℕ → Answer
summary_answer size = answer 0 (summary_line size (summary_of load.files (load.script size)))

-- the listing of an image, or the line that says why it is refused
abbrev pub image_answer : Option PeRefusal → List ℕ → Answer
image_answer None file = answer 0 (code_listing file)
image_answer (Some refusal) file = answer 8 (refused_image_line refusal)

abbrev pub form_answer : Files → Option Form → Answer
form_answer files None = answer 1 usage_line
form_answer files (Some (run name)) = answer_to_file (λ bytes. script_answer files (script_of bytes)) (file_of files name)
form_answer files (Some (check name)) = answer_to_file (λ bytes. check_answer (script_of bytes)) (file_of files name)
form_answer files (Some (selftest size)) = summary_answer size
form_answer files (Some (disasm name)) = answer_to_file (λ file. image_answer (refusal_of file) file) (file_of files name)

-- the answer to words over these files
abbrev pub answer_of : Files → List (List ℕ) → Answer
answer_of files words = form_answer files (form_of words)
