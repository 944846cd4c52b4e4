-- What the program writes besides reports and listings: each is one line.
use Rattle.std.specs.Prelude.{ℕ, List, [], ◌∷◌, ◌++◌, codes}
use Rattle.std.specs.Fmt.{decimal}
use Rattle.fw_types.specs.declared.image.PeRefusal.{PeRefusal}
use Rattle.script_text.specs.declared.script.ScriptKind.{ScriptKind}
use Rattle.script_text.specs.declared.script.ScriptKind.TheVariants.{TooLong, NotAscii, UnknownWord, Missing, Extra, Number, BoardLate, Duplicate}
use Rattle.report_text.specs.Report.{line, refusal_word}
use Rattle.replay_shell.specs.declared.summary.Summary.{Summary}

-- a file is a script
abbrev pub accepted_line : List ℕ
accepted_line = codes "ok" ++ 10 ∷ []

-- the words have none of the program's forms
abbrev pub usage_line : List ℕ
usage_line = codes "usage: run SCRIPT, check SCRIPT, selftest N, disasm IMAGE" ++ 10 ∷ []

-- there is no file with the name
abbrev pub absent_line : List ℕ
absent_line = codes "no such file" ++ 10 ∷ []

-- the file has more than 16 MiB
abbrev pub too_long_line : List ℕ
too_long_line = codes "file too long" ++ 10 ∷ []

-- why a line is refused
abbrev pub kind_word : ScriptKind → List ℕ
kind_word TooLong = codes "TooLong"
kind_word NotAscii = codes "NotAscii"
kind_word UnknownWord = codes "UnknownWord"
kind_word Missing = codes "Missing"
kind_word Extra = codes "Extra"
kind_word Number = codes "Number"
kind_word BoardLate = codes "BoardLate"
kind_word Duplicate = codes "Duplicate"

-- a line of the script is refused
abbrev pub refused_line : ℕ → ScriptKind → List ℕ
refused_line number kind = line (codes "script" ∷ decimal number ∷ kind_word kind ∷ [])

-- what the load of a size comes to
abbrev pub summary_line : ℕ → Summary → List ℕ
summary_line size summary =
    let totals = summary.totals in
    line (codes "selftest" ∷ decimal size ∷ codes "commands" ∷ decimal totals.commands ∷ codes "units" ∷ decimal totals.units ∷ codes "events" ∷ decimal totals.events ∷ codes "handles" ∷ decimal summary.handles ∷ [])

-- an image is refused
abbrev pub refused_image_line : PeRefusal → List ℕ
refused_image_line refusal = line (codes "image" ∷ refusal_word refusal ∷ [])
