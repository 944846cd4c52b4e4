-- What the steps of an answer come to.
use Rattle.std.specs.Prelude.{◌≡◌, ◌≤◌, ℕ, List, [], ◌∷◌, ◌++◌, Option, Some, None, Result, Ok, Err, Vec, length, map}
use Rattle.std.specs.declared.alloc.Global.{Global}
use Rattle.fw_types.specs.declared.limits.TheConstants.{MOST_FILE_BYTES}
use Rattle.fw_shelf.specs.Shelf.{NamedFile, absent, present, too_long}
use Rattle.image_tools.specs.declared.answer.Answer.{Answer}
use Rattle.image_tools.specs.declared.files.Found.{Found}
use Rattle.image_tools.specs.declared.files.Found.TheVariants.{Absent, Present, TooLong}
use Rattle.image_tools.specs.ToolTexts.{absent_line, too_long_line}
use Rattle.image_tools.specs.Tools.{answer}

-- what was found has at most as many bytes as a file may have
abbrev pub IsShort : Found → Type 0
IsShort Absent = Unit {0}
IsShort (Present bytes) = length bytes ≤ MOST_FILE_BYTES
IsShort TooLong = Unit {0}

-- vectors of bytes as lists
abbrev pub bytes_in : List (Vec ℕ Global) → List (List ℕ)
bytes_in bodies = map (λ body. body.items) bodies

-- one file more: its bytes are the last of those found, or the answer says why it has none
abbrev pub AddsBody : List ℕ → NamedFile → Option Answer → List (Vec ℕ Global) → List (Vec ℕ Global) → Type 0
AddsBody name absent refusal old new = refusal ≡ Some (answer 6 (absent_line name))
AddsBody name (present bytes) refusal old new = (refusal ≡ None) × (bytes_in new ≡ bytes_in old ++ bytes ∷ [])
AddsBody name too_long refusal old new = refusal ≡ Some (answer 7 (too_long_line name))

-- the bytes of all files, or the answer that says why one of them has none
abbrev pub bodies_value : Result (Vec (Vec ℕ Global) Global) Answer → Result (List (List ℕ)) Answer
bodies_value (Ok bodies) = Ok (bytes_in bodies.items)
bodies_value (Err refusal) = Err refusal
