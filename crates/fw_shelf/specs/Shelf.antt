-- The files of a shelf, and its answer to a name.
use Rattle.std.specs.Prelude.{Bool, true, false, not, ◌&&◌, bytes_eq, Vec, ◌≡◌, ℕ, List, [], ◌∷◌, Option, Some, None, Result, Ok, Err, length, nat_lt, if◌then◌else◌}
use Rattle.std.specs.List.{list_any}
use Rattle.std.specs.Map.{lookup}
use Rattle.std.specs.declared.alloc.Global.{Global}
use Rattle.fw_types.specs.declared.limits.TheConstants.{MOST_FILE_BYTES}
use Rattle.fw_shelf.specs.declared.shelf.ShelfFault.{ShelfFault}
use Rattle.fw_shelf.specs.declared.shelf.ShelfFault.TheVariants.{Failed, TooLong, OutOfMemory}

-- a map from names to bytes, as a list of both
abbrev pub Files : Type 0
Files = List (List ℕ × List ℕ)

-- whether no two files have the same name
abbrev pub names_differ : Files → Bool
names_differ [] = true
names_differ (file ∷ rest) = not (list_any (λ other. bytes_eq other.0 file.0) rest) && names_differ rest

-- what there is under a name: no file, a file with its bytes, or a file that is too long to be read
pub data NamedFile : Type 0 where
  absent : NamedFile
  present : List ℕ → NamedFile
  too_long : NamedFile

-- a file with these bytes, or no file
abbrev pub named_file : Option (List ℕ) → NamedFile
named_file None = absent
named_file (Some bytes) = if nat_lt MOST_FILE_BYTES (length bytes) then too_long else present bytes

-- what there is under this name
abbrev pub file_of : Files → List ℕ → NamedFile
file_of files name = named_file (lookup (λ key. bytes_eq key name) files)

-- an answer says what there is, unless the shelf failed or memory ran out
abbrev pub Gives : Result (Option (Vec ℕ Global)) ShelfFault → NamedFile → Type 0
Gives (Ok None) file = file ≡ absent
Gives (Ok (Some bytes)) file = file ≡ present bytes.items
Gives (Err TooLong) file = file ≡ too_long
Gives (Err Failed) file = Unit {0}
Gives (Err OutOfMemory) file = Unit {0}

-- the same for a shelf whose files are known; about another shelf it says nothing
abbrev pub GivesIfKnown : Option Files → List ℕ → Result (Option (Vec ℕ Global)) ShelfFault → Type 0
GivesIfKnown None name answer = Unit {0}
GivesIfKnown (Some files) name answer = Gives answer (file_of files name)

-- whether an answer is that the shelf failed
abbrev pub is_failed : Result (Option (Vec ℕ Global)) ShelfFault → Bool
is_failed (Err Failed) = true
is_failed (Err TooLong) = false
is_failed (Err OutOfMemory) = false
is_failed (Ok file) = false
