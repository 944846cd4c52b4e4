-- What the runtime says about a file, and the answer that is made from it.
use Rattle.std.specs.Prelude.{◌≡◌, ◌≢◌, Vec, ℕ, List, Option, Some, None, Result, Ok, Err}
use Rattle.std.specs.declared.alloc.Global.{Global}
use Rattle.std.specs.declared.io.Error.{Error}
use Rattle.std.specs.declared.io.ErrorKind.TheVariants.{NotFound}
use Rattle.std.specs.IoError.{error_kind}
use Rattle.fw_shelf.specs.declared.shelf.ShelfFault.{ShelfFault}
use Rattle.fw_shelf.specs.declared.shelf.ShelfFault.TheVariants.{Failed}
use Rattle.fw_shelf.specs.Shelf.{Gives, named_file}

-- opening gave a file, or said that it is not found, or failed
abbrev pub OpensAs : {F : Type 0} → Result F Error → Result (Option F) ShelfFault → Type 0
OpensAs (Ok file) answer = answer ≡ Ok (Some file)
OpensAs (Err error) answer =
    (error_kind error ≡ NotFound → answer ≡ Ok None)
    × (error_kind error ≢ NotFound → answer ≡ Err Failed)

-- the answer is the file whose bytes a reader has left, if they are known
abbrev pub GivesRest : Option (List ℕ) → Result (Option (Vec ℕ Global)) ShelfFault → Type 0
GivesRest None answer = Unit {0}
GivesRest (Some left) answer = Gives answer (named_file (Some left))
