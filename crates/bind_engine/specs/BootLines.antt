-- The boot line by line, as the code goes through the lines of a board.
use Rattle.std.specs.Prelude.{◌≡◌, ℕ, List, Option, Some, None, Result, Ok, Err, slice_set}
use Rattle.std.specs.declared.vec.Vec.{Vec}
use Rattle.std.specs.declared.alloc.Global.{Global}
use Rattle.fw_types.specs.declared.image.RomNoteKind.{RomNoteKind}
use Rattle.fw_shelf.specs.Shelf.{Files, file_of}
use Rattle.pci_model.specs.BoardLines.{find_at}
use Rattle.pci_model.specs.declared.line.BoardLine.{BoardLine}
use Rattle.pci_model.specs.declared.line.BoardLine.TheVariants.{Root, Func, Bridge, Bar, Rom}
use Rattle.bind_engine.specs.Boot.{rom_in_file}

-- the ROM that a file gave, and the reason if it gave none
abbrev pub rom_given : Result (Vec ℕ Global) RomNoteKind → Option (List ℕ)
rom_given (Ok bytes) = Some bytes.items
rom_given (Err kind) = None

abbrev pub fault_given : Result (Vec ℕ Global) RomNoteKind → Option RomNoteKind
fault_given (Ok bytes) = None
fault_given (Err kind) = Some kind

-- no function has a ROM before the first line
abbrev pub no_rom : (number : ℕ) → Option (List ℕ)
no_rom number = None

-- the ROMs, with that of one function set
abbrev pub with_rom : Option ℕ → Option (List ℕ) → List (Option (List ℕ)) → List (Option (List ℕ))
with_rom None rom roms = roms
with_rom (Some number) None roms = roms
with_rom (Some number) (Some bytes) roms = slice_set roms number (Some bytes)

-- the ROMs after one more line of a board
abbrev pub roms_after : Files → List BoardLine → List (Option (List ℕ)) → BoardLine → List (Option (List ℕ))
roms_after files lines roms (Root uid bus) = roms
roms_after files lines roms (Func bus device function vendor id class) = roms
roms_after files lines roms (Bridge bus device function vendor id secondary) = roms
roms_after files lines roms (Bar bus device function index address size) = roms
roms_after files lines roms (Rom bus device function name) = with_rom (find_at lines (bus, device, function)) (rom_in_file (file_of files name)) roms
