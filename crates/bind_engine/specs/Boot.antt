-- The machine after the boot: the opening state of a board, whose functions have the option ROMs that its lines name.
use Rattle.std.specs.Prelude.{ℕ, List, [], map, length, Bool, true, false, nat_lt, Option, Some, None, option_map, option_and_then, if◌then◌else◌}
use Rattle.std.specs.List.{filter_map, list_any, range_with_len}
use Rattle.fw_types.specs.declared.limits.TheConstants.{CALL_BUDGET, COMMAND_BUDGET}
use Rattle.fw_types.specs.declared.image.RomNote.{RomNote}
use Rattle.fw_types.specs.declared.image.RomNoteKind.{RomNoteKind}
use Rattle.fw_types.specs.declared.image.RomNoteKind.TheVariants.{Missing, TooLong}
use Rattle.fw_shelf.specs.Shelf.{Files, NamedFile, absent, file_of, present, too_long}
use Rattle.pci_model.specs.BoardLines.{functions, rom_name_of}
use Rattle.pci_model.specs.Devices.{BoardState}
use Rattle.pci_model.specs.declared.line.BoardLine.{BoardLine}
use Rattle.pci_model.specs.declared.line.BoardLine.TheVariants.{Root, Func, Bridge, Bar, Rom}
use Rattle.pci_model.specs.declared.numbers.TheConstants.{MOST_ROM_BYTES}
use Rattle.world_model.specs.Opening.{opening}
use Rattle.bind_engine.specs.Machine.{MachineView}

-- ---- the file of an option ROM

-- why a file gives no ROM: it is absent, or has more bytes than an option ROM may have
abbrev pub rom_fault : NamedFile → Option RomNoteKind
rom_fault absent = Some Missing
rom_fault (present bytes) = if nat_lt MOST_ROM_BYTES (length bytes) then Some TooLong else None
rom_fault too_long = Some TooLong

-- the ROM that a file gives
abbrev pub rom_in_file : NamedFile → Option (List ℕ)
rom_in_file absent = None
rom_in_file (present bytes) = if nat_lt MOST_ROM_BYTES (length bytes) then None else Some bytes
rom_in_file too_long = None

-- ---- the board

-- the ROM of a function: what is in the file that a line names for it
abbrev pub rom_of_function : Files → List BoardLine → (number : ℕ) → Option (List ℕ)
rom_of_function files lines number = option_and_then (λ name. rom_in_file (file_of files name)) (rom_name_of lines number)

-- the ROMs of all functions, by number
abbrev pub roms_on : Files → List BoardLine → List (Option (List ℕ))
roms_on files lines = map (rom_of_function files lines) (range_with_len 0 (length (functions lines)))

-- the note on a line: it names a file that gives no ROM
abbrev pub note_of_line : Files → BoardLine → Option RomNote
note_of_line files (Root uid bus) = None
note_of_line files (Func bus device function vendor id class) = None
note_of_line files (Bridge bus device function vendor id secondary) = None
note_of_line files (Bar bus device function index address size) = None
note_of_line files (Rom bus device function name) =
    option_map (λ kind. record { bus = bus; device = device; function = function; kind = kind }) (rom_fault (file_of files name))

-- the notes, in the order of the lines
abbrev pub boot_notes : Files → BoardState → List RomNote
boot_notes files board = filter_map (note_of_line files) board.lines

-- whether a line names a file
abbrev pub names_rom : BoardLine → Bool
names_rom (Root uid bus) = false
names_rom (Func bus device function vendor id class) = false
names_rom (Bridge bus device function vendor id secondary) = false
names_rom (Bar bus device function index address size) = false
names_rom (Rom bus device function name) = true

-- whether a board has such a line, so that the boot reads a file
abbrev pub boot_reads : BoardState → Bool
boot_reads board = list_any names_rom board.lines

-- ---- the machine

-- No image is loaded, the platform prefers no drivers, and the budgets are the first ones of this firmware.
abbrev pub booted : Files → BoardState → MachineView
booted files board = record {
  world = (opening board (roms_on files board.lines)).now;
  settings = record { platform = []; call_budget = CALL_BUDGET };
  command_budget = COMMAND_BUDGET;
}
