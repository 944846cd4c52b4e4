-- The load of a size: a script with a root bridge and so many functions below it, which loads a driver so many
-- times and then connects and disconnects the root bridge so many times, and the file of that driver.
use Rattle.std.specs.Prelude.{ℕ, ◌+◌, ◌/◌, ◌%◌, List, [], ◌∷◌, ◌++◌, codes, false, map, replicate}
use Rattle.std.specs.List.{flat_map, range_with_len}
use Rattle.fw_types.specs.declared.command.Command.{Command}
use Rattle.fw_types.specs.declared.command.Command.TheVariants.{Connect, Disconnect, Load}
use Rattle.fw_types.specs.declared.command.PathArg.TheVariants.{Null}
use Rattle.fw_types.specs.declared.image.TheConstants.{BOOT_SERVICE_DRIVER}
use Rattle.fw_shelf.specs.Shelf.{Files}
use Rattle.fw_shelf.specs.MemShelf.{ShelfInMemory}
use Rattle.pci_model.specs.declared.line.BoardLine.{BoardLine}
use Rattle.pci_model.specs.declared.line.BoardLine.TheVariants.{Func, Root}
use Rattle.rom_builder.specs.MadeImage.{made_image}
use Rattle.rom_builder.specs.declared.parts.DriverParts.{DriverParts}
use Rattle.script_text.specs.declared.script.Script.{Script}

-- ---- the board

-- `func 0 DEV FN 0x1AF4 ID 0x020000` for the function with a number, from 0: 8 functions to a device
abbrev pub function_line : ℕ → BoardLine
function_line number = Func 0 (number / 8) (number % 8) 0x1AF4 (0x1000 + number) 0x020000

-- `root 0 0`, and the functions
abbrev pub board_lines : ℕ → List BoardLine
board_lines size = Root 0 0 ∷ map function_line (range_with_len 0 size)

-- ---- the commands

-- `load s.efi`
abbrev pub load_line : Command
load_line = Load (codes "s.efi")

-- `connect 3 one none` and `disconnect 3 0 0`: the handle of the root bridge is 3
abbrev pub connection_lines : List Command
connection_lines = Connect 3 false Null [] ∷ Disconnect 3 0 0 ∷ []

-- so many loads, and then so many connections
abbrev pub commands : ℕ → List Command
commands size = replicate size load_line ++ flat_map (λ number. connection_lines) (range_with_len 0 size)

abbrev pub script : ℕ → Script
script size = record { board = board_lines size; commands = commands size }

-- ---- the file

-- the smallest driver, `MOVIqw R7, 0` and `RET`: its entry point answers SUCCESS
abbrev pub smallest_driver : DriverParts
smallest_driver = record {
  code = 0x77 ∷ 0x37 ∷ 0x00 ∷ 0x00 ∷ 0x04 ∷ 0x00 ∷ [];
  entry = 0;
  relocs = [];
  subsystem = BOOT_SERVICE_DRIVER;
}

abbrev pub files : Files
files = (codes "s.efi", made_image smallest_driver) ∷ []

-- the files on a shelf that never fails, before the first read
abbrev pub shelf : ShelfInMemory
shelf = record { files = files; failing_reads = []; reads = 0; faults = 0 }
