-- The driver-model machine: the reply that each command gives, and the machine after it.
use Rattle.std.specs.Prelude.{ℕ, ◌-◌, ◌++◌, Bool, true, false, not, nat_eq, filter, List, [], ◌∷◌, None, Some, if◌then◌else◌}
use Rattle.fw_types.specs.declared.status.Status.{Status}
use Rattle.fw_types.specs.declared.status.TheConstants.Status.{INVALID_PARAMETER, LOAD_ERROR, NOT_FOUND, SUCCESS}
use Rattle.fw_types.specs.declared.command.Command.{Command}
use Rattle.fw_types.specs.declared.command.Command.TheVariants.{Load as LoadCommand, Connect, Disconnect, Unload, Platform, Budget, Dump}
use Rattle.fw_types.specs.declared.command.PathArg.{PathArg}
use Rattle.fw_types.specs.declared.dump.DumpLine.{DumpLine}
use Rattle.fw_types.specs.declared.image.RomEnd.{RomEnd}
use Rattle.fw_types.specs.declared.reply.Reply.{Reply}
use Rattle.fw_shelf.specs.Shelf.{Files, NamedFile, absent, file_of, present, too_long}
use Rattle.option_rom.specs.RomGrammar.{rom_in}
use Rattle.handle_db.specs.Database.{is_live}
use Rattle.world_model.specs.World.{State, on_hard}
use Rattle.world_model.specs.Events.{command_begun, events_taken}
use Rattle.driver_model.specs.Moves.{plain}
use Rattle.driver_model.specs.Connect.{connect}
use Rattle.driver_model.specs.Disconnect.{disconnect}
use Rattle.driver_model.specs.ImageLife.{Load}
use Rattle.driver_model.specs.Unloading.{unloaded}
use Rattle.driver_model.specs.declared.request.Disconnection.{Disconnection}
use Rattle.driver_model.specs.declared.settings.PlatformList.{PlatformList}
use Rattle.driver_model.specs.declared.settings.Settings.{Settings}
use Rattle.bind_engine.specs.declared.ending.Ending.{Ending}
use Rattle.bind_engine.specs.declared.rom_load.RomTally.{RomTally}
use Rattle.bind_engine.specs.CommandPaths.{connection, path_bytes, with_path}
use Rattle.bind_engine.specs.Dump.{dump_of}
use Rattle.bind_engine.specs.Levels.{all_levels, first_level, loaded, outside}
use Rattle.bind_engine.specs.Machine.{MachineView}
use Rattle.bind_engine.specs.RomLoad.{is_rom, no_images, rom_status, with_images}

-- whether a command reads a file
abbrev pub reads_file : Command → Bool
reads_file (LoadCommand name) = true
reads_file (Connect controller recursive path context) = false
reads_file (Disconnect controller driver child) = false
reads_file (Unload image) = false
reads_file (Platform controller drivers) = false
reads_file (Budget command call) = false
reads_file Dump = false

-- ---- load

-- how the load of one image ends
abbrev pub image_ending : Load State → Ending × State
image_ending load = (record { images = load.note ∷ []; rom = None; status = load.status }, load.world)

-- how the load of an option ROM ends
abbrev pub rom_ending : RomEnd → RomTally × State → Ending × State
rom_ending end (tally, w) = (record { images = tally.notes; rom = Some end; status = rom_status tally }, w)

-- how the load of a file ends: the file is an option ROM or one image
abbrev pub file_ending : Settings → (file : List ℕ) → State → Ending × State
file_ending settings file w =
    if is_rom file then rom_ending (rom_in file).end (with_images settings (rom_in file).images (no_images, w))
    else image_ending (loaded settings file w)

-- how a command ends if it has only a status
abbrev pub status_ending : Status × State → Ending × State
status_ending (status, w) = (record { images = []; rom = None; status = status }, w)

-- how a load ends: there is no file, there is one, or there is one that is too long
abbrev pub load_ending : Settings → NamedFile → State → Ending × State
load_ending settings absent w = status_ending (NOT_FOUND, w)
load_ending settings (present file) w = file_ending settings file w
load_ending settings too_long w = status_ending (LOAD_ERROR, w)

-- ---- connect and disconnect (UEFI 2.8, 7.3)

abbrev pub command_connected : Settings → (controller : ℕ) → (recursive : Bool) → PathArg → (context : List ℕ) → State → Status × State
command_connected settings controller recursive path context w =
    with_path (path_bytes path) (connect plain settings (all_levels settings) outside (connection controller recursive path) context) w

abbrev pub command_disconnected : Settings → Disconnection → State → Status × State
command_disconnected settings d w = disconnect plain (all_levels settings) outside d w

-- ---- unload (UEFI 2.8, 7.4: UnloadImage)

abbrev pub command_unloaded : Settings → (image : ℕ) → State → Status × State
command_unloaded settings image w = unloaded plain (first_level settings) outside image w

-- ---- what spends nothing and makes no event

abbrev pub without_units : Status → List DumpLine → Reply
without_units status dump = record { status = status; units = 0; events = []; images = []; rom = None; dump = dump }

-- the lists, with this one in place of the one that the controller had
abbrev pub with_list : (controller : ℕ) → (drivers : List ℕ) → List PlatformList → List PlatformList
with_list controller drivers lists =
    filter (λ (list : PlatformList). not (nat_eq list.controller controller)) lists ++ record { controller = controller; drivers = drivers } ∷ []

abbrev pub platform_set : (controller : ℕ) → (drivers : List ℕ) → MachineView → Reply × MachineView
platform_set controller drivers machine =
    if is_live controller machine.world.soft.database
    then (without_units SUCCESS [], record machine { settings = record machine.settings { platform = with_list controller drivers machine.settings.platform } })
    else (without_units INVALID_PARAMETER [], machine)

abbrev pub budgets_set : (command call : ℕ) → MachineView → Reply × MachineView
budgets_set command call machine =
    (without_units SUCCESS [], record machine { settings = record machine.settings { call_budget = call }; command_budget = command })

abbrev pub database_dumped : MachineView → Reply × MachineView
database_dumped machine = (without_units SUCCESS (dump_of machine.world.soft), machine)

-- ---- all commands

-- a command begins with its units and no events
abbrev pub begun : MachineView → State
begun machine = on_hard (command_begun machine.command_budget) machine.world

-- the reply has the units that were spent and the events, which are taken out of the world
abbrev pub reply_to : MachineView → Ending × State → Reply × MachineView
reply_to machine (ending, w) = (
  record {
    status = ending.status;
    units = machine.command_budget - w.hard.units;
    events = w.hard.events;
    images = ending.images;
    rom = ending.rom;
    dump = [];
  },
  record machine { world = on_hard events_taken w },
)

-- the reply to a command with these files, and the machine after it
abbrev pub exec : Command → Files → MachineView → Reply × MachineView
exec (LoadCommand name) files machine = reply_to machine (load_ending machine.settings (file_of files name) (begun machine))
exec (Connect controller recursive path context) files machine =
    reply_to machine (status_ending (command_connected machine.settings controller recursive path context (begun machine)))
exec (Disconnect controller driver child) files machine =
    reply_to machine (status_ending (command_disconnected machine.settings (record { controller = controller; driver = driver; child = child }) (begun machine)))
exec (Unload image) files machine = reply_to machine (status_ending (command_unloaded machine.settings image (begun machine)))
exec (Platform controller drivers) files machine = platform_set controller drivers machine
exec (Budget command call) files machine = budgets_set command call machine
exec Dump files machine = database_dumped machine
