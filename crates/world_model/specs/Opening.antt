-- The opening state: the firmware with its loaded image, the PCI bus driver with its binding, the tables, and
-- a handle for each root bridge of the board. Nothing is open.
use Rattle.std.specs.Prelude.{ℕ, List, [], ◌∷◌, length, replicate, Option, Some, None}
use Rattle.std.specs.List.{fold}
use Rattle.fw_types.specs.Guid.{known_guid}
use Rattle.fw_types.specs.declared.guid.Known.TheVariants.{LoadedImage, DriverBinding, DevicePath, RootBridgeIo}
use Rattle.device_path.specs.DevicePath.{root_path}
use Rattle.pci_model.specs.BoardLines.{roots}
use Rattle.pci_model.specs.Devices.{BoardState}
use Rattle.handle_db.specs.Database.{Database}
use Rattle.handle_db.specs.Installing.{new_entry}
use Rattle.fw_types.specs.declared.limits.TheConstants.{MOST_HANDLES}
use Rattle.guest_memory.specs.declared.address_map.TheConstants.{BUS_BINDING, FIRMWARE_IMAGE, FIRST_BLOCK, FIRST_IMAGE}
use Rattle.guest_memory.specs.declared.segment.SegKind.TheVariants.{Firmware}
use Rattle.world_model.specs.declared.tpl.TheConstants.{TPL_APPLICATION}
use Rattle.world_model.specs.World.{WorldView, Soft}
use Rattle.world_model.specs.Blocks.{block_added}
use Rattle.world_model.specs.Interfaces.{bus_driver, firmware, interface, interface_added}
use Rattle.world_model.specs.Records.{no_records}
use Rattle.world_model.specs.Tables.{tables}

-- handle 1 with the loaded image of the firmware, and handle 2 with the binding of the bus driver
abbrev pub firmware_database : Database
firmware_database = record {
  handles =
      new_entry firmware (interface (known_guid LoadedImage) FIRMWARE_IMAGE firmware)
      ∷ new_entry bus_driver (interface (known_guid DriverBinding) BUS_BINDING firmware)
      ∷ [];
  next = 3;
  limit = MOST_HANDLES;
}

-- the soft part of a board with so many functions and no root bridge: no option ROM was processed
abbrev pub firmware_soft : (functions : ℕ) → Soft
firmware_soft functions = record {
  memory = tables;
  database = firmware_database;
  records = no_records;
  images = [];
  thunks = [];
  bus_children = [];
  bus_lists = replicate functions None;
  tpl = TPL_APPLICATION;
  next_image = FIRST_IMAGE;
  next_block = FIRST_BLOCK;
  next_thunk = 0;
}

-- The interface of root bridge I/O is NULL: its presence and its records count, and it has no functions here.
abbrev pub root_bridge_io : ℕ
root_bridge_io = 0

-- a new handle for the root bridge with a _UID: its device path, in a block of the firmware, and then root
-- bridge I/O (UEFI 2.8, 14.2: PCI Root Bridge I/O Protocol)
abbrev pub root_added : (uid : ℕ) → Soft → Soft
root_added uid soft =
    interface_added (Some soft.database.next) (interface (known_guid RootBridgeIo) root_bridge_io firmware)
    (interface_added None (interface (known_guid DevicePath) soft.next_block firmware) (block_added (root_path uid) Firmware soft))

-- the soft part of a board with so many functions and these root bridges, each with its _UID and its bus:
-- they follow in order
abbrev pub opening_soft : (functions : ℕ) → List (ℕ × ℕ) → Soft
opening_soft functions bridges = fold (λ soft bridge. root_added bridge.0 soft) (firmware_soft functions) bridges

-- no command has begun, and no mark is open; each function has its option ROM or none
abbrev pub opening : BoardState → (roms : List (Option (List ℕ))) → WorldView
opening board roms = record {
  now = record {
    soft = opening_soft (length roms) (roots board.lines);
    hard = record { units = 0; events = []; board = board; roms = roms };
  };
  marks = [];
}
