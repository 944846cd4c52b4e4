-- The board in the world: its root bridges, and the option ROMs of its functions.
use Rattle.std.specs.Prelude.{◌≡◌, ℕ, ◌+◌, ◌-◌, ◌*◌, ◌<◌, Bool, false, ◌||◌, nat_eq, nat_lt, List, [], ◌∷◌, length, map, Option, Some, None, option_map, slice_get, unwrap_or, if◌then◌else◌}
use Rattle.std.specs.List.{range_with_len}
use Rattle.std.specs.Option.{option_map_or}
use Rattle.std.specs.declared.vec.Vec.{Vec}
use Rattle.std.specs.declared.alloc.Global.{Global}
use Rattle.fw_types.specs.Guid.{known_guid}
use Rattle.fw_types.specs.declared.guid.Known.TheVariants.{DevicePath, RootBridgeIo}
use Rattle.device_path.specs.DevicePath.{root_path}
use Rattle.pci_model.specs.BoardLines.{roots}
use Rattle.pci_model.specs.Devices.{BoardState}
use Rattle.pci_model.specs.declared.numbers.TheConstants.{MOST_ROOTS}
use Rattle.handle_db.specs.Database.{Database, handles_with, interface_of, protocols_of}
use Rattle.handle_db.specs.Installing.{is_full}
use Rattle.guest_memory.specs.GuestMemory.{bytes_of}
use Rattle.guest_memory.specs.declared.address_map.TheConstants.{FIRST_BLOCK}
use Rattle.world_model.specs.World.{Hard, Soft, State, WorldView}
use Rattle.world_model.specs.Blocks.{is_block_full}
use Rattle.world_model.specs.Interfaces.{firmware}
use Rattle.world_model.specs.Marks.{rolled_back}
use Rattle.world_model.specs.Opening.{opening, opening_soft, root_bridge_io}

-- another state of the board, as a write to a device leaves it
abbrev pub with_board : BoardState → Hard → Hard
with_board board hard = record hard { board = board }

-- ---- root bridges

-- the handle of the first root bridge; those of the others follow it
abbrev pub first_root : ℕ
first_root = 3

-- the root bridge of a handle
abbrev pub root_at : (handle : ℕ) → List (ℕ × ℕ) → Option (ℕ × ℕ)
root_at handle bridges = if nat_lt handle first_root then None else slice_get bridges (handle - first_root)

-- whether a handle has root bridge I/O of the firmware
abbrev pub has_root_bridge_io : (handle : ℕ) → Database → Bool
has_root_bridge_io handle db = option_map_or (λ found. nat_eq found.1 firmware) (interface_of handle (known_guid RootBridgeIo) db) false

-- the bus below a root bridge, if the handle is that of a root bridge and still has root bridge I/O
abbrev pub root_bus : (handle : ℕ) → State → Option ℕ
root_bus handle w =
    if has_root_bridge_io handle w.soft.database
    then option_map (λ bridge. bridge.1) (root_at handle (roots w.hard.board.lines))
    else None

-- whether one more root bridge passes a limit: that of its path, or that of its handle
abbrev pub is_root_full : (uid : ℕ) → Soft → Bool
is_root_full uid soft = is_block_full (length (root_path uid)) soft || is_full soft.database

-- ---- option ROMs

-- the bytes of each option ROM, from the form in which the code has them
abbrev pub roms_in : List (Option (Vec ℕ Global)) → List (Option (List ℕ))
roms_in roms = map (option_map (λ (rom : Vec ℕ Global). rom.items)) roms

-- the option ROM of a function, if it has one
abbrev pub rom_of : (number : ℕ) → Hard → Option (List ℕ)
rom_of number hard = unwrap_or (slice_get hard.roms number) None

-- ---- laws

-- a handle has the two interfaces of a root bridge, first its device path and then root bridge I/O; the path
-- lies at an address, and is that of the root bridge with a _UID
pub record HasRoot (handle path uid : ℕ) (soft : Soft) : Type 0 where
  pub interfaces :
      protocols_of handle soft.database ≡ (known_guid DevicePath, path, firmware) ∷ (known_guid RootBridgeIo, root_bridge_io, firmware) ∷ []
  pub bytes : bytes_of soft.memory path (length (root_path uid)) ≡ root_path uid

-- in the opening state each root bridge has its handle, and its path lies 16 bytes after that of the one before
abbrev pub RootsAreThere : Type 0
RootsAreThere =
    (functions : ℕ) (bridges : List (ℕ × ℕ)) (place : ℕ) (bridge : ℕ × ℕ) → slice_get bridges place ≡ Some bridge
    → HasRoot (first_root + place) (FIRST_BLOCK + 16 * place) bridge.0 (opening_soft functions bridges)

-- the only other handles are those of the firmware and of the bus driver
abbrev pub OpeningHandles : Type 0
OpeningHandles =
    (functions : ℕ) (bridges : List (ℕ × ℕ)) → handles_with None (opening_soft functions bridges).database ≡ range_with_len 1 (2 + length bridges)

-- no limit keeps one of at most 16 root bridges out
abbrev pub RootsFit : Type 0
RootsFit = (functions : ℕ) (bridges : List (ℕ × ℕ)) (uid : ℕ) → length bridges < MOST_ROOTS → is_root_full uid (opening_soft functions bridges) ≡ false

-- the bus of each is that of its line
abbrev pub RootsHaveBuses : Type 0
RootsHaveBuses =
    (board : BoardState) (roms : List (Option (List ℕ))) (place : ℕ) (bridge : ℕ × ℕ) → slice_get (roots board.lines) place ≡ Some bridge
    → root_bus (first_root + place) (opening board roms).now ≡ Some bridge.1

-- no undo touches devices: a rollback leaves the board, with the bytes of its devices, and the option ROMs
abbrev pub RollbackLeavesBoard : Type 0
RollbackLeavesBoard =
    (w : WorldView) → ((rolled_back w).now.hard.board ≡ w.now.hard.board) × ((rolled_back w).now.hard.roms ≡ w.now.hard.roms)
