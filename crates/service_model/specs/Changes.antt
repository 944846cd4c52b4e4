-- What state each change leaves, and what the service answers with it.
use Rattle.std.specs.Prelude.{ℕ, zero, suc, ◌*◌, Bool, true, false, List, [], length, take, drop, replicate, Option, Some, None, unwrap_or, Result, Ok, Err}
use Rattle.byteorder.specs.Endian.{little_bytes}
use Rattle.handle_db.specs.Database.{handles_with}
use Rattle.handle_db.specs.declared.refusal.DbRefusal.{DbRefusal}
use Rattle.open_records.specs.Adding.{is_full}
use Rattle.fw_types.specs.declared.status.Status.{Status as StatusValue}
use Rattle.fw_types.specs.declared.status.TheConstants.Status.{INVALID_PARAMETER, OUT_OF_RESOURCES, SUCCESS}
use Rattle.guest_memory.specs.GuestMemory.{bytes_of, put_bytes}
use Rattle.guest_memory.specs.declared.segment.SegKind.TheVariants.{Pool}
use Rattle.pci_model.specs.BoardLines.{Location}
use Rattle.pci_model.specs.Spaces.{space_of, space_written}
use Rattle.pci_model.specs.declared.space.Space.{Space}
use Rattle.pci_model.specs.declared.space.Space.TheVariants.{Config}
use Rattle.world_model.specs.World.{State, on_hard, on_soft, with_memory, with_tpl}
use Rattle.world_model.specs.Boards.{with_board}
use Rattle.world_model.specs.Blocks.{allot_answer, block_added, block_freed, free_answer}
use Rattle.world_model.specs.Interfaces.{install_answer, interface, interface_added}
use Rattle.world_model.specs.Records.{record_entered, records_left}
use Rattle.world_model.specs.declared.fault.WorldFault.{WorldFault}
use Rattle.service_model.specs.Words.{◌>>=◌}
use Rattle.service_model.specs.Contents.{contents_bytes, contents_count, number_bytes}
use Rattle.service_model.specs.Connecting.{context_of}
use Rattle.service_model.specs.Many.{interfaces_named, pair_at}
use Rattle.service_model.specs.declared.call.Reentry.TheVariants as reentry
use Rattle.service_model.specs.declared.call.Served.{Served}
use Rattle.service_model.specs.declared.call.Served.TheVariants as served
use Rattle.service_model.specs.declared.plan.Stop.{Stop}
use Rattle.service_model.specs.declared.plan.Stop.TheVariants.{Status, Trap}
use Rattle.service_model.specs.declared.plan.Change.{Change}
use Rattle.service_model.specs.declared.plan.Change.TheVariants.{Allot, Block, Close, Connect, Copy, Disconnect, Fill, Free, Handles, Install, InstallMany, Open, ReadDevice, Remove, SetCommand, SetTpl, Store, StoreLocation, Uninstall, UninstallMany, Value, WriteDevice}
use Rattle.service_model.specs.declared.plan.Transfer.{Transfer}
use Rattle.service_model.specs.declared.numbers.TheConstants.{COMMAND}

-- the service answers a status, with the state that it leaves
abbrev pub status_answered : StatusValue → State → Served × State
status_answered status w = (served.Value status.0, w)

-- what stopped a row is the answer
abbrev pub stop_answered : Stop → State → Served × State
stop_answered (Status status) w = status_answered status w
stop_answered (Trap cause) w = (served.Trap cause, w)

-- bytes in the place of those at an address
abbrev pub bytes_stored : ℕ → List ℕ → State → State
bytes_stored at bytes w = on_soft (with_memory (put_bytes w.soft.memory at bytes)) w

-- a number in the 8 bytes at an address
abbrev pub number_stored : ℕ → ℕ → State → State
number_stored at value w = bytes_stored at (little_bytes 8 value) w

-- a number if a place is given for it
abbrev pub stored_if : Option ℕ → ℕ → State → State
stored_if None value w = w
stored_if (Some at) value w = number_stored at value w

-- ---- blocks of the pool

-- a block of the pool and its address, or none if a limit is met
abbrev pub block_made : Result ℕ WorldFault → List ℕ → State → Option ℕ × State
block_made (Ok at) bytes w = (Some at, on_soft (block_added bytes Pool) w)
block_made (Err fault) bytes w = (None, w)

abbrev pub block_allotted : List ℕ → State → Option ℕ × State
block_allotted bytes w = block_made (allot_answer (length bytes) w.soft) bytes w

-- the address of the block is stored
abbrev pub allot_served : (out : ℕ) → Option ℕ × State → Served × State
allot_served out (None, w) = status_answered OUT_OF_RESOURCES w
allot_served out (Some at, w) = status_answered SUCCESS (number_stored out at w)

-- a block of the pool is freed if one begins at the address
abbrev pub free_served : Result Unit WorldFault → ℕ → State → Served × State
free_served (Ok done) at w = status_answered SUCCESS (on_soft (block_freed at) w)
free_served (Err fault) at w = status_answered INVALID_PARAMETER w

-- the address of a block and the number of its items are stored, the number first or the address first
abbrev pub both_stored : (count_first : Bool) (buffer at count n : ℕ) → State → State
both_stored true buffer at count n w = number_stored buffer at (number_stored count n w)
both_stored false buffer at count n w = number_stored count n (number_stored buffer at w)

abbrev pub block_served : (count_first : Bool) (buffer count n : ℕ) → Option ℕ × State → Served × State
block_served count_first buffer count n (None, w) = status_answered OUT_OF_RESOURCES w
block_served count_first buffer count n (Some at, w) = status_answered SUCCESS (both_stored count_first buffer at count n w)

-- ---- protocol interfaces

-- the number of a handle is stored if it is new
abbrev pub new_handle_stored : Option ℕ → (out new : ℕ) → State → State
new_handle_stored None out new w = number_stored out new w
new_handle_stored (Some handle) out new w = w

-- an interface is installed, unless a limit is met
abbrev pub install_served : Result ℕ DbRefusal → Option ℕ → List ℕ → (address owner out : ℕ) → State → Served × State
install_served (Ok new) handle name address owner out w =
    status_answered SUCCESS (new_handle_stored handle out new (on_soft (interface_added handle (interface name address owner)) w))
install_served (Err refusal) handle name address owner out w = status_answered OUT_OF_RESOURCES w

-- a pair is installed on a handle, or on a new one, which is then the handle of those after it
abbrev pub pair_added : Result ℕ DbRefusal → Option ℕ → List ℕ × ℕ → (owner : ℕ) → State → Result (Option ℕ × State) Stop
pair_added (Ok number) handle pair owner w = Ok (Some number, on_soft (interface_added handle (interface pair.0 pair.1 owner)) w)
pair_added (Err refusal) handle pair owner w = Err (Status OUT_OF_RESOURCES)

abbrev pub pair_installed : (i list owner : ℕ) → Option ℕ × State → Result (Option ℕ × State) Stop
pair_installed i list owner (handle, w) =
    pair_at list i w >>= λ pair. pair_added (install_answer handle pair.0 w.soft) handle pair owner w

-- the first pairs, one after the other
abbrev pub pairs_installed : (count list owner : ℕ) → Option ℕ → State → Result (Option ℕ × State) Stop
pairs_installed zero list owner handle w = Ok (handle, w)
pairs_installed (suc count) list owner handle w = pairs_installed count list owner handle w >>= pair_installed count list owner

-- the number of a new handle; a list of no pairs makes none
abbrev pub first_handle_stored : Option ℕ → (out : ℕ) → Option ℕ × State → State
first_handle_stored handle out (None, w) = w
first_handle_stored handle out (Some new, w) = new_handle_stored handle out new w

-- all pairs are installed, or the state is as it was before
abbrev pub many_served : Option ℕ → (out : ℕ) → (before : State) → Result (Option ℕ × State) Stop → Served × State
many_served handle out before (Ok end) = status_answered SUCCESS (first_handle_stored handle out end)
many_served handle out before (Err stop) = stop_answered stop before

-- an open is recorded, unless there are as many records as there may be
abbrev pub open_served : (full : Bool) (handle : ℕ) → List ℕ → (agent controller attr : ℕ) → Option ℕ → (address : ℕ) → State → Served × State
open_served true handle name agent controller attr out address w = status_answered OUT_OF_RESOURCES w
open_served false handle name agent controller attr out address w =
    status_answered SUCCESS (stored_if out address (on_soft (record_entered handle name agent controller attr) w))

-- ---- devices

-- a device with these bytes in its configuration space or in one of its BARs, from an offset on
abbrev pub device_written : (function : ℕ) → Space → (at : ℕ) → List ℕ → State → State
device_written function space at bytes w = on_hard (with_board (space_written function space at bytes w.hard.board)) w

-- the bytes of a device that are read
abbrev pub device_bytes : Transfer → State → List ℕ
device_bytes t w = take t.n (drop t.at (unwrap_or (space_of w.hard.board t.function t.space) []))

-- the numbers of a location, in the order of the arguments
abbrev pub location_stored : (segment bus device function : ℕ) → Location → State → State
location_stored segment bus device function at w =
    number_stored function at.2 (number_stored device at.1 (number_stored bus at.0 (number_stored segment 0 w)))

-- ---- all changes

abbrev pub applied : Change → State → Served × State
applied (Value value) w = (served.Value value, w)
applied (SetTpl tpl answer) w = (served.Value answer, on_soft (with_tpl tpl) w)
applied (Allot size out) w = allot_served out (block_allotted (replicate size 0) w)
applied (Free at) w = free_served (free_answer at Pool w.soft) at w
applied (Copy to from n) w = status_answered SUCCESS (bytes_stored to (bytes_of w.soft.memory from n) w)
applied (Fill to n byte) w = status_answered SUCCESS (bytes_stored to (replicate n byte) w)
applied (Store out value status) w = status_answered status (stored_if out value w)
applied (Install handle name address owner out) w = install_served (install_answer handle name w.soft) handle name address owner out w
applied (InstallMany handle list count owner out) w = many_served handle out w (pairs_installed count list owner handle w)
applied (Open handle name agent controller attr out address) w =
    open_served (is_full handle name agent controller attr w.soft.records) handle name agent controller attr out address w
applied (Close handle name agent controller) w = status_answered SUCCESS (on_soft (records_left handle name agent controller) w)
applied (Handles name size buffer) w =
    status_answered SUCCESS (bytes_stored buffer (number_bytes (handles_with name w.soft.database)) (number_stored size (8 * length (handles_with name w.soft.database)) w))
applied (Block contents buffer count count_first) w =
    block_served count_first buffer count (contents_count contents w) (block_allotted (contents_bytes contents w) w)
applied (Connect controller list count path at_end recursive) w =
    (served.Again (reentry.Connect controller (context_of list count w) path at_end recursive), w)
applied (Disconnect controller driver child) w = (served.Again (reentry.Disconnect controller driver child), w)
applied (Remove removal) w = (served.Again (reentry.Remove removal), w)
applied (Uninstall i) w = (served.Again (reentry.Uninstall i), w)
applied (UninstallMany handle list count) w = (served.Again (reentry.UninstallMany (interfaces_named handle list count w)), w)
applied (ReadDevice t) w = status_answered SUCCESS (bytes_stored t.buffer (device_bytes t w) w)
applied (WriteDevice t) w = status_answered SUCCESS (device_written t.function t.space t.at (bytes_of w.soft.memory t.buffer t.n) w)
applied (StoreLocation segment bus device function at) w = status_answered SUCCESS (location_stored segment bus device function at w)
applied (SetCommand function command) w = status_answered SUCCESS (device_written function Config COMMAND (little_bytes 2 command) w)
