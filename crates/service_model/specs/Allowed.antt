-- What must hold of the state for a change to be applied. A row ends with no other change.
use Rattle.std.specs.Prelude.{◌≡◌, ◌≤◌, ℕ, Bool, true, false, ◌+◌, ◌*◌, ◌&&◌, not, nat_eq, nat_le, nat_lt, is_ok, is_some, List, length, Option, Some, None, Result, Ok, Err, if◌then◌else◌}
use Rattle.std.specs.List.{list_all, range_with_len}
use Rattle.fw_types.specs.Attr.{is_legal}
use Rattle.handle_db.specs.Database.{Database, handles_with, interface_of, is_live}
use Rattle.open_records.specs.OpenRecords.{records_of}
use Rattle.open_records.specs.Verdicts.{judge, may_enter}
use Rattle.service_thunks.specs.declared.service.Service.{Service}
use Rattle.guest_memory.specs.GuestMemory.{is_readable, is_writable_range, number_of, put_bytes}
use Rattle.guest_memory.specs.declared.segment.SegKind.TheVariants.{Pool}
use Rattle.pci_model.specs.Devices.{config_read}
use Rattle.pci_model.specs.Spaces.{has_range, space_of}
use Rattle.world_model.specs.World.{Soft, State}
use Rattle.world_model.specs.Blocks.{block_added, is_block_full}
use Rattle.world_model.specs.Interfaces.{firmware, is_lasting}
use Rattle.world_model.specs.Kept.{IsKept}
use Rattle.world_model.specs.Records.{is_none_or_live}
use Rattle.service_thunks.specs.declared.service.Service.TheVariants.{InstallMultiple}
use Rattle.service_thunks.specs.Arguments.{slot_at}
use Rattle.service_model.specs.Words.{null}
use Rattle.service_model.specs.BootServices.{row}
use Rattle.service_model.specs.Connecting.{connect_controller, has_handle}
use Rattle.service_model.specs.Untouched.{goes_on}
use Rattle.service_model.specs.Many.{all_fit, pair_at, pair_interface}
use Rattle.service_model.specs.Changes.{applied, pairs_installed}
use Rattle.service_model.specs.declared.numbers.TheConstants.{COMMAND, CONTEXT_SLOTS, MOST_PAIRS}
use Rattle.service_model.specs.declared.call.Caller.{Caller}
use Rattle.service_model.specs.declared.plan.Stop.{Stop}
use Rattle.service_model.specs.declared.plan.Change.{Change}
use Rattle.service_model.specs.declared.plan.Change.TheVariants.{Allot, Block, Close, Connect, Copy, Disconnect, Fill, Free, Handles, Install, InstallMany, Open, ReadDevice, Remove, SetCommand, SetTpl, Store, StoreLocation, Uninstall, UninstallMany, Value, WriteDevice}

-- whether a number can be stored, if a place is given for it
abbrev pub can_store : Option ℕ → State → Bool
can_store None w = true
can_store (Some at) w = is_writable_range w.soft.memory at 8

-- whether an interface is there that an image owns and not the firmware
abbrev pub is_of_image : Option (ℕ × ℕ) → Bool
is_of_image None = false
is_of_image (Some found) = not (nat_eq found.1 firmware)

-- whether an open can be recorded: of an interface that is there, by an agent that is live, for a
-- controller that is live or for none, with a legal attribute, and kept out by no record
abbrev pub can_enter : (handle : ℕ) → List ℕ → (agent controller attr : ℕ) → State → Bool
can_enter handle name agent controller attr w =
    is_some (interface_of handle name w.soft.database)
    && (is_live agent w.soft.database
    && (is_none_or_live controller w.soft.database
    && (is_legal attr
    && may_enter (judge (records_of w.soft.records.entries handle name) agent controller attr))))

-- whether a handle is live, if one is given
abbrev pub live_if : Option ℕ → Database → Bool
live_if None db = true
live_if (Some handle) db = is_live handle db

-- whether pairs can be installed: there are at most MOST_PAIRS of them, the handle is live, they fit it one
-- after the other, and each interface can be read
abbrev pub can_install : Option ℕ → (list count : ℕ) → State → Bool
can_install handle list count w =
    nat_le count MOST_PAIRS
    && (live_if handle w.soft.database
    && (is_ok (all_fit handle list count w)
    && list_all (λ i. is_ok (pair_interface list i w)) (range_with_len 0 count)))

-- whether so many pairs can be read
abbrev pub can_read_pairs : (list count : ℕ) → State → Bool
can_read_pairs list count w = nat_le count MOST_PAIRS && list_all (λ i. is_ok (pair_at list i w)) (range_with_len 0 count)

-- Whether a change can be applied: the bytes that it reads can be read, and the bytes that it writes can be
-- written, in memory and in a device; pairs can be installed; an open can be recorded; and each slot of a list
-- of handles has one.
abbrev pub is_allowed : Change → State → Bool
is_allowed (Value value) w = true
is_allowed (SetTpl tpl answer) w = true
is_allowed (Allot size out) w = is_writable_range w.soft.memory out 8
is_allowed (Free at) w = true
is_allowed (Copy to from n) w = is_readable w.soft.memory from n && is_writable_range w.soft.memory to n
is_allowed (Fill to n byte) w = is_writable_range w.soft.memory to n
is_allowed (Store out value status) w = can_store out w
is_allowed (Install handle name address owner out) w = is_writable_range w.soft.memory out 8
is_allowed (InstallMany handle list count owner out) w = is_writable_range w.soft.memory out 8 && can_install handle list count w
is_allowed (Open handle name agent controller attr out address) w =
    can_store out w && can_enter handle name agent controller attr w
is_allowed (Close handle name agent controller) w = true
is_allowed (Handles name size buffer) w =
    is_writable_range w.soft.memory size 8 && is_writable_range w.soft.memory buffer (8 * length (handles_with name w.soft.database))
is_allowed (Block contents buffer count count_first) w =
    is_writable_range w.soft.memory buffer 8 && is_writable_range w.soft.memory count 8
is_allowed (Connect controller list count path at_end recursive) w =
    nat_lt count CONTEXT_SLOTS && list_all (has_handle list w) (range_with_len 0 count)
is_allowed (Disconnect controller driver child) w = true
is_allowed (Remove removal) w = true
is_allowed (Uninstall i) w = true
is_allowed (UninstallMany handle list count) w = can_read_pairs list count w
is_allowed (ReadDevice t) w = is_writable_range w.soft.memory t.buffer t.n && has_range (space_of w.hard.board t.function t.space) (t.at + t.n)
is_allowed (WriteDevice t) w = is_readable w.soft.memory t.buffer t.n && has_range (space_of w.hard.board t.function t.space) (t.at + t.n)
is_allowed (StoreLocation segment bus device function at) w =
    is_writable_range w.soft.memory segment 8
    && (is_writable_range w.soft.memory bus 8
    && (is_writable_range w.soft.memory device 8
    && is_writable_range w.soft.memory function 8))
is_allowed (SetCommand function value) w = is_ok (config_read w.hard.board function COMMAND 2)

-- a row ends with no change that cannot be applied
abbrev pub RowsAreAllowed : Type 0
RowsAreAllowed =
    (s : Service) (c : Caller) (a : List ℕ) (w : State) (change : Change) → (row s).rest c a w ≡ Ok change → is_allowed change w ≡ true

-- a range that can be written stays so when a block is made
abbrev pub BlocksLeaveWritable : Type 0
BlocksLeaveWritable =
    (soft : Soft) (bytes : List ℕ) (at n : ℕ) → IsKept soft → is_block_full (length bytes) soft ≡ false
    → is_writable_range soft.memory at n ≡ true → is_writable_range (block_added bytes Pool soft).memory at n ≡ true

-- what the firmware does not own is none of the interfaces that always stay
abbrev pub ImagesDoNotLast : Type 0
ImagesDoNotLast =
    (soft : Soft) (handle : ℕ) (name : List ℕ) → IsKept soft → is_of_image (interface_of handle name soft.database) ≡ true
    → is_lasting handle name soft ≡ false

-- a range that could be written before bytes were put can be written afterwards
abbrev pub PuttingLeavesWritable : Type 0
PuttingLeavesWritable =
    (soft : Soft) (bytes : List ℕ) (to at n : ℕ) → is_writable_range soft.memory at n ≡ true
    → is_writable_range (put_bytes soft.memory to bytes) at n ≡ true

-- ---- pairs

-- whether an interface is there with an address and an owner
abbrev pub is_interface : Option (ℕ × ℕ) → (address owner : ℕ) → Bool
is_interface None address owner = false
is_interface (Some found) address owner = nat_eq found.0 address && nat_eq found.1 owner

-- whether a pair is there on a handle, with its interface and its owner
abbrev pub is_there : Option ℕ × State → Result (List ℕ × ℕ) Stop → (owner : ℕ) → Bool
is_there (Some handle, w) (Ok (name, address)) owner = is_interface (interface_of handle name w.soft.database) address owner
is_there (handle, w) pair owner = false

-- whether the first pairs of a list are there, after they were installed
abbrev pub all_there : (list count owner : ℕ) → (before : State) → Result (Option ℕ × State) Stop → Bool
all_there list count owner before (Ok end) = list_all (λ i. is_there end (pair_at list i before) owner) (range_with_len 0 count)
all_there list count owner before (Err stop) = false

-- None of the pairs that can be installed is refused: each is there afterwards, on the one handle, with its
-- interface and the owner.
abbrev pub PairsAreInstalled : Type 0
PairsAreInstalled =
    (w : State) (handle : Option ℕ) (list count owner k : ℕ) → IsKept w.soft → can_install handle list count w ≡ true → k ≤ count
    → all_there list k owner w (pairs_installed k list owner handle w) ≡ true

-- InstallMultipleProtocolInterfaces ends with pairs of which none is refused, and which the calling image
-- owns.
abbrev pub RowInstallsPairs : Type 0
RowInstallsPairs =
    (c : Caller) (a : List ℕ) (w : State) (handle : Option ℕ) (list count owner out : ℕ) → IsKept w.soft
    → (row InstallMultiple).rest c a w ≡ Ok (InstallMany handle list count owner out)
    → all_there list count c.image w (pairs_installed count list owner handle w) ≡ true

-- ---- ConnectController and DisconnectController

-- ConnectController's row ends with no change that cannot be applied
abbrev pub ConnectIsAllowed : Type 0
ConnectIsAllowed =
    (controller list path recursive : ℕ) (w : State) (change : Change) → connect_controller controller list path recursive w ≡ Ok change
    → is_allowed change w ≡ true

-- whether a number was read, and is 0
abbrev pub is_zero : Option ℕ → Bool
is_zero None = false
is_zero (Some value) = nat_eq value 0

-- its list of handles ends at a 0, unless it is NULL and has none
abbrev pub ContextEndsAtZero : Type 0
ContextEndsAtZero =
    (controller list path recursive : ℕ) (w : State) (other at count way : ℕ) (at_end children : Bool)
    → connect_controller controller list path recursive w ≡ Ok (Connect other at count way at_end children)
    → (if null list then nat_eq count 0 else is_zero (number_of w.soft.memory (slot_at list count) 8)) ≡ true

-- ---- going on

-- a service that goes on leaves the state as it is
abbrev pub goes_again : Change → Bool
goes_again (Connect controller list count path at_end recursive) = true
goes_again (Disconnect controller driver child) = true
goes_again (Remove removal) = true
goes_again (Uninstall i) = true
goes_again (UninstallMany handle list count) = true
goes_again _ = false

abbrev pub ReentriesChangeNothing : Type 0
ReentriesChangeNothing = (change : Change) (w : State) → goes_again change ≡ true → (goes_on (applied change w).0 ≡ true) × ((applied change w).1 ≡ w)
