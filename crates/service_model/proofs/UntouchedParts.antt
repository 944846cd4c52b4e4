-- What services leave whatever the state is: the task priority level; the events; all units except those that
-- are spent; the bus lists; and the board, except for the devices that are written.
use Rattle.std.proofs.Common.{◌≡◌, ◌≤◌, ℕ, zero, suc, ◌-◌, ◌*◌, Bool, true, false, not, ◌&&◌, nat_eq, List, length, replicate, refl, ap, ◌∙◌, arith}
use Rattle.std.specs.Prelude.{Option, Some, None, Result, Ok, Err, if◌then◌else◌}
use Rattle.guest_memory.specs.declared.segment.Segment.{Segment}
use Rattle.guest_memory.specs.declared.segment.SegKind.TheVariants.{Pool}
use Rattle.guest_memory.specs.GuestMemory.{begins, bytes_of, put_bytes}
use Rattle.byteorder.specs.Endian.{little_bytes}
use Rattle.handle_db.specs.Database.{handles_with, interface_of}
use Rattle.handle_db.specs.declared.handle_entry.Interface.{Interface}
use Rattle.handle_db.specs.declared.refusal.DbRefusal.{DbRefusal}
use Rattle.open_records.specs.Adding.{is_full}
use Rattle.world_model.specs.World.{Hard, State, on_soft, with_memory}
use Rattle.world_model.specs.Blocks.{block_added, block_freed, is_block_full, is_image_block}
use Rattle.world_model.specs.Interfaces.{install_answer, interface, interface_added}
use Rattle.world_model.specs.Records.{record_entered, records_left}
use Rattle.world_model.specs.declared.fault.WorldFault.TheVariants as fault
use Rattle.service_model.specs.BootServices.{end_of_row, row}
use Rattle.service_model.specs.Changes.{allot_served, applied, block_made, block_served, both_stored, bytes_stored, device_bytes, device_written, free_served, location_stored, install_served, many_served, new_handle_stored, number_stored, open_served, pair_added, pair_installed, pairs_installed, stored_if}
use Rattle.service_model.specs.Many.{pair_at}
use Rattle.service_model.specs.Words.{◌>>=◌, alive, dead, legal, refuse_if, writable}
use Rattle.service_model.specs.Protocols.{has_record, live_or_zero, out_of, out_size}
use Rattle.fw_types.specs.Attr.{has_bit_of}
use Rattle.fw_types.specs.declared.attr.TheConstants.Attr.{BY_CHILD_CONTROLLER, CONTROLLER_BITS, HOLDING_BITS}
use Rattle.fw_types.specs.declared.status.TheConstants.Status.{ACCESS_DENIED, INVALID_PARAMETER, UNSUPPORTED}
use Rattle.service_model.specs.declared.call.Opening.{Opening}
use Rattle.service_model.specs.declared.numbers.TheConstants.{COMMAND}
use Rattle.pci_model.specs.BoardLines.{Location}
use Rattle.pci_model.specs.declared.space.Space.{Space}
use Rattle.pci_model.specs.declared.space.Space.TheVariants.{Bar, Config}
use Rattle.service_model.specs.Contents.{contents_bytes, contents_count, number_bytes}
use Rattle.service_model.specs.SecondLook.{SpendsNothing, looked_again, open_after_removal, second_look}
use Rattle.service_model.specs.Untouched.{BoardStays, EventsStay, LinesStay, TplStays, UnitsNeverRise}
use Rattle.service_model.specs.declared.plan.Change.{Change}
use Rattle.service_model.specs.declared.plan.Change.TheVariants.{Allot, Block, Close, Connect, Copy, Disconnect, Fill, Free, Handles, Install, InstallMany, Open, ReadDevice, Remove, SetCommand, SetTpl, Store, StoreLocation, Uninstall, UninstallMany, Value, WriteDevice}
use Rattle.service_model.specs.declared.plan.Stop.{Stop}
use Rattle.service_model.specs.declared.plan.Stop.TheVariants as stop
use Rattle.service_model.proofs.RowLines.{Says, says-after, says-end, says-found}
use Rattle.service_model.proofs.ChangeSorts.{is_apart, is_of_device, is_of_tpl}
use Rattle.service_model.proofs.AllowedRows.{rows-leave, rows-read}
use Rattle.service_model.proofs.ServiceCases.{paid, served-by}

-- a part of the state that no change touches, except one of the task priority level or of a device
record IsLeft {A : Type 0} (part : State → A) : Type 0 where
  memory : (segments : List Segment) (w : State) → part (on_soft (with_memory segments) w) ≡ part w
  block : (bytes : List ℕ) (w : State) → part (on_soft (block_added bytes Pool) w) ≡ part w
  unblock : (at : ℕ) (w : State) → part (on_soft (block_freed at) w) ≡ part w
  install : (handle : Option ℕ) (new : Interface) (w : State) → part (on_soft (interface_added handle new) w) ≡ part w
  enter : (handle : ℕ) (name : List ℕ) (agent controller attr : ℕ) (w : State) → part (on_soft (record_entered handle name agent controller attr) w) ≡ part w
  leave : (handle : ℕ) (name : List ℕ) (agent controller : ℕ) (w : State) → part (on_soft (records_left handle name agent controller) w) ≡ part w

-- what pairs leave of a part, if none is refused
abbrev LeftBy : {A : Type 0} → (State → A) → State → Result (Option ℕ × State) Stop → Type 0
LeftBy part w (Ok end) = part end.1 ≡ part w
LeftBy part w (Err stopped) = Unit {0}

module _ {A : Type 0} (part : State → A) (left : IsLeft part) where
  number-left : (at value : ℕ) (w : State) → part (number_stored at value w) ≡ part w
  number-left at value w = left.memory (put_bytes w.soft.memory at (little_bytes 8 value)) w

  allot-ends : (out : ℕ) (bytes : List ℕ) (w : State) (full : Bool) → part (allot_served out (block_made (if full then Err fault.Full else Ok w.soft.next_block) bytes w)).1 ≡ part w
  allot-ends out bytes w true = refl
  allot-ends out bytes w false = number-left out w.soft.next_block (on_soft (block_added bytes Pool) w) ∙ left.block bytes w

  free-ends : (at : ℕ) (w : State) (there : Bool) → part (free_served (if there then Ok tt else Err fault.NotThere) at w).1 ≡ part w
  free-ends at w true = left.unblock at w
  free-ends at w false = refl

  store_if-left : (out : Option ℕ) (value : ℕ) (w : State) → part (stored_if out value w) ≡ part w
  store_if-left None value w = refl
  store_if-left (Some at) value w = number-left at value w

  handle-left : (handle : Option ℕ) (out new : ℕ) (w : State) → part (new_handle_stored handle out new w) ≡ part w
  handle-left None out new w = number-left out new w
  handle-left (Some handle) out new w = refl

  install-ends : (answer : Result ℕ DbRefusal) (handle : Option ℕ) (name : List ℕ) (address owner out : ℕ) (w : State) → part (install_served answer handle name address owner out w).1 ≡ part w
  install-ends (Ok new) handle name address owner out w = handle-left handle out new (on_soft (interface_added handle (interface name address owner)) w) ∙ left.install handle (interface name address owner) w
  install-ends (Err refusal) handle name address owner out w = refl

  added-left : (answer : Result ℕ DbRefusal) (handle : Option ℕ) (pair : List ℕ × ℕ) (owner : ℕ) (w : State) → LeftBy part w (pair_added answer handle pair owner w)
  added-left (Ok new) handle pair owner w = left.install handle (interface pair.0 pair.1 owner) w
  added-left (Err refusal) handle pair owner w = tt

  pair-left : (pair : Result (List ℕ × ℕ) Stop) (owner : ℕ) (handle : Option ℕ) (w : State) → LeftBy part w (pair >>= λ pair. pair_added (install_answer handle pair.0 w.soft) handle pair owner w)
  pair-left (Ok pair) owner handle w = added-left (install_answer handle pair.0 w.soft) handle pair owner w
  pair-left (Err stopped) owner handle w = tt

  left-since : (before w : State) (result : Result (Option ℕ × State) Stop) → part w ≡ part before → LeftBy part w result → LeftBy part before result
  left-since before w (Ok end) same since = since ∙ same
  left-since before w (Err stopped) same since = tt

  next-left : (i list owner : ℕ) (before : State) (result : Result (Option ℕ × State) Stop) → LeftBy part before result → LeftBy part before (result >>= pair_installed i list owner)
  next-left i list owner before (Ok (handle, mid)) same = left-since before mid (pair_installed i list owner (handle, mid)) same (pair-left (pair_at list i mid) owner handle mid)
  next-left i list owner before (Err stopped) same = tt

  pairs-left : (count list owner : ℕ) (handle : Option ℕ) (w : State) → LeftBy part w (pairs_installed count list owner handle w)
  pairs-left zero list owner handle w = refl
  pairs-left (suc count) list owner handle w = next-left count list owner w (pairs_installed count list owner handle w) (pairs-left count list owner handle w)

  many-ends : (handle : Option ℕ) (out : ℕ) (w : State) (result : Result (Option ℕ × State) Stop) → LeftBy part w result → part (many_served handle out w result).1 ≡ part w
  many-ends handle out w (Ok (None, mid)) same = same
  many-ends handle out w (Ok (Some new, mid)) same = handle-left handle out new mid ∙ same
  many-ends handle out w (Err (stop.Status status)) same = refl
  many-ends handle out w (Err (stop.Trap cause)) same = refl

  open-ends : (full : Bool) (handle : ℕ) (name : List ℕ) (agent controller attr : ℕ) (out : Option ℕ) (address : ℕ) (w : State) → part (open_served full handle name agent controller attr out address w).1 ≡ part w
  open-ends true handle name agent controller attr out address w = refl
  open-ends false handle name agent controller attr out address w = store_if-left out address (on_soft (record_entered handle name agent controller attr) w) ∙ left.enter handle name agent controller attr w

  both-left : (count_first : Bool) (buffer at count n : ℕ) (w : State) → part (both_stored count_first buffer at count n w) ≡ part w
  both-left true buffer at count n w = number-left buffer at (number_stored count n w) ∙ number-left count n w
  both-left false buffer at count n w = number-left count n (number_stored buffer at w) ∙ number-left buffer at w

  block-ends : (count_first : Bool) (buffer count n : ℕ) (bytes : List ℕ) (w : State) (full : Bool) → part (block_served count_first buffer count n (block_made (if full then Err fault.Full else Ok w.soft.next_block) bytes w)).1 ≡ part w
  block-ends count_first buffer count n bytes w true = refl
  block-ends count_first buffer count n bytes w false = both-left count_first buffer w.soft.next_block count n (on_soft (block_added bytes Pool) w) ∙ left.block bytes w

  handles-left : (first second : ℕ) (value : ℕ) (bytes : List ℕ) (w : State) → part (bytes_stored second bytes (number_stored first value w)) ≡ part w
  handles-left first second value bytes w =
      left.memory (put_bytes (number_stored first value w).soft.memory second bytes) (number_stored first value w) ∙ number-left first value w

  location-left : (segment bus device function : ℕ) (at : Location) (w : State) → part (location_stored segment bus device function at w) ≡ part w
  location-left segment bus device function at w =
      number-left function at.2 (number_stored device at.1 (number_stored bus at.0 (number_stored segment 0 w)))
      ∙ number-left device at.1 (number_stored bus at.0 (number_stored segment 0 w))
      ∙ number-left bus at.0 (number_stored segment 0 w)
      ∙ number-left segment 0 w

  change-ends : (change : Change) (w : State) → is_apart change ≡ false → part (applied change w).1 ≡ part w
  change-ends (Value value) w other = refl
  change-ends (SetTpl tpl answer) w other = absurd cc
  change-ends (Allot size out) w other = allot-ends out (replicate size 0) w (is_block_full (length (replicate size 0)) w.soft)
  change-ends (Free at) w other = free-ends at w (begins Pool at w.soft.memory && not (is_image_block at w.soft.images))
  change-ends (Copy to from n) w other = left.memory (put_bytes w.soft.memory to (bytes_of w.soft.memory from n)) w
  change-ends (Fill to n byte) w other = left.memory (put_bytes w.soft.memory to (replicate n byte)) w
  change-ends (Store out value status) w other = store_if-left out value w
  change-ends (Install handle name address owner out) w other = install-ends (install_answer handle name w.soft) handle name address owner out w
  change-ends (InstallMany handle list count owner out) w other =
      many-ends handle out w (pairs_installed count list owner handle w) (pairs-left count list owner handle w)
  change-ends (Open handle name agent controller attr out address) w other =
      open-ends (is_full handle name agent controller attr w.soft.records) handle name agent controller attr out address w
  change-ends (Close handle name agent controller) w other = left.leave handle name agent controller w
  change-ends (Handles name size buffer) w other = handles-left size buffer (8 * length (handles_with name w.soft.database)) (number_bytes (handles_with name w.soft.database)) w
  change-ends (Block contents buffer count count_first) w other =
      block-ends count_first buffer count (contents_count contents w) (contents_bytes contents w) w (is_block_full (length (contents_bytes contents w)) w.soft)
  change-ends (Connect controller list count path at_end recursive) w other = refl
  change-ends (Disconnect controller driver child) w other = refl
  change-ends (Remove removal) w other = refl
  change-ends (Uninstall i) w other = refl
  change-ends (UninstallMany handle list count) w other = refl
  change-ends (ReadDevice t) w other = left.memory (put_bytes w.soft.memory t.buffer (device_bytes t w)) w
  change-ends (WriteDevice t) w other = absurd cc
  change-ends (StoreLocation segment bus device function at) w other = location-left segment bus device function at w
  change-ends (SetCommand function command) w other = absurd cc

-- ---- the task priority level

abbrev level : State → ℕ
level w = w.soft.tpl

level-left : IsLeft level
level-left = record {
  memory = λ segments w. refl;
  block = λ bytes w. refl;
  unblock = λ at w. refl;
  install = λ handle new w. refl;
  enter = λ handle name agent controller attr w. refl;
  leave = λ handle name agent controller w. refl;
}

-- a device that is written leaves it too
change-level : (change : Change) (w : State) → is_of_tpl change ≡ false → level (applied change w).1 ≡ level w
change-level (SetTpl tpl answer) w other = absurd cc
change-level (WriteDevice t) w other = refl
change-level (SetCommand function command) w other = refl
change-level change w other = change-ends level level-left change w refl

end-level : (result : Result Change Stop) (w : State) → Says (λ change. is_of_tpl change ≡ false) result → level (end_of_row w result).1 ≡ level w
end-level (Ok change) w others = change-level change w (others change refl)
end-level (Err (stop.Status status)) w others = refl
end-level (Err (stop.Trap cause)) w others = refl

pub tpl-stays : TplStays
tpl-stays s c w none =
    served-by (λ end. level end.1 ≡ level w) s c w
    refl
    refl
    (λ price. refl)
    (λ price a. end-level ((row s).rest c a (paid price w)) (paid price w) (rows-leave s c a (paid price w) none))

-- ---- the hard part

abbrev hard_part : State → Hard
hard_part w = w.hard

hard-left : IsLeft hard_part
hard-left = record {
  memory = λ segments w. refl;
  block = λ bytes w. refl;
  unblock = λ at w. refl;
  install = λ handle new w. refl;
  enter = λ handle name agent controller attr w. refl;
  leave = λ handle name agent controller w. refl;
}

-- every change leaves it, except for one that writes a device
change-hard : (change : Change) (w : State) → is_of_device change ≡ false → hard_part (applied change w).1 ≡ hard_part w
change-hard (SetTpl tpl answer) w other = refl
change-hard (WriteDevice t) w other = absurd cc
change-hard (SetCommand function command) w other = absurd cc
change-hard change w other = change-ends hard_part hard-left change w refl

end-hard : (result : Result Change Stop) (w : State) → Says (λ change. is_of_device change ≡ false) result → (end_of_row w result).1.hard ≡ w.hard
end-hard (Ok change) w others = change-hard change w (others change refl)
end-hard (Err (stop.Status status)) w others = refl
end-hard (Err (stop.Trap cause)) w others = refl

pub board-stays : BoardStays
board-stays s c w reads =
    served-by (λ end. end.1.hard.board ≡ w.hard.board) s c w
    refl
    refl
    (λ price. refl)
    (λ price a. ap (λ (hard : Hard). hard.board) (end-hard ((row s).rest c a (paid price w)) (paid price w) (rows-read s c a (paid price w) reads)))

-- what even those leave: the units, the events, the lines of the board and the option ROMs
record SameButDevices (old new : Hard) : Type 0 where
  units : new.units ≡ old.units
  events : new.events ≡ old.events
  lines : new.board.lines ≡ old.board.lines
  roms : new.roms ≡ old.roms

same_hard : (old new : Hard) → new ≡ old → SameButDevices old new
same_hard old new same = record {
  units = ap (λ (hard : Hard). hard.units) same;
  events = ap (λ (hard : Hard). hard.events) same;
  lines = ap (λ (hard : Hard). hard.board.lines) same;
  roms = ap (λ (hard : Hard). hard.roms) same;
}

device-leaves : (function : ℕ) (space : Space) (at : ℕ) (bytes : List ℕ) (w : State) → SameButDevices w.hard (device_written function space at bytes w).hard
device-leaves function Config at bytes w = record { units = refl; events = refl; lines = refl; roms = refl }
device-leaves function (Bar index) at bytes w = record { units = refl; events = refl; lines = refl; roms = refl }

change-leaves : (change : Change) (w : State) → SameButDevices w.hard (applied change w).1.hard
change-leaves (WriteDevice t) w = device-leaves t.function t.space t.at (bytes_of w.soft.memory t.buffer t.n) w
change-leaves (SetCommand function command) w = device-leaves function Config COMMAND (little_bytes 2 command) w
change-leaves change w = same_hard w.hard (applied change w).1.hard (change-hard change w refl)

end-leaves : (result : Result Change Stop) (w : State) → SameButDevices w.hard (end_of_row w result).1.hard
end-leaves (Ok change) w = change-leaves change w
end-leaves (Err (stop.Status status)) w = same_hard w.hard w.hard refl
end-leaves (Err (stop.Trap cause)) w = same_hard w.hard w.hard refl

pub events-stay : EventsStay
events-stay s c w =
    served-by (λ end. end.1.hard.events ≡ w.hard.events) s c w
    refl
    refl
    (λ price. refl)
    (λ price a. (end-leaves ((row s).rest c a (paid price w)) (paid price w)).events)

end-units : (price : ℕ) (result : Result Change Stop) (w : State) → (end_of_row (paid price w) result).1.hard.units ≤ w.hard.units
end-units price result w =
    let same : (end_of_row (paid price w) result).1.hard.units ≡ w.hard.units - price = (end-leaves result (paid price w)).units in
    omega arith

pub units-never-rise : UnitsNeverRise
units-never-rise s c w =
    served-by (λ end. end.1.hard.units ≤ w.hard.units) s c w
    (omega arith)
    (omega arith)
    (λ price. omega arith)
    (λ price a. end-units price ((row s).rest c a (paid price w)) w)

-- ---- the bus lists

abbrev lists : State → List (Option (List ℕ))
lists w = w.soft.bus_lists

lists-left : IsLeft lists
lists-left = record {
  memory = λ segments w. refl;
  block = λ bytes w. refl;
  unblock = λ at w. refl;
  install = λ handle new w. refl;
  enter = λ handle name agent controller attr w. refl;
  leave = λ handle name agent controller w. refl;
}

change-lists : (change : Change) (w : State) → lists (applied change w).1 ≡ lists w
change-lists (SetTpl tpl answer) w = refl
change-lists (WriteDevice t) w = refl
change-lists (SetCommand function command) w = refl
change-lists change w = change-ends lists lists-left change w refl

end-lists : (result : Result Change Stop) (w : State) → lists (end_of_row w result).1 ≡ lists w
end-lists (Ok change) w = change-lists change w
end-lists (Err (stop.Status status)) w = refl
end-lists (Err (stop.Trap cause)) w = refl

pub lines-stay : LinesStay
lines-stay s c w =
    served-by (λ end. (end.1.hard.board.lines ≡ w.hard.board.lines) × ((end.1.hard.roms ≡ w.hard.roms) × (end.1.soft.bus_lists ≡ w.soft.bus_lists))) s c w
    (refl, (refl, refl))
    (refl, (refl, refl))
    (λ price. (refl, (refl, refl)))
    (λ price a.
    let leaves = end-leaves ((row s).rest c a (paid price w)) (paid price w) in
    (leaves.lines, (leaves.roms, end-lists ((row s).rest c a (paid price w)) (paid price w))))

-- ---- the second look of an open

-- it ends with no change that writes a device
removal-reads : (found : Option (ℕ × ℕ)) (o : Opening) (w : State) → Says (λ change. is_of_device change ≡ false) (open_after_removal found o w)
removal-reads None o w = says-end (λ change. is_of_device change ≡ false) (Store (out_of o.attr o.out) 0 UNSUPPORTED) refl
removal-reads (Some found) o w =
    says-after (λ change. is_of_device change ≡ false) (refuse_if (has_record o.handle o.guid None None HOLDING_BITS w) ACCESS_DENIED) _
    (λ none. says-end (λ change. is_of_device change ≡ false) (Open o.handle o.guid o.agent (live_or_zero o.controller w) o.attr (out_of o.attr o.out) found.0) refl)

looks-read : (o : Opening) (w : State) → Says (λ change. is_of_device change ≡ false) (second_look o w)
looks-read o w =
    let P : Change → Type 0 = λ change. is_of_device change ≡ false in
    says-found P (alive o.handle INVALID_PARAMETER w) _ (λ handle is.
    says-after P (writable (out_size o.attr) o.out w) _ (λ can.
    says-found P (legal o.attr) _ (λ attr lawful.
    says-after P (refuse_if (dead o.agent w) INVALID_PARAMETER) _ (λ live.
    says-after P (refuse_if (has_bit_of CONTROLLER_BITS attr && dead o.controller w) INVALID_PARAMETER) _ (λ controller.
    says-after P (refuse_if (nat_eq attr BY_CHILD_CONTROLLER && nat_eq handle o.controller) INVALID_PARAMETER) _ (λ other.
    removal-reads (interface_of o.handle o.guid w.soft.database) o w))))))

pub looks-spend-nothing : SpendsNothing
unfolding looked_again
looks-spend-nothing r w = end-hard (second_look r w) w (looks-read r w)

pub looks-leave-lists : (o : Opening) (w : State) → (looked_again o w).1.soft.bus_lists ≡ w.soft.bus_lists
unfolding looked_again
looks-leave-lists o w = end-lists (second_look o w) w
