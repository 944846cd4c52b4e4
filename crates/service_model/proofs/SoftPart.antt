-- What services leave of the soft part: the segments that no code may write, the stacks, and what holds of
-- every soft part.
use Rattle.std.proofs.Common.{◌≡◌, inl, inr, ℕ, ◌-◌, ◌^◌, Bool, true, false, not, ◌&&◌, nat_eq, nat_lt, List, [], ◌∷◌, length, drop, take, replicate, length-append, length-take, length-drop, refl, sym, ◌∙◌, arith}
use Rattle.std.specs.Prelude.{zero, suc, ◌+◌, ◌*◌, Option, Some, None, unwrap_or, is_ok, is_some, Result, Ok, Err, if◌then◌else◌}
use Rattle.std.specs.List.{list_any}
use Rattle.std.proofs.lemmas.Bool.{and_parts, eqb-true, or_cases, or_parts}
use Rattle.std.proofs.lemmas.Bool.Decides.{nat_tests}
use Rattle.std.proofs.lemmas.List.{length-replicate}
use Rattle.byteorder.specs.Endian.{little_bytes}
use Rattle.byteorder.specs.Numbers.{length-bytes_low_first}
use Rattle.guest_memory.specs.declared.guest.MemRefusal.{MemRefusal}
use Rattle.guest_memory.specs.declared.guest.MemRefusal.TheVariants.{Full, Overlap}
use Rattle.guest_memory.specs.declared.segment.Segment.{Segment}
use Rattle.guest_memory.specs.declared.segment.SegKind.TheVariants.{Pool}
use Rattle.guest_memory.specs.Segment.{end_of, has_bytes, meets}
use Rattle.guest_memory.specs.GuestMemory.{begins, bytes_in, bytes_of, holder, is_full, is_readable, is_writable_range, map_answer, overlaps, put_bytes}
use Rattle.service_thunks.specs.declared.service.Service.{Service}
use Rattle.fw_types.specs.Attr.{is_legal}
use Rattle.handle_db.specs.Database.{handles_with, interface_of, is_live}
use Rattle.handle_db.specs.declared.handle_entry.Interface.{Interface}
use Rattle.handle_db.specs.declared.refusal.DbRefusal.{DbRefusal}
use Rattle.open_records.specs.Adding.{is_full as is_table_full}
use Rattle.open_records.specs.OpenRecords.{records_of}
use Rattle.open_records.specs.Verdicts.{judge, may_enter}
use Rattle.world_model.specs.World.{Soft, State, on_soft, with_memory, with_tpl}
use Rattle.world_model.specs.Interfaces.{install_answer, interface, interface_added}
use Rattle.world_model.specs.Records.{is_none_or_live, record_entered, records_left}
use Rattle.world_model.specs.Blocks.{block_added, block_freed, block_segment, free_answer, is_block_full, is_image_block}
use Rattle.world_model.specs.Fixed.{MappingKeepsFixed, PuttingKeepsFixed, fixed_segments}
use Rattle.world_model.specs.Keeping.{AllottingKeeps, BlockFits, EnteringKeeps, FreeingKeeps, InstallingKeeps, LeavingKeeps, PuttingKeeps, TplKeeps}
use Rattle.world_model.specs.Kept.{IsKept}
use Rattle.world_model.specs.Marks.{stacks}
use Rattle.world_model.specs.StackLaws.{AllottingKeepsStacks, FreeingKeepsStacks, PuttingKeepsStacks}
use Rattle.world_model.specs.declared.fault.WorldFault.{WorldFault}
use Rattle.world_model.specs.declared.fault.WorldFault.TheVariants as fault
use Rattle.pci_model.specs.BoardLines.{Location}
use Rattle.pci_model.specs.Spaces.{has_range, space_of}
use Rattle.service_model.specs.Changes.{allot_served, applied, block_made, block_served, both_stored, bytes_stored, device_bytes, free_served, location_stored, install_served, many_served, new_handle_stored, number_stored, open_served, pair_added, pair_installed, pairs_installed, stored_if}
use Rattle.service_model.specs.Many.{pair_at}
use Rattle.service_model.specs.Words.{◌>>=◌}
use Rattle.service_model.specs.Contents.{contents_bytes, contents_count, number_bytes}
use Rattle.service_model.specs.BootServices.{end_of_row, row}
use Rattle.service_model.specs.Allowed.{BlocksLeaveWritable, PuttingLeavesWritable, RowsAreAllowed, can_enter, can_install, can_store, is_allowed}
use Rattle.service_model.specs.Untouched.{FixedStay, KeptStays, StacksStay, left_by}
use Rattle.service_model.specs.declared.call.Caller.{Caller}
use Rattle.service_model.specs.declared.call.Served.{Served}
use Rattle.service_model.specs.declared.plan.Change.{Change}
use Rattle.service_model.specs.declared.plan.Change.TheVariants.{Value, SetTpl, Allot, Free, Copy, Fill, Store, Install, InstallMany, Open, Close, Handles, Block, Connect, Disconnect, Remove, Uninstall, UninstallMany, ReadDevice, WriteDevice, StoreLocation, SetCommand}
use Rattle.service_model.specs.declared.plan.Transfer.{Transfer}
use Rattle.service_model.specs.declared.plan.Stop.{Stop}
use Rattle.service_model.specs.declared.plan.Stop.TheVariants as stop
use Rattle.service_model.proofs.RowLines.{Says}
use Rattle.service_model.proofs.PoolBlocks.{freeing, mapping}
use Rattle.service_model.proofs.HasInterface.{had}
use Rattle.service_model.proofs.ServiceCases.{paid, served-by}

-- ---- bytes that are read

length-held-more : (s : Segment) (rest : List Segment) (at n : ℕ) (has : Bool) → has_bytes s at n ≡ has → is_some (holder (s ∷ rest) at n) ≡ true
    → (is_some (holder rest at n) ≡ true → length (bytes_of rest at n) ≡ n) → length (bytes_of (s ∷ rest) at n) ≡ n
length-held-more s rest at n true is there later =
    rw is (grind (arith, nat_tests, is, length-take n (drop (at - s.base) s.bytes), length-drop (at - s.base) s.bytes))
length-held-more s rest at n false is there later = rw is (later (rw is at there))

length-held : (segments : List Segment) (at n : ℕ) → is_some (holder segments at n) ≡ true → length (bytes_of segments at n) ≡ n
length-held [] at n there = absurd cc
length-held (s ∷ rest) at n there = length-held-more s rest at n (has_bytes s at n) refl there (λ others. length-held rest at n others)

length-none : (found : Option Segment) (at : ℕ) → length (bytes_in found at 0) ≡ 0
length-none None at = refl
length-none (Some s) at = refl

pub length-bytes_of : (segments : List Segment) (at n : ℕ) → is_readable segments at n ≡ true → length (bytes_of segments at n) ≡ n
length-bytes_of segments at n can =
    elim (or_cases (nat_eq n 0) (is_some (holder segments at n)) can) [
      | inl none ↦
          let zero : n ≡ 0 = eqb-true n 0 none in
          rw zero (length-none (holder segments at 0) at)
      | inr there ↦ length-held segments at n there
    ]

-- ---- blocks

-- a segment that nothing refuses to map meets no other
fits-apart : (segments : List Segment) (new : Segment) → map_answer segments new ≡ Ok tt → list_any (λ (other : Segment). meets new other) segments ≡ false
fits-apart segments new fits = by_test (overlaps segments new) refl (is_full segments new.kind (length new.bytes)) fits
  where
    by_test : (over : Bool) → overlaps segments new ≡ over → (full : Bool)
        → ◌≡◌ {A = Result Unit MemRefusal} (if over then Err Overlap else if full then Err Full else Ok tt) (Ok tt)
        → list_any (λ (other : Segment). meets new other) segments ≡ false
    by_test true is full fits = absurd cc
    by_test false is full fits = (or_parts (nat_lt (2 ^ 63) (end_of new)) (list_any (λ (other : Segment). meets new other) segments) is).1

-- what could be written can still be written when there is a new block
pub block-writable : BlockFits → BlocksLeaveWritable
block-writable fits soft bytes at n kept room can =
    let new : Segment = block_segment bytes Pool soft in
    mapping new soft.memory at n (fits-apart soft.memory new (fits soft bytes Pool kept refl room)) can

-- ---- relations that each change keeps

-- what an open needs to be entered
pub record CanEnter (handle : ℕ) (name : List ℕ) (agent controller attr : ℕ) (soft : Soft) : Type 0 where
  pub there : is_some (interface_of handle name soft.database) ≡ true
  pub by_live : is_live agent soft.database ≡ true
  pub for_live : is_none_or_live controller soft.database ≡ true
  pub legal : is_legal attr ≡ true
  pub verdict : may_enter (judge (records_of soft.records.entries handle name) agent controller attr) ≡ true
  pub room : is_table_full handle name agent controller attr soft.records ≡ false

-- a relation between soft parts, from one that is kept, that each single change keeps
pub record IsKeptBy (R : Soft → Soft → Type 0) : Type 0 where
  pub same : (soft : Soft) → IsKept soft → R soft soft
  pub after : (a b c : Soft) → R a b → R b c → R a c
  pub tpl : (soft : Soft) (tpl : ℕ) → IsKept soft → R soft (with_tpl tpl soft)
  pub put : (soft : Soft) (at : ℕ) (bytes : List ℕ) → IsKept soft → is_writable_range soft.memory at (length bytes) ≡ true → R soft (with_memory (put_bytes soft.memory at bytes) soft)
  pub allot : (soft : Soft) (bytes : List ℕ) → IsKept soft → is_block_full (length bytes) soft ≡ false → R soft (block_added bytes Pool soft)
  pub free : (soft : Soft) (at : ℕ) → IsKept soft → free_answer at Pool soft ≡ Ok tt → R soft (block_freed at soft)
  pub install : (soft : Soft) (handle : Option ℕ) (new : Interface) → IsKept soft → is_ok (install_answer handle new.guid soft) ≡ true → R soft (interface_added handle new soft)
  pub enter : (soft : Soft) (handle : ℕ) (name : List ℕ) (agent controller attr : ℕ) → IsKept soft → CanEnter handle name agent controller attr soft → R soft (record_entered handle name agent controller attr soft)
  pub leave : (soft : Soft) (handle : ℕ) (name : List ℕ) (agent controller : ℕ) → IsKept soft → R soft (records_left handle name agent controller soft)

abbrev pub StillKept : Soft → Soft → Type 0
StillKept a b = IsKept b

-- how a service leaves the soft part
abbrev pub Goes : (Soft → Soft → Type 0) → State → Served × State → Type 0
Goes R w end = R w.soft end.1.soft

allot-goes : (R : Soft → Soft → Type 0) → IsKeptBy R → IsKeptBy StillKept → BlockFits → (out : ℕ) (bytes : List ℕ) (w : State) (full : Bool) → IsKept w.soft → is_block_full (length bytes) w.soft ≡ full
    → is_writable_range w.soft.memory out 8 ≡ true → Goes R w (allot_served out (block_made (if full then Err fault.Full else Ok w.soft.next_block) bytes w))
allot-goes R by keeps fits out bytes w true kept is can = by.same w.soft kept
allot-goes R by keeps fits out bytes w false kept is can =
    let after : Soft = block_added bytes Pool w.soft in
    let address : List ℕ = little_bytes 8 w.soft.next_block in
    let long : length address ≡ 8 = length-bytes_low_first 0 8 w.soft.next_block in
    let there : is_writable_range after.memory out 8 ≡ true = block-writable fits w.soft bytes out 8 kept is can in
    let room : is_writable_range after.memory out (length address) ≡ true = rw long there in
    by.after w.soft after (with_memory (put_bytes after.memory out address) after)
    (by.allot w.soft bytes kept is)
    (by.put after out address (keeps.allot w.soft bytes kept is) room)

free-goes : (R : Soft → Soft → Type 0) → IsKeptBy R → (at : ℕ) (w : State) (answer : Result Unit WorldFault) → IsKept w.soft → free_answer at Pool w.soft ≡ answer → Goes R w (free_served answer at w)
free-goes R by at w (Ok done) kept is = by.free w.soft at kept is
free-goes R by at w (Err refusal) kept is = by.same w.soft kept

-- ---- numbers that are stored

store-goes : (R : Soft → Soft → Type 0) → IsKeptBy R → (at value : ℕ) (w : State) → IsKept w.soft → is_writable_range w.soft.memory at 8 ≡ true → R w.soft (number_stored at value w).soft
store-goes R by at value w kept can =
    let bytes : List ℕ = little_bytes 8 value in
    let long : length bytes ≡ 8 = length-bytes_low_first 0 8 value in
    let room : is_writable_range w.soft.memory at (length bytes) ≡ true = rw long can in
    by.put w.soft at bytes kept room

store-if-goes : (R : Soft → Soft → Type 0) → IsKeptBy R → (out : Option ℕ) (value : ℕ) (w : State) → IsKept w.soft → can_store out w ≡ true → R w.soft (stored_if out value w).soft
store-if-goes R by None value w kept can = by.same w.soft kept
store-if-goes R by (Some at) value w kept can = store-goes R by at value w kept can

handle-goes : (R : Soft → Soft → Type 0) → IsKeptBy R → (handle : Option ℕ) (out new : ℕ) (w : State) → IsKept w.soft → is_writable_range w.soft.memory out 8 ≡ true → R w.soft (new_handle_stored handle out new w).soft
handle-goes R by None out new w kept can = store-goes R by out new w kept can
handle-goes R by (Some handle) out new w kept can = by.same w.soft kept

-- one number, and then another
two-go : (R : Soft → Soft → Type 0) → IsKeptBy R → IsKeptBy StillKept → PuttingLeavesWritable → (first value second other : ℕ) (w : State) → IsKept w.soft
    → is_writable_range w.soft.memory first 8 ≡ true → is_writable_range w.soft.memory second 8 ≡ true
    → R w.soft (number_stored second other (number_stored first value w)).soft
two-go R by keeps puts first value second other w kept one two =
    let after : State = number_stored first value w in
    let still : IsKept after.soft = store-goes StillKept keeps first value w kept one in
    by.after w.soft after.soft (number_stored second other after).soft
    (store-goes R by first value w kept one)
    (store-goes R by second other after still (puts w.soft (little_bytes 8 value) first second 8 two))

both-go : (R : Soft → Soft → Type 0) → IsKeptBy R → IsKeptBy StillKept → PuttingLeavesWritable → (count_first : Bool) (buffer at count n : ℕ) (w : State) → IsKept w.soft
    → is_writable_range w.soft.memory buffer 8 ≡ true → is_writable_range w.soft.memory count 8 ≡ true
    → R w.soft (both_stored count_first buffer at count n w).soft
both-go R by keeps puts true buffer at count n w kept one two = two-go R by keeps puts count n buffer at w kept two one
both-go R by keeps puts false buffer at count n w kept one two = two-go R by keeps puts buffer at count n w kept one two

-- ---- protocol interfaces

install-goes : (R : Soft → Soft → Type 0) → IsKeptBy R → IsKeptBy StillKept → (answer : Result ℕ DbRefusal) (handle : Option ℕ) (name : List ℕ) (address owner out : ℕ) (w : State) → IsKept w.soft
    → install_answer handle name w.soft ≡ answer → is_writable_range w.soft.memory out 8 ≡ true
    → Goes R w (install_served answer handle name address owner out w)
install-goes R by keeps (Ok new) handle name address owner out w kept is can =
    let fine : is_ok (install_answer handle name w.soft) ≡ true = rw is refl in
    let after : State = on_soft (interface_added handle (interface name address owner)) w in
    let still : IsKept after.soft = keeps.install w.soft handle (interface name address owner) kept fine in
    by.after w.soft after.soft (new_handle_stored handle out new after).soft
    (by.install w.soft handle (interface name address owner) kept fine)
    (handle-goes R by handle out new after still can)
install-goes R by keeps (Err refusal) handle name address owner out w kept is can = by.same w.soft kept

-- how pairs leave the soft part, with its memory as it was, if none is refused
record Went (R : Soft → Soft → Type 0) (w : State) (end : Option ℕ × State) : Type 0 where
  goes : R w.soft end.1.soft
  kept : IsKept end.1.soft
  same : end.1.soft.memory ≡ w.soft.memory

abbrev WentBy : (Soft → Soft → Type 0) → State → Result (Option ℕ × State) Stop → Type 0
WentBy R w (Ok end) = Went R w end
WentBy R w (Err stopped) = Unit {0}

added-went : (R : Soft → Soft → Type 0) → IsKeptBy R → IsKeptBy StillKept → (answer : Result ℕ DbRefusal) (handle : Option ℕ) (pair : List ℕ × ℕ) (owner : ℕ) (w : State) → IsKept w.soft
    → install_answer handle pair.0 w.soft ≡ answer → WentBy R w (pair_added answer handle pair owner w)
added-went R by keeps (Ok new) handle pair owner w kept is =
    let fine : is_ok (install_answer handle pair.0 w.soft) ≡ true = rw is refl in
    record {
      goes = by.install w.soft handle (interface pair.0 pair.1 owner) kept fine;
      kept = keeps.install w.soft handle (interface pair.0 pair.1 owner) kept fine;
      same = refl;
    }
added-went R by keeps (Err refusal) handle pair owner w kept is = tt

pair-went : (R : Soft → Soft → Type 0) → IsKeptBy R → IsKeptBy StillKept → (pair : Result (List ℕ × ℕ) Stop) (owner : ℕ) (handle : Option ℕ) (w : State) → IsKept w.soft
    → WentBy R w (pair >>= λ pair. pair_added (install_answer handle pair.0 w.soft) handle pair owner w)
pair-went R by keeps (Ok pair) owner handle w kept = added-went R by keeps (install_answer handle pair.0 w.soft) handle pair owner w kept refl
pair-went R by keeps (Err stopped) owner handle w kept = tt

went-since : (R : Soft → Soft → Type 0) → IsKeptBy R → (before : State) (end : Option ℕ × State) (result : Result (Option ℕ × State) Stop) → Went R before end → WentBy R end.1 result → WentBy R before result
went-since R by before end (Ok last) went next = record {
  goes = by.after before.soft end.1.soft last.1.soft went.goes next.goes;
  kept = next.kept;
  same = next.same ∙ went.same;
}
went-since R by before end (Err stopped) went next = tt

next-went : (R : Soft → Soft → Type 0) → IsKeptBy R → IsKeptBy StillKept → (i list owner : ℕ) (before : State) (result : Result (Option ℕ × State) Stop) → WentBy R before result
    → WentBy R before (result >>= pair_installed i list owner)
next-went R by keeps i list owner before (Ok (handle, mid)) went =
    went-since R by before (handle, mid) (pair_installed i list owner (handle, mid)) went (pair-went R by keeps (pair_at list i mid) owner handle mid went.kept)
next-went R by keeps i list owner before (Err stopped) went = tt

pairs-went : (R : Soft → Soft → Type 0) → IsKeptBy R → IsKeptBy StillKept → (count list owner : ℕ) (handle : Option ℕ) (w : State) → IsKept w.soft → WentBy R w (pairs_installed count list owner handle w)
pairs-went R by keeps zero list owner handle w kept = record { goes = by.same w.soft kept; kept = kept; same = refl }
pairs-went R by keeps (suc count) list owner handle w kept =
    next-went R by keeps count list owner w (pairs_installed count list owner handle w) (pairs-went R by keeps count list owner handle w kept)

many-goes : (R : Soft → Soft → Type 0) → IsKeptBy R → (handle : Option ℕ) (out : ℕ) (w : State) (result : Result (Option ℕ × State) Stop) → IsKept w.soft → is_writable_range w.soft.memory out 8 ≡ true → WentBy R w result
    → Goes R w (many_served handle out w result)
many-goes R by handle out w (Ok (None, mid)) kept can went = went.goes
many-goes R by handle out w (Ok (Some new, mid)) kept can went =
    let there : is_writable_range mid.soft.memory out 8 ≡ true = rw went.same can in
    by.after w.soft mid.soft (new_handle_stored handle out new mid).soft went.goes (handle-goes R by handle out new mid went.kept there)
many-goes R by handle out w (Err (stop.Status status)) kept can went = by.same w.soft kept
many-goes R by handle out w (Err (stop.Trap cause)) kept can went = by.same w.soft kept

open-goes : (R : Soft → Soft → Type 0) → IsKeptBy R → IsKeptBy StillKept → (full : Bool) (handle : ℕ) (name : List ℕ) (agent controller attr : ℕ) (out : Option ℕ) (address : ℕ) (w : State) → IsKept w.soft
    → can_store out w ≡ true → (full ≡ false → CanEnter handle name agent controller attr w.soft)
    → Goes R w (open_served full handle name agent controller attr out address w)
open-goes R by keeps true handle name agent controller attr out address w kept can enters = by.same w.soft kept
open-goes R by keeps false handle name agent controller attr out address w kept can enters =
    let after : State = on_soft (record_entered handle name agent controller attr) w in
    let still : IsKept after.soft = keeps.enter w.soft handle name agent controller attr kept (enters refl) in
    let there : can_store out after ≡ true = stays out can in
    by.after w.soft after.soft (stored_if out address after).soft
    (by.enter w.soft handle name agent controller attr kept (enters refl))
    (store-if-goes R by out address after still there)
  where
    stays : (place : Option ℕ) → can_store place w ≡ true → can_store place (on_soft (record_entered handle name agent controller attr) w) ≡ true
    stays None can = refl
    stays (Some at) can = can

block-goes : (R : Soft → Soft → Type 0) → IsKeptBy R → IsKeptBy StillKept → BlockFits → PuttingLeavesWritable → (count_first : Bool) (buffer count n : ℕ) (bytes : List ℕ) (w : State) (full : Bool) → IsKept w.soft
    → is_block_full (length bytes) w.soft ≡ full
    → is_writable_range w.soft.memory buffer 8 ≡ true → is_writable_range w.soft.memory count 8 ≡ true
    → Goes R w (block_served count_first buffer count n (block_made (if full then Err fault.Full else Ok w.soft.next_block) bytes w))
block-goes R by keeps fits puts count_first buffer count n bytes w true kept is one two = by.same w.soft kept
block-goes R by keeps fits puts count_first buffer count n bytes w false kept is one two =
    let after : State = on_soft (block_added bytes Pool) w in
    let still : IsKept after.soft = keeps.allot w.soft bytes kept is in
    by.after w.soft after.soft (both_stored count_first buffer w.soft.next_block count n after).soft
    (by.allot w.soft bytes kept is)
    (both-go R by keeps puts count_first buffer w.soft.next_block count n after still
    (block-writable fits w.soft bytes buffer 8 kept is one)
    (block-writable fits w.soft bytes count 8 kept is two))

-- ---- all changes

-- what the proofs for the changes need
pub record Ground : Type 0 where
  pub keeps : IsKeptBy StillKept
  pub fits : BlockFits
  pub puts : PuttingLeavesWritable

-- as many bytes as 8 for each number
length-number_bytes : (numbers : List ℕ) → length (number_bytes numbers) ≡ 8 * length numbers
length-number_bytes [] = refl
length-number_bytes (number ∷ rest) =
    let here : length (little_bytes 8 number) ≡ 8 = length-bytes_low_first 0 8 number in
    grind (arith, here, length-number_bytes rest, length-append (little_bytes 8 number) (number_bytes rest))

handles-go : (R : Soft → Soft → Type 0) → IsKeptBy R → Ground → (name : Option (List ℕ)) (size buffer : ℕ) (w : State) → IsKept w.soft → is_allowed (Handles name size buffer) w ≡ true → Goes R w (applied (Handles name size buffer) w)
handles-go R by ground name size buffer w kept can =
    let found : List ℕ = handles_with name w.soft.database in
    let bytes : List ℕ = number_bytes found in
    let both = and_parts (is_writable_range w.soft.memory size 8) (is_writable_range w.soft.memory buffer (8 * length found)) can in
    let after : State = number_stored size (8 * length found) w in
    let still : IsKept after.soft = store-goes StillKept ground.keeps size (8 * length found) w kept both.0 in
    let long : length bytes ≡ 8 * length found = length-number_bytes found in
    let there : is_writable_range after.soft.memory buffer (8 * length found) ≡ true = ground.puts w.soft (little_bytes 8 (8 * length found)) size buffer (8 * length found) both.1 in
    let room : is_writable_range after.soft.memory buffer (length bytes) ≡ true = rw long there in
    by.after w.soft after.soft (bytes_stored buffer bytes after).soft
    (store-goes R by size (8 * length found) w kept both.0)
    (by.put after.soft buffer bytes still room)

-- as many bytes of a device as are asked for
length-device_bytes : (t : Transfer) (w : State) → has_range (space_of w.hard.board t.function t.space) (t.at + t.n) ≡ true → length (device_bytes t w) ≡ t.n
length-device_bytes t w range = by_space (space_of w.hard.board t.function t.space) range
  where
    by_space : (found : Option (List ℕ)) → has_range found (t.at + t.n) ≡ true → length (take t.n (drop t.at (unwrap_or found []))) ≡ t.n
    by_space None range = absurd cc
    by_space (Some bytes) range = grind (arith, nat_tests, range, length-take t.n (drop t.at bytes), length-drop t.at bytes)

-- the four numbers of a location, one after the other
location-goes : (R : Soft → Soft → Type 0) → IsKeptBy R → Ground → (segment bus device function : ℕ) (at : Location) (w : State) → IsKept w.soft
    → is_allowed (StoreLocation segment bus device function at) w ≡ true → R w.soft (location_stored segment bus device function at w).soft
location-goes R by ground segment bus device function at w kept can =
    let one = and_parts (is_writable_range w.soft.memory segment 8) (is_writable_range w.soft.memory bus 8 && (is_writable_range w.soft.memory device 8 && is_writable_range w.soft.memory function 8)) can in
    let two = and_parts (is_writable_range w.soft.memory bus 8) (is_writable_range w.soft.memory device 8 && is_writable_range w.soft.memory function 8) one.1 in
    let three = and_parts (is_writable_range w.soft.memory device 8) (is_writable_range w.soft.memory function 8) two.1 in
    let mid : State = number_stored bus at.0 (number_stored segment 0 w) in
    let still : IsKept mid.soft = two-go StillKept ground.keeps ground.keeps ground.puts segment 0 bus at.0 w kept one.0 two.0 in
    by.after w.soft mid.soft (number_stored function at.2 (number_stored device at.1 mid)).soft
    (two-go R by ground.keeps ground.puts segment 0 bus at.0 w kept one.0 two.0)
    (two-go R by ground.keeps ground.puts device at.1 function at.2 mid still (later device three.0) (later function three.1))
  where
    later : (place : ℕ) → is_writable_range w.soft.memory place 8 ≡ true → is_writable_range (number_stored bus at.0 (number_stored segment 0 w)).soft.memory place 8 ≡ true
    later place can =
        ground.puts (number_stored segment 0 w).soft (little_bytes 8 at.0) bus place 8 (ground.puts w.soft (little_bytes 8 0) segment place 8 can)

change-goes : (R : Soft → Soft → Type 0) → IsKeptBy R → Ground → (change : Change) (w : State) → IsKept w.soft → is_allowed change w ≡ true → Goes R w (applied change w)
change-goes R by ground (Value value) w kept can = by.same w.soft kept
change-goes R by ground (SetTpl tpl answer) w kept can = by.tpl w.soft tpl kept
change-goes R by ground (Allot size out) w kept can = allot-goes R by ground.keeps ground.fits out (replicate size 0) w (is_block_full (length (replicate size 0)) w.soft) kept refl can
change-goes R by ground (Free at) w kept can = free-goes R by at w (free_answer at Pool w.soft) kept refl
change-goes R by ground (Copy to from n) w kept can =
    let both = and_parts (is_readable w.soft.memory from n) (is_writable_range w.soft.memory to n) can in
    let long : length (bytes_of w.soft.memory from n) ≡ n = length-bytes_of w.soft.memory from n both.0 in
    let room : is_writable_range w.soft.memory to (length (bytes_of w.soft.memory from n)) ≡ true = rw long both.1 in
    by.put w.soft to (bytes_of w.soft.memory from n) kept room
change-goes R by ground (Fill to n byte) w kept can =
    let long : length (replicate n byte) ≡ n = length-replicate n byte in
    let room : is_writable_range w.soft.memory to (length (replicate n byte)) ≡ true = rw long can in
    by.put w.soft to (replicate n byte) kept room
change-goes R by ground (Store out value status) w kept can = store-if-goes R by out value w kept can
change-goes R by ground (Install handle name address owner out) w kept can =
    install-goes R by ground.keeps (install_answer handle name w.soft) handle name address owner out w kept refl can
change-goes R by ground (InstallMany handle list count owner out) w kept can =
    let both = and_parts (is_writable_range w.soft.memory out 8) (can_install handle list count w) can in
    many-goes R by handle out w (pairs_installed count list owner handle w) kept both.0 (pairs-went R by ground.keeps count list owner handle w kept)
change-goes R by ground (Open handle name agent controller attr out address) w kept can =
    let table : Bool = is_table_full handle name agent controller attr w.soft.records in
    let one = and_parts (can_store out w) (can_enter handle name agent controller attr w) can in
    let two = and_parts (is_some (interface_of handle name w.soft.database)) (is_live agent w.soft.database && (is_none_or_live controller w.soft.database && (is_legal attr && may_enter (judge (records_of w.soft.records.entries handle name) agent controller attr)))) one.1 in
    let three = and_parts (is_live agent w.soft.database) (is_none_or_live controller w.soft.database && (is_legal attr && may_enter (judge (records_of w.soft.records.entries handle name) agent controller attr))) two.1 in
    let four = and_parts (is_none_or_live controller w.soft.database) (is_legal attr && may_enter (judge (records_of w.soft.records.entries handle name) agent controller attr)) three.1 in
    let five = and_parts (is_legal attr) (may_enter (judge (records_of w.soft.records.entries handle name) agent controller attr)) four.1 in
    open-goes R by ground.keeps table handle name agent controller attr out address w kept one.0
    (λ room. record { there = two.0; by_live = three.0; for_live = four.0; legal = five.0; verdict = five.1; room = room })
change-goes R by ground (Close handle name agent controller) w kept can = by.leave w.soft handle name agent controller kept
change-goes R by ground (Handles name size buffer) w kept can = handles-go R by ground name size buffer w kept can
change-goes R by ground (Block contents buffer count count_first) w kept can =
    let both = and_parts (is_writable_range w.soft.memory buffer 8) (is_writable_range w.soft.memory count 8) can in
    block-goes R by ground.keeps ground.fits ground.puts count_first buffer count (contents_count contents w) (contents_bytes contents w) w (is_block_full (length (contents_bytes contents w)) w.soft) kept refl both.0 both.1
change-goes R by ground (Connect controller list count path at_end recursive) w kept can = by.same w.soft kept
change-goes R by ground (Disconnect controller driver child) w kept can = by.same w.soft kept
change-goes R by ground (Remove removal) w kept can = by.same w.soft kept
change-goes R by ground (Uninstall i) w kept can = by.same w.soft kept
change-goes R by ground (UninstallMany handle list count) w kept can = by.same w.soft kept
change-goes R by ground (ReadDevice t) w kept can =
    let both = and_parts (is_writable_range w.soft.memory t.buffer t.n) (has_range (space_of w.hard.board t.function t.space) (t.at + t.n)) can in
    let long : length (device_bytes t w) ≡ t.n = length-device_bytes t w both.1 in
    let room : is_writable_range w.soft.memory t.buffer (length (device_bytes t w)) ≡ true = rw long both.0 in
    by.put w.soft t.buffer (device_bytes t w) kept room
change-goes R by ground (WriteDevice t) w kept can = by.same w.soft kept
change-goes R by ground (StoreLocation segment bus device function at) w kept can = location-goes R by ground segment bus device function at w kept can
change-goes R by ground (SetCommand function command) w kept can = by.same w.soft kept

pub end-goes : (R : Soft → Soft → Type 0) → IsKeptBy R → Ground → (result : Result Change Stop) (w : State) → IsKept w.soft → Says (λ change. is_allowed change w ≡ true) result → Goes R w (end_of_row w result)
end-goes R by ground (Ok change) w kept can = change-goes R by ground change w kept (can change refl)
end-goes R by ground (Err (stop.Status status)) w kept can = by.same w.soft kept
end-goes R by ground (Err (stop.Trap cause)) w kept can = by.same w.soft kept

-- a service keeps such a relation
pub services-go : (R : Soft → Soft → Type 0) → IsKeptBy R → Ground → RowsAreAllowed → (s : Service) (c : Caller) (w : State) → IsKept w.soft → R w.soft (left_by s c w).soft
services-go R by ground allowed s c w kept =
    served-by (Goes R w) s c w
    (by.same w.soft kept)
    (by.same w.soft kept)
    (λ price. by.same w.soft kept)
    (λ price a. end-goes R by ground ((row s).rest c a (paid price w)) (paid price w) kept (allowed s c a (paid price w)))

-- ---- the segments that no code may write, the stacks, and what holds of every soft part

abbrev SameFixed : Soft → Soft → Type 0
SameFixed a b = fixed_segments b.memory ≡ fixed_segments a.memory

begins-there : (at : ℕ) (soft : Soft) → free_answer at Pool soft ≡ Ok tt → begins Pool at soft.memory ≡ true
begins-there at soft done = by_test (begins Pool at soft.memory) (not (is_image_block at soft.images)) done
  where
    by_test : (there other : Bool) → ◌≡◌ {A = Result Unit WorldFault} (if there && other then Ok tt else Err fault.NotThere) (Ok tt) → there ≡ true
    by_test true other done = refl
    by_test false other done = absurd cc

fixed-by : PuttingKeepsFixed → MappingKeepsFixed → IsKeptBy SameFixed
fixed-by puts maps = record {
  same = λ soft kept. refl;
  after = λ a b c ab bc. bc ∙ ab;
  tpl = λ soft tpl kept. refl;
  put = λ soft at bytes kept can. puts soft.memory at bytes can;
  allot = λ soft bytes kept room. maps soft.memory (block_segment bytes Pool soft) kept.memory.apart;
  free = λ soft at kept done. freeing 0 soft.memory at kept.memory.apart (begins-there at soft done);
  install = λ soft handle new kept fine. refl;
  enter = λ soft handle name agent controller attr kept can. refl;
  leave = λ soft handle name agent controller kept. refl;
}

pub fixed-stay : PuttingKeepsFixed → MappingKeepsFixed → Ground → RowsAreAllowed → FixedStay
fixed-stay puts maps ground allowed = services-go SameFixed (fixed-by puts maps) ground allowed

abbrev pub SameStacks : Soft → Soft → Type 0
SameStacks a b = stacks b ≡ stacks a

pub stacks-by : PuttingKeepsStacks → AllottingKeepsStacks → FreeingKeepsStacks → IsKeptBy SameStacks
stacks-by puts allots frees = record {
  same = λ soft kept. refl;
  after = λ a b c ab bc. bc ∙ ab;
  tpl = λ soft tpl kept. refl;
  put = λ soft at bytes kept can. puts soft at bytes;
  allot = λ soft bytes kept room. allots soft bytes Pool refl;
  free = λ soft at kept done. frees soft at Pool kept refl done;
  install = λ soft handle new kept fine. refl;
  enter = λ soft handle name agent controller attr kept can. refl;
  leave = λ soft handle name agent controller kept. refl;
}

pub stacks-stay : PuttingKeepsStacks → AllottingKeepsStacks → FreeingKeepsStacks → Ground → RowsAreAllowed → StacksStay
stacks-stay puts allots frees ground allowed = services-go SameStacks (stacks-by puts allots frees) ground allowed

-- what holds of every soft part, by each single change
pub record Changes : Type 0 where
  pub puts : PuttingKeeps
  pub sets : TplKeeps
  pub allots : AllottingKeeps
  pub frees : FreeingKeeps
  pub installs : InstallingKeeps
  pub enters : EnteringKeeps
  pub leaves : LeavingKeeps

pub kept-by : Changes → IsKeptBy StillKept
kept-by by = record {
  same = λ soft kept. kept;
  after = λ a b c ab bc. bc;
  tpl = λ soft tpl kept. by.sets soft tpl kept;
  put = λ soft at bytes kept can. by.puts soft at bytes kept can;
  allot = λ soft bytes kept room. by.allots soft bytes Pool kept refl room;
  free = λ soft at kept done. by.frees soft at Pool kept refl done;
  install = λ soft handle new kept fine. by.installs soft handle new kept fine;
  enter = λ soft handle name agent controller attr kept can. by.enters soft handle name agent controller attr kept (sym (had handle name soft.database) ∙ can.there) can.by_live can.for_live can.verdict can.legal can.room;
  leave = λ soft handle name agent controller kept. by.leaves soft handle name agent controller kept;
}

pub kept-stays : Ground → RowsAreAllowed → KeptStays
kept-stays ground allowed = services-go StillKept ground.keeps ground allowed
