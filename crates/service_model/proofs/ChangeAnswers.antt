-- What changes answer, and what services answer by them: why they trap, what an error leaves, and whether
-- they go on.
use Rattle.std.proofs.Common.{◌≡◌, ◌≤◌, ℕ, zero, suc, ◌^◌, Bool, true, false, not, ◌&&◌, nat_lt, List, length, replicate, refl, ap, ◌∙◌, arith}
use Rattle.std.specs.Prelude.{Option, None, Result, Ok, Err, if◌then◌else◌}
use Rattle.std.proofs.lemmas.Bool.Decides.{nat_tests}
use Rattle.fw_types.specs.Status.{is_error}
use Rattle.fw_types.specs.declared.status.Status.{Status as StatusValue}
use Rattle.fw_types.specs.declared.status.TheConstants.Status.{INVALID_PARAMETER, OUT_OF_RESOURCES, SUCCESS}
use Rattle.fw_types.specs.declared.event.Cause.{Cause}
use Rattle.fw_types.specs.declared.event.Cause.TheVariants.{Budget, Memory}
use Rattle.guest_memory.specs.declared.segment.SegKind.TheVariants.{Pool}
use Rattle.guest_memory.specs.GuestMemory.{begins}
use Rattle.handle_db.specs.declared.refusal.DbRefusal.{DbRefusal}
use Rattle.open_records.specs.Adding.{is_full}
use Rattle.service_thunks.specs.declared.service.Service.{Service}
use Rattle.world_model.specs.World.{State}
use Rattle.world_model.specs.Blocks.{is_block_full, is_image_block}
use Rattle.world_model.specs.Interfaces.{install_answer}
use Rattle.world_model.specs.declared.fault.WorldFault.TheVariants as fault
use Rattle.service_model.specs.Contents.{contents_bytes, contents_count}
use Rattle.service_model.specs.BootServices.{end_of_row, row}
use Rattle.service_model.specs.Changes.{allot_served, applied, block_made, block_served, free_served, install_served, many_served, open_served, pair_added, pair_installed, pairs_installed, status_answered, stored_if}
use Rattle.service_model.specs.Many.{pair_at}
use Rattle.service_model.specs.Allowed.{ReentriesChangeNothing, goes_again}
use Rattle.service_model.specs.Untouched.{ErrorsChangeNothing, OthersEnd, ShortOfUnitsTraps, StoresAtMostOne, TrapsChangeNothing, TrapsForItsCause, UnreadablePriceTraps, cause_by, goes_on}
use Rattle.service_model.specs.declared.call.Caller.{Caller}
use Rattle.service_model.specs.declared.call.Reentry.{Reentry}
use Rattle.service_model.specs.declared.call.Served.{Served}
use Rattle.service_model.specs.declared.call.Served.TheVariants as served
use Rattle.service_model.specs.declared.plan.Change.{Change}
use Rattle.service_model.specs.declared.plan.Change.TheVariants.{Allot, Block, Close, Connect, Copy, Disconnect, Fill, Free, Handles, Install, InstallMany, Open, ReadDevice, Remove, SetCommand, SetTpl, Store, StoreLocation, Uninstall, UninstallMany, Value, WriteDevice}
use Rattle.service_model.specs.declared.plan.Stop.{Stop}
use Rattle.service_model.specs.declared.plan.Stop.TheVariants as stop
use Rattle.service_model.proofs.RowLines.{Says, TrapsByMemory, traps-end, traps-found, traps-status}
use Rattle.service_model.proofs.AllowedRows.{IsLevel, rows-end, rows-level}
use Rattle.service_model.proofs.RowTraps.{pair_at-traps, rows-trap}
use Rattle.service_model.proofs.ServiceCases.{paid, served-by, served-cases}

-- ---- changes

-- one number is stored or none
record StoresOne (w new : State) : Type 0 where
  out : Option ℕ
  number : ℕ
  leaves : new ≡ stored_if out number w

-- a trap is for `Memory` and leaves the state, an error stores one number at most, and whether it goes on
record Answers (again : Bool) (w : State) (end : Served × State) : Type 0 where
  traps : (cause : Cause) → end.0 ≡ served.Trap cause → (end.1 ≡ w) × (cause ≡ Memory)
  errors : (value : ℕ) → end.0 ≡ served.Value value → is_error (record { 0 = value }) ≡ true → StoresOne w end.1
  goes : goes_on end.0 ≡ again

no-error : (answer value : ℕ) → answer ≤ 31 → ◌≡◌ {A = Served} (served.Value answer) (served.Value value) → is_error (record { 0 = value }) ≡ true → ⊥
no-error answer value low is error =
    let same : answer ≡ value = cc in
    let high : 2 ^ 63 ≤ value = grind (arith, nat_tests, error) in
    omega arith

succeeds : (w after : State) → Answers false w (status_answered SUCCESS after)
succeeds w after = record {
  traps = λ cause is. absurd cc;
  errors = λ value is error. absurd (no-error 0 value (omega arith) is error);
  goes = refl;
}

as-before : (status : StatusValue) (w : State) → Answers false w (status_answered status w)
as-before status w = record {
  traps = λ cause is. absurd cc;
  errors = λ value is error. record { out = None; number = 0; leaves = refl };
  goes = refl;
}

goes-on : (w : State) (reentry : Reentry) → Answers true w (served.Again reentry, w)
goes-on w reentry = record {
  traps = λ cause is. absurd cc;
  errors = λ value is error. absurd cc;
  goes = refl;
}

allot-answers : (out : ℕ) (bytes : List ℕ) (w : State) (full : Bool) → Answers false w (allot_served out (block_made (if full then Err fault.Full else Ok w.soft.next_block) bytes w))
allot-answers out bytes w true = as-before OUT_OF_RESOURCES w
allot-answers out bytes w false = succeeds w _

free-answers : (at : ℕ) (w : State) (there : Bool) → Answers false w (free_served (if there then Ok tt else Err fault.NotThere) at w)
free-answers at w true = succeeds w _
free-answers at w false = as-before INVALID_PARAMETER w

install-answers : (answer : Result ℕ DbRefusal) (handle : Option ℕ) (name : List ℕ) (address owner out : ℕ) (w : State) → Answers false w (install_served answer handle name address owner out w)
install-answers (Ok new) handle name address owner out w = succeeds w _
install-answers (Err refusal) handle name address owner out w = as-before OUT_OF_RESOURCES w

-- pairs trap only for `Memory`
added-traps : (answer : Result ℕ DbRefusal) (handle : Option ℕ) (pair : List ℕ × ℕ) (owner : ℕ) (w : State) → TrapsByMemory (pair_added answer handle pair owner w)
added-traps (Ok new) handle pair owner w = traps-end _
added-traps (Err refusal) handle pair owner w = traps-status OUT_OF_RESOURCES

pair-traps : (i list owner : ℕ) (end : Option ℕ × State) → TrapsByMemory (pair_installed i list owner end)
pair-traps i list owner (handle, mid) = traps-found (pair_at list i mid) _ (pair_at-traps list i mid) (λ pair. added-traps (install_answer handle pair.0 mid.soft) handle pair owner mid)

pairs-trap : (count list owner : ℕ) (handle : Option ℕ) (w : State) → TrapsByMemory (pairs_installed count list owner handle w)
pairs-trap zero list owner handle w = traps-end (handle, w)
pairs-trap (suc count) list owner handle w =
    traps-found (pairs_installed count list owner handle w) (pair_installed count list owner) (pairs-trap count list owner handle w) (pair-traps count list owner)

many-answers : (handle : Option ℕ) (out : ℕ) (w : State) (result : Result (Option ℕ × State) Stop) → TrapsByMemory result → Answers false w (many_served handle out w result)
many-answers handle out w (Ok end) by = succeeds w _
many-answers handle out w (Err (stop.Status status)) by = as-before status w
many-answers handle out w (Err (stop.Trap cause)) by = record {
  traps = λ other is. (refl, by other cc);
  errors = λ value is error. absurd cc;
  goes = refl;
}

open-answers : (full : Bool) (handle : ℕ) (name : List ℕ) (agent controller attr : ℕ) (out : Option ℕ) (address : ℕ) (w : State) → Answers false w (open_served full handle name agent controller attr out address w)
open-answers true handle name agent controller attr out address w = as-before OUT_OF_RESOURCES w
open-answers false handle name agent controller attr out address w = succeeds w _

block-answers : (count_first : Bool) (buffer count n : ℕ) (bytes : List ℕ) (w : State) (full : Bool)
    → Answers false w (block_served count_first buffer count n (block_made (if full then Err fault.Full else Ok w.soft.next_block) bytes w))
block-answers count_first buffer count n bytes w true = as-before OUT_OF_RESOURCES w
block-answers count_first buffer count n bytes w false = succeeds w _

change-answers : (change : Change) (w : State) → IsLevel change → Answers (goes_again change) w (applied change w)
change-answers (Value value) w level = record {
  traps = λ cause is. absurd cc;
  errors = λ other is error. record { out = None; number = 0; leaves = refl };
  goes = refl;
}
change-answers (SetTpl tpl answer) w level = record {
  traps = λ cause is. absurd cc;
  errors = λ value is error. absurd (no-error answer value level is error);
  goes = refl;
}
change-answers (Allot size out) w level = allot-answers out (replicate size 0) w (is_block_full (length (replicate size 0)) w.soft)
change-answers (Free at) w level = free-answers at w (begins Pool at w.soft.memory && not (is_image_block at w.soft.images))
change-answers (Copy to from n) w level = succeeds w _
change-answers (Fill to n byte) w level = succeeds w _
change-answers (Store out value status) w level = record {
  traps = λ cause is. absurd cc;
  errors = λ other is error. record { out = out; number = value; leaves = refl };
  goes = refl;
}
change-answers (Install handle name address owner out) w level = install-answers (install_answer handle name w.soft) handle name address owner out w
change-answers (InstallMany handle list count owner out) w level =
    many-answers handle out w (pairs_installed count list owner handle w) (pairs-trap count list owner handle w)
change-answers (Open handle name agent controller attr out address) w level =
    open-answers (is_full handle name agent controller attr w.soft.records) handle name agent controller attr out address w
change-answers (Close handle name agent controller) w level = succeeds w _
change-answers (Handles name size buffer) w level = succeeds w _
change-answers (Block contents buffer count count_first) w level =
    block-answers count_first buffer count (contents_count contents w) (contents_bytes contents w) w (is_block_full (length (contents_bytes contents w)) w.soft)
change-answers (Connect controller list count path at_end recursive) w level = goes-on w _
change-answers (Disconnect controller driver child) w level = goes-on w _
change-answers (Remove removal) w level = goes-on w _
change-answers (Uninstall i) w level = goes-on w _
change-answers (UninstallMany handle list count) w level = goes-on w _
change-answers (ReadDevice t) w level = succeeds w _
change-answers (WriteDevice t) w level = succeeds w _
change-answers (StoreLocation segment bus device function at) w level = succeeds w _
change-answers (SetCommand function command) w level = succeeds w _

-- what goes on leaves the state
pub reentries-go : ReentriesChangeNothing
reentries-go (Connect controller list count path at_end recursive) w is = (refl, refl)
reentries-go (Disconnect controller driver child) w is = (refl, refl)
reentries-go (Remove removal) w is = (refl, refl)
reentries-go (Uninstall i) w is = (refl, refl)
reentries-go (UninstallMany handle list count) w is = (refl, refl)
reentries-go change w is = absurd cc

-- ---- rows

-- whether what a row ends with goes on
abbrev again_after : Result Change Stop → Bool
again_after (Ok change) = goes_again change
again_after (Err stop) = false

row-answers : (result : Result Change Stop) (w : State) → TrapsByMemory result → Says IsLevel result → Answers (again_after result) w (end_of_row w result)
row-answers (Ok change) w by level = change-answers change w (level change refl)
row-answers (Err (stop.Status status)) w by level = as-before status w
row-answers (Err (stop.Trap cause)) w by level = record {
  traps = λ other is. (refl, by other cc);
  errors = λ value is error. absurd cc;
  goes = refl;
}

not-again : (result : Result Change Stop) → Says (λ change. goes_again change ≡ false) result → again_after result ≡ false
not-again (Ok change) ends = ends change refl
not-again (Err stop) ends = refl

-- ---- services

module _ (s : Service) (c : Caller) where
  work-answers : (a : List ℕ) (w : State) → Answers (again_after ((row s).rest c a w)) w (end_of_row w ((row s).rest c a w))
  work-answers a w = row-answers ((row s).rest c a w) w (rows-trap s c a w) (rows-level s c a w)

pub others-end : OthersEnd
others-end s c w other =
    served-by (λ end. goes_on end.0 ≡ false) s c w refl refl (λ price. refl)
    (λ price a. (work-answers s c a (paid price w)).goes ∙ not-again ((row s).rest c a (paid price w)) (rows-end s c a (paid price w) other))

pub traps-change-nothing : TrapsChangeNothing
traps-change-nothing s c w =
    served-by (λ end. (cause : Cause) → end.0 ≡ served.Trap cause → (end.1.soft ≡ w.soft) × (end.1.hard.board ≡ w.hard.board)) s c w
    (λ cause is. (refl, refl))
    (λ cause is. (refl, refl))
    (λ price cause is. (refl, refl))
    (λ price a cause is.
    let same = ((work-answers s c a (paid price w)).traps cause is).0 in
    (ap (λ (left : State). left.soft) same, ap (λ (left : State). left.hard.board) same))

pub traps-for-cause : TrapsForItsCause
traps-for-cause s c w =
    served-cases (λ known end. (cause : Cause) → end.0 ≡ served.Trap cause → cause ≡ cause_by known w) s c w
    (λ price short cause is. rw short cc)
    (λ cause is. cc)
    (λ price enough cause is. rw enough cc)
    (λ price a enough cause is. rw enough ((work-answers s c a (paid price w)).traps cause is).1)

pub short-traps : ShortOfUnitsTraps
short-traps s c w =
    served-cases (λ known end. (price : ℕ) → known ≡ Ok price → nat_lt w.hard.units price ≡ true → end ≡ (served.Trap Budget, w)) s c w
    (λ other short price is known. refl)
    (λ price is known. absurd cc)
    (λ other enough price is known. absurd cc)
    (λ other a enough price is known. absurd cc)

pub unreadable-traps : UnreadablePriceTraps
unreadable-traps s c w =
    served-cases (λ known end. (stopped : Stop) → known ≡ Err stopped → end ≡ (served.Trap Memory, w)) s c w
    (λ price short stopped is. absurd cc)
    (λ stopped is. refl)
    (λ price enough stopped is. absurd cc)
    (λ price a enough stopped is. absurd cc)

stores-after : (price : ℕ) (w new : State) → StoresOne (paid price w) new → StoresAtMostOne (Ok price) w new
stores-after price w new stores = record { price = price; out = stores.out; number = stores.number; costs = refl; leaves = stores.leaves }

pub errors-change-nothing : ErrorsChangeNothing
errors-change-nothing s c w =
    served-cases (λ known end. (value : ℕ) → end.0 ≡ served.Value value → is_error (record { 0 = value }) ≡ true → StoresAtMostOne known w end.1) s c w
    (λ price short value is error. absurd cc)
    (λ value is error. absurd cc)
    (λ price enough value is error. absurd cc)
    (λ price a enough value is error.
    stores-after price w _ ((work-answers s c a (paid price w)).errors value is error))
