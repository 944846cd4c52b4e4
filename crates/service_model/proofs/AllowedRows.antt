-- What rows end with: changes that can be applied; that leave the task priority level, except for the two
-- services that set it; that leave all devices, except for the three that write one; and that do not go on,
-- except for those that disconnect or connect drivers.
use Rattle.std.proofs.Common.{◌≡◌, ◌≤◌, ℕ, ◌*◌, Bool, true, false, ◌&&◌, not, nat_eq, nat_le, List, find, refl, sym, ap, ◌∙◌, subst, rules, arith}
use Rattle.std.specs.Prelude.{Option, Some, None, is_some, Ok, if◌then◌else◌}
use Rattle.std.proofs.lemmas.Bool.{and_from, and_parts, or_right}
use Rattle.std.proofs.lemmas.Bool.Decides.{nat_tests}
use Rattle.fw_types.specs.Attr.{has_bit_of, is_legal}
use Rattle.fw_types.specs.declared.attr.TheConstants.Attr.{AGENT_BITS, BY_CHILD_CONTROLLER, BY_HANDLE_PROTOCOL, CONTROLLER_BITS, HOLDING_BITS, TEST_PROTOCOL}
use Rattle.fw_types.specs.declared.status.TheConstants.Status.{ACCESS_DENIED, ALREADY_STARTED, INVALID_PARAMETER, NOT_FOUND, SUCCESS, UNSUPPORTED}
use Rattle.fw_types.specs.declared.event.Cause.TheVariants.{Memory}
use Rattle.guest_memory.specs.GuestMemory.{is_readable, is_writable_range}
use Rattle.handle_db.specs.Database.{interface_of, is_live}
use Rattle.std.specs.List.{list_any}
use Rattle.open_records.specs.OpenRecords.{is_equal, is_strong, records_of}
use Rattle.open_records.specs.declared.open_record.Rec.{Rec}
use Rattle.open_records.specs.Verdicts.{against, judge, may_enter}
use Rattle.open_records.specs.declared.verdict.Verdict.{Verdict}
use Rattle.open_records.specs.declared.verdict.Verdict.TheVariants.{Add, Count, Already, Denied, MustDisconnect}
use Rattle.service_thunks.specs.declared.service.Service.{Service}
use Rattle.service_thunks.specs.declared.service.Service.TheVariants as service
use Rattle.world_model.specs.World.{State}
use Rattle.world_model.specs.Interfaces.{firmware}
use Rattle.world_model.specs.Records.{is_none_or_live}
use Rattle.service_model.specs.Words.{alive, dead, guid, legal, null, readable, refuse_if, writable}
use Rattle.service_model.specs.Rows.{allocate_pool, copy_mem, raise_tpl, restore_tpl, set_mem, unbuilt}
use Rattle.service_model.specs.Protocols.{close, handle_protocol, live_or_zero, how_many, install, locate_handle, locate_handle_buffer, locate_protocol, change_for_found, open_protocol, open_protocol_information, open_by_interface, opening, out_of, out_size, protocols_per_handle, change_for_verdict, open_by_records, handles_in_buffer, uninstall}
use Rattle.service_model.specs.Many.{first_pair, install_multiple, uninstall_multiple}
use Rattle.service_model.specs.BootServices.{arg, arg32, arg8, row}
use Rattle.service_model.specs.Allowed.{RowsAreAllowed, can_store, goes_again, is_allowed}
use Rattle.service_model.specs.declared.numbers.TheConstants.{TPL_HIGH_LEVEL}
use Rattle.service_model.specs.Connecting.{connect_controller, disconnect_controller}
use Rattle.service_model.specs.Untouched.{may_go_on, sets_tpl, writes_device}
use Rattle.pci_model.specs.declared.space.Space.TheVariants.{Bar, Config}
use Rattle.service_model.specs.declared.call.Caller.{Caller}
use Rattle.service_model.specs.declared.call.Opening.{Opening}
use Rattle.service_model.specs.declared.plan.Contents.{Contents}
use Rattle.service_model.specs.declared.plan.Change.{Change}
use Rattle.service_model.specs.declared.plan.Change.TheVariants.{Block, Disconnect, Free, Open, Remove, SetTpl, Store, Value}
use Rattle.service_model.specs.declared.plan.Stop.TheVariants.{Status, Trap}
use Rattle.service_model.proofs.ChangeSorts.{Applies, Fine, FineOnBoard, can-read, can-write, is_apart, is_of_device, is_of_tpl, not-device, not-tpl}
use Rattle.service_model.proofs.ConnectRows.{connect-allowed}
use Rattle.service_model.proofs.PciRows.{attributes-fine, location-fine, read-fine, write-fine}
use Rattle.service_model.proofs.PairRows.{fits-of, lives, pairs-readable}
use Rattle.service_model.proofs.RowLines.{Says, is-legal, is-same, says-after, says-end, says-found, says-if, says-stop, says-weaker}

-- ---- installing and uninstalling

install-fine : (owner handle_at guid_at kind interface : ℕ) (w : State) → Says (Fine w) (install owner handle_at guid_at kind interface w)
install-fine owner handle_at guid_at kind interface w = search (rules, says-after, says-found, says-end, can-write) depth 30

uninstall-applies : (given guid_at interface : ℕ) (w : State) → Says (Applies w) (uninstall given guid_at interface w)
uninstall-applies given guid_at interface w = search (rules, says-after, says-found, says-end) depth 30

-- ---- opening and closing

-- a handle is live, unless it counts as 0
live_or_zero-live : (handle : ℕ) (w : State) → null (live_or_zero handle w) ≡ false → is_live (live_or_zero handle w) w.soft.database ≡ true
live_or_zero-live handle w some = by_test (dead handle w) refl some
  where
    by_test : (gone : Bool) → dead handle w ≡ gone → null (if gone then 0 else handle) ≡ false → is_live (if gone then 0 else handle) w.soft.database ≡ true
    by_test true is some = absurd cc
    by_test false is some = lives handle w is

pub live_or_zero-none : (handle : ℕ) (w : State) → is_none_or_live (live_or_zero handle w) w.soft.database ≡ true
live_or_zero-none handle w = by_test (dead handle w) refl
  where
    by_test : (gone : Bool) → dead handle w ≡ gone → is_none_or_live (if gone then 0 else handle) w.soft.database ≡ true
    by_test true is = refl
    by_test false is = or_right (nat_eq handle 0) (is_live handle w.soft.database) (lives handle w is)

-- a change that can be applied and leaves the level, and that goes on only for an open with BY_DRIVER or EXCLUSIVE
abbrev Opens : (bits : ℕ) → State → Change → Type 0
Opens bits w change = (is_allowed change w ≡ true) × (is_apart change ≡ false) × (has_bit_of HOLDING_BITS bits ≡ false → goes_again change ≡ false)

-- what an open ends with if its interface is there
record CanOpen (o : Opening) (controller : ℕ) (w : State) : Type 0 where
  there : is_some (interface_of o.handle o.guid w.soft.database) ≡ true
  can : can_store (out_of o.attr o.out) w ≡ true
  for_live : is_none_or_live controller w.soft.database ≡ true
  legal : is_legal o.attr ≡ true

-- no driver is in the way of an open that asks for neither
no-removal : (records : List Rec) (agent controller attr holder : ℕ) → judge records agent controller attr ≡ MustDisconnect holder → has_bit_of HOLDING_BITS attr ≡ false → ⊥
no-removal records agent controller attr holder is none = by_test (has_bit_of HOLDING_BITS attr) (list_any (is_equal agent controller attr) records) none is
  where
    by_test : (holds there : Bool) → holds ≡ false → (if holds then against (find is_strong records) agent attr else if there then Count else Add) ≡ MustDisconnect holder → ⊥
    by_test true there none is = absurd cc
    by_test false true none is = absurd cc
    by_test false false none is = absurd cc

pub six : (a b c d e f : Bool) → a ≡ true → b ≡ true → c ≡ true → d ≡ true → e ≡ true → f ≡ true → (a && (b && (c && (d && (e && f))))) ≡ true
six a b c d e f p q r s t u = rw (p, q, r, s, t, u) refl

module _ (o : Opening) (w : State) where
  enters : (agent controller interface : ℕ) → CanOpen o controller w → is_live agent w.soft.database ≡ true
      → may_enter (judge (records_of w.soft.records.entries o.handle o.guid) agent controller o.attr) ≡ true
      → Says (Opens o.attr w) (Ok (Open o.handle o.guid agent controller o.attr (out_of o.attr o.out) interface))
  enters agent controller interface opens by_live free =
      says-end (Opens o.attr w) (Open o.handle o.guid agent controller o.attr (out_of o.attr o.out) interface) (
        six (can_store (out_of o.attr o.out) w) (is_some (interface_of o.handle o.guid w.soft.database)) (is_live agent w.soft.database) (is_none_or_live controller w.soft.database) (is_legal o.attr)
            (may_enter (judge (records_of w.soft.records.entries o.handle o.guid) agent controller o.attr))
            opens.can opens.there by_live opens.for_live opens.legal free,
        refl,
        (λ none. refl),
      )

  verdict-opens : (verdict : Verdict) (agent controller interface : ℕ) → judge (records_of w.soft.records.entries o.handle o.guid) agent controller o.attr ≡ verdict
      → CanOpen o controller w → is_live agent w.soft.database ≡ true → Says (Opens o.attr w) (change_for_verdict verdict o agent controller interface)
  verdict-opens Add agent controller interface is opens by_live = enters agent controller interface opens by_live (ap may_enter is)
  verdict-opens Count agent controller interface is opens by_live = enters agent controller interface opens by_live (ap may_enter is)
  verdict-opens Already agent controller interface is opens by_live = says-end (Opens o.attr w) (Store (out_of o.attr o.out) interface ALREADY_STARTED) (opens.can, refl, λ none. refl)
  verdict-opens Denied agent controller interface is opens by_live = says-stop (Opens o.attr w) (Status ACCESS_DENIED)
  verdict-opens (MustDisconnect holder) agent controller interface is opens by_live =
      says-end (Opens o.attr w) (Remove (record { opening = o; victim = holder }))
      (refl, refl, λ none. absurd (no-removal (records_of w.soft.records.entries o.handle o.guid) agent controller o.attr holder is none))

  records-open : (agent controller interface : ℕ) → CanOpen o controller w → (null agent ≡ false → is_live agent w.soft.database ≡ true)
      → Says (Opens o.attr w) (open_by_records o agent controller interface w)
  records-open agent controller interface opens by_live =
      says-if (Opens o.attr w) (null agent) _ _
      (λ none. says-end (Opens o.attr w) (Store (out_of o.attr o.out) interface SUCCESS) (opens.can, refl, λ none. refl))
      (λ some. verdict-opens (judge (records_of w.soft.records.entries o.handle o.guid) agent controller o.attr) agent controller interface refl opens (by_live some))

  interface-opens : (found : Option (ℕ × ℕ)) → interface_of o.handle o.guid w.soft.database ≡ found
      → can_store (out_of o.attr o.out) w ≡ true → is_legal o.attr ≡ true → Says (Opens o.attr w) (open_by_interface found o w)
  interface-opens None is can legal = says-end (Opens o.attr w) (Store (out_of o.attr o.out) 0 UNSUPPORTED) (can, refl, λ none. refl)
  interface-opens (Some found) is can legal =
      records-open (live_or_zero o.agent w) (live_or_zero o.controller w) found.0
      (record { there = ap is_some is; can = can; for_live = live_or_zero-none o.controller w; legal = legal })
      (live_or_zero-live o.agent w)

-- the place of the interface can be written
pub out-writable : (bits attr out : ℕ) (w : State) → legal bits ≡ Ok attr → writable (out_size bits) out w ≡ Ok tt → can_store (out_of attr out) w ≡ true
out-writable bits attr out w is can = by_test (nat_eq attr TEST_PROTOCOL) (subst (λ size. is_writable_range w.soft.memory out (out_size size) ≡ true) (is-same bits attr is) (can-write (out_size bits) out w can))
  where
    by_test : (test : Bool) → is_writable_range w.soft.memory out (if test then 0 else 8) ≡ true → can_store (if test then None else Some out) w ≡ true
    by_test true can = refl
    by_test false can = can

opening-opens : (handle : ℕ) (name : List ℕ) (out agent controller bits attr : ℕ) (w : State) → legal bits ≡ Ok attr → writable (out_size bits) out w ≡ Ok tt
    → Says (Opens bits w) (open_by_interface (interface_of handle name w.soft.database) (opening handle name out agent controller attr) w)
opening-opens handle name out agent controller bits attr w lawful can =
    let same : bits ≡ attr = is-same bits attr lawful in
    let o : Opening = opening handle name out agent controller attr in
    says-weaker (Opens bits w) _
    (interface-opens o w (interface_of handle name w.soft.database) refl (out-writable bits attr out w lawful can) (is-legal bits attr lawful))
    (λ change opens. (opens.0, opens.1, λ none. opens.2 (ap (has_bit_of HOLDING_BITS) (sym same) ∙ none)))

open-opens : (given guid_at out agent controller bits : ℕ) (w : State) → Says (Opens bits w) (open_protocol given guid_at out agent controller bits w)
open-opens given guid_at out agent controller bits w =
    let P : Change → Type 0 = Opens bits w in
    says-after P (refuse_if (null guid_at) INVALID_PARAMETER) _ (λ some.
    says-found P (alive given INVALID_PARAMETER w) _ (λ handle is.
    says-after P (refuse_if (null out && not (nat_eq bits TEST_PROTOCOL)) INVALID_PARAMETER) _ (λ place.
    says-found P (guid guid_at w) _ (λ name read.
    says-after P (writable (out_size bits) out w) _ (λ can.
    says-found P (legal bits) _ (λ attr lawful.
    says-after P (refuse_if (has_bit_of AGENT_BITS attr && dead agent w) INVALID_PARAMETER) _ (λ one.
    says-after P (refuse_if (has_bit_of CONTROLLER_BITS attr && dead controller w) INVALID_PARAMETER) _ (λ two.
    says-after P (refuse_if (nat_eq attr BY_CHILD_CONTROLLER && nat_eq handle controller) INVALID_PARAMETER) _ (λ other.
    opening-opens handle name out agent controller bits attr w lawful can)))))))))

open-applies : (given guid_at out agent controller bits : ℕ) (w : State) → Says (Applies w) (open_protocol given guid_at out agent controller bits w)
open-applies given guid_at out agent controller bits w = says-weaker (Applies w) _ (open-opens given guid_at out agent controller bits w) (λ change opens. (opens.0, opens.1))

handle-fine : (given guid_at out : ℕ) (w : State) → Says (Fine w) (handle_protocol given guid_at out w)
handle-fine given guid_at out w = says-weaker (Fine w) _ (open-opens given guid_at out firmware 0 BY_HANDLE_PROTOCOL w) (λ change opens. (opens.0, opens.1, opens.2 refl))

close-fine : (given guid_at agent controller : ℕ) (w : State) → Says (Fine w) (close given guid_at agent controller w)
close-fine given guid_at agent controller w = search (rules, says-after, says-found, says-end) depth 30

-- ---- what is there

block-fine : (what : Contents) (buffer count : ℕ) (first : Bool) (w : State) → writable 8 buffer w ≡ Ok tt → writable 8 count w ≡ Ok tt → Says (Fine w) (Ok (Block what buffer count first))
block-fine what buffer count first w one two =
    says-end (Fine w) (Block what buffer count first)
    (and_from (is_writable_range w.soft.memory buffer 8) (is_writable_range w.soft.memory count 8) (can-write 8 buffer w one) (can-write 8 count w two), refl, refl)

information-fine : (given guid_at buffer count : ℕ) (w : State) → Says (Fine w) (open_protocol_information given guid_at buffer count w)
information-fine given guid_at buffer count w = search (rules, says-after, says-found, block-fine) depth 30

protocols-fine : (given buffer count : ℕ) (w : State) → Says (Fine w) (protocols_per_handle given buffer count w)
protocols-fine given buffer count w = search (rules, says-after, says-found, block-fine) depth 30

-- ---- which handles have a protocol

buffer-fine : (given : ℕ) (name : Option (List ℕ)) (size buffer : ℕ) (w : State) → is_writable_range w.soft.memory size 8 ≡ true → Says (Fine w) (handles_in_buffer given name size buffer (8 * how_many name w) w)
buffer-fine given name size buffer w can = search (rules, says-after, says-if, says-end, and_from, can-write) depth 30

locate-fine : (kind guid_at size buffer : ℕ) (w : State) → Says (Fine w) (locate_handle kind guid_at size buffer w)
locate-fine kind guid_at size buffer w = search (rules, says-after, says-found, buffer-fine, can-write) depth 30

locate_buffer-fine : (kind guid_at count buffer : ℕ) (w : State) → Says (Fine w) (locate_handle_buffer kind guid_at count buffer w)
locate_buffer-fine kind guid_at count buffer w = search (rules, says-after, says-found, block-fine) depth 30

found-fine : (found : Option (ℕ × ℕ)) (out : ℕ) (w : State) → is_writable_range w.soft.memory out 8 ≡ true → Says (Fine w) (change_for_found found out)
found-fine None out w can = says-end (Fine w) (Store (Some out) 0 NOT_FOUND) (can, refl, refl)
found-fine (Some found) out w can = says-end (Fine w) (Store (Some out) found.0 SUCCESS) (can, refl, refl)

locate_protocol-fine : (guid_at out : ℕ) (w : State) → Says (Fine w) (locate_protocol guid_at out w)
locate_protocol-fine guid_at out w = search (rules, says-after, says-found, found-fine, can-write) depth 30

-- ---- many interfaces

many-fine : (owner handle_at list : ℕ) (w : State) → Says (Fine w) (install_multiple owner handle_at list w)
many-fine owner handle_at list w = search (rules, says-after, says-found, says-end, and_from, fits-of, can-write) depth 30

many-applies : (given list : ℕ) (w : State) → Says (Applies w) (uninstall_multiple given list w)
many-applies given list w = search (rules, says-after, says-found, says-end, pairs-readable) depth 30

-- ---- the services on memory

allocate-fine : (size out : ℕ) (w : State) → Says (Fine w) (allocate_pool size out w)
allocate-fine size out w = search (rules, says-after, says-end, can-write)

copy-fine : (to from n : ℕ) (w : State) → Says (Fine w) (copy_mem to from n w)
copy-fine to from n w = search (rules, says-after, says-end, and_from, can-read, can-write) depth 30

set-fine : (to n byte : ℕ) (w : State) → Says (Fine w) (set_mem to n byte w)
set-fine to n byte w = search (rules, says-after, says-end, can-write)

-- ---- all rows

unbuilt-fine : (w : State) → Says (Fine w) (unbuilt w)
unbuilt-fine w = says-stop (Fine w) (Status UNSUPPORTED)

rows-fine : (s : Service) (c : Caller) (a : List ℕ) (w : State) → sets_tpl s ≡ false → may_go_on s ≡ false → writes_device s ≡ false → Says (Fine w) ((row s).rest c a w)
rows-fine service.RaiseTpl c a w none other reads = absurd cc
rows-fine service.RestoreTpl c a w none other reads = absurd cc
rows-fine service.AllocatePool c a w none other reads = allocate-fine (arg a 1) (arg a 2) w
rows-fine service.FreePool c a w none other reads = says-end (Fine w) (Free (arg a 0)) (refl, refl, refl)
rows-fine service.Install c a w none other reads = install-fine c.image (arg a 0) (arg a 1) (arg32 a 2) (arg a 3) w
rows-fine service.Uninstall c a w none other reads = absurd cc
rows-fine service.HandleProtocol c a w none other reads = handle-fine (arg a 0) (arg a 1) (arg a 2) w
rows-fine service.LocateHandle c a w none other reads = locate-fine (arg32 a 0) (arg a 1) (arg a 3) (arg a 4) w
rows-fine service.OpenProtocol c a w none other reads = absurd cc
rows-fine service.CloseProtocol c a w none other reads = close-fine (arg a 0) (arg a 1) (arg a 2) (arg a 3) w
rows-fine service.OpenProtocolInformation c a w none other reads = information-fine (arg a 0) (arg a 1) (arg a 2) (arg a 3) w
rows-fine service.ProtocolsPerHandle c a w none other reads = protocols-fine (arg a 0) (arg a 1) (arg a 2) w
rows-fine service.LocateHandleBuffer c a w none other reads = locate_buffer-fine (arg32 a 0) (arg a 1) (arg a 3) (arg a 4) w
rows-fine service.LocateProtocol c a w none other reads = locate_protocol-fine (arg a 0) (arg a 2) w
rows-fine service.InstallMultiple c a w none other reads = many-fine c.image (arg a 0) (first_pair c.sp) w
rows-fine service.Stall c a w none other reads = says-end (Fine w) (Value 0) (refl, refl, refl)
rows-fine service.CopyMem c a w none other reads = copy-fine (arg a 0) (arg a 1) (arg a 2) w
rows-fine service.SetMem c a w none other reads = set-fine (arg a 0) (arg a 1) (arg8 a 2) w
rows-fine service.ConnectController c a w none other reads = absurd cc
rows-fine service.DisconnectController c a w none other reads = absurd cc
rows-fine service.UninstallMultiple c a w none other reads = absurd cc
rows-fine service.MemRead c a w none other reads = read-fine (arg a 0) (arg32 a 1) (Bar (arg8 a 2)) (arg a 3) (arg a 4) (arg a 5) w
rows-fine service.MemWrite c a w none other reads = absurd cc
rows-fine service.PciRead c a w none other reads = read-fine (arg a 0) (arg32 a 1) Config (arg32 a 2) (arg a 3) (arg a 4) w
rows-fine service.PciWrite c a w none other reads = absurd cc
rows-fine service.GetLocation c a w none other reads = location-fine (arg a 0) (arg a 1) (arg a 2) (arg a 3) (arg a 4) w
rows-fine service.Attributes c a w none other reads = absurd cc
rows-fine service.Unbuilt c a w none other reads = unbuilt-fine w

-- those that write a device
pub writing-fine : (s : Service) (c : Caller) (a : List ℕ) (w : State) → writes_device s ≡ true → Says (FineOnBoard w) ((row s).rest c a w)
writing-fine service.MemWrite c a w writes = write-fine (arg a 0) (arg32 a 1) (Bar (arg8 a 2)) (arg a 3) (arg a 4) (arg a 5) w
writing-fine service.PciWrite c a w writes = write-fine (arg a 0) (arg32 a 1) Config (arg32 a 2) (arg a 3) (arg a 4) w
writing-fine service.Attributes c a w writes = attributes-fine (arg a 0) (arg32 a 1) (arg a 2) (arg a 3) w
writing-fine s c a w writes = absurd cc

-- those that may go on leave the level and all devices too
connect-leaves : (controller list path recursive : ℕ) (w : State) → Says (λ change. is_apart change ≡ false) (connect_controller controller list path recursive w)
connect-leaves controller list path recursive w = search (rules, says-after, says-found, says-end) depth 30

disconnect-leaves : (controller driver child : ℕ) (w : State) → Says (λ change. is_apart change ≡ false) (disconnect_controller controller driver child w)
disconnect-leaves controller driver child w = says-end (λ change. is_apart change ≡ false) (Disconnect controller driver child) refl

disconnect-allowed : (controller driver child : ℕ) (w : State) → Says (λ change. is_allowed change w ≡ true) (disconnect_controller controller driver child w)
disconnect-allowed controller driver child w = says-end (λ change. is_allowed change w ≡ true) (Disconnect controller driver child) refl

-- neither sets the level nor writes a device
rows-apart : (s : Service) (c : Caller) (a : List ℕ) (w : State) → sets_tpl s ≡ false → writes_device s ≡ false → Says (λ change. is_apart change ≡ false) ((row s).rest c a w)
rows-apart service.ConnectController c a w none reads change result = connect-leaves (arg a 0) (arg a 1) (arg a 2) (arg8 a 3) w change result
rows-apart service.DisconnectController c a w none reads change result = disconnect-leaves (arg a 0) (arg a 1) (arg a 2) w change result
rows-apart service.OpenProtocol c a w none reads change result = (open-applies (arg a 0) (arg a 1) (arg a 2) (arg a 3) (arg a 4) (arg32 a 5) w change result).1
rows-apart service.Uninstall c a w none reads change result = (uninstall-applies (arg a 0) (arg a 1) (arg a 2) w change result).1
rows-apart service.UninstallMultiple c a w none reads change result = (many-applies (arg a 0) (first_pair c.sp) w change result).1
rows-apart s c a w none reads change result = (rows-fine s c a w none refl reads change result).1

pub rows-leave : (s : Service) (c : Caller) (a : List ℕ) (w : State) → sets_tpl s ≡ false → Says (λ change. is_of_tpl change ≡ false) ((row s).rest c a w)
rows-leave s c a w none change result = by_service (writes_device s) refl
  where
    by_service : (writes : Bool) → writes_device s ≡ writes → is_of_tpl change ≡ false
    by_service true is = (writing-fine s c a w is change result).1
    by_service false is = not-tpl change (rows-apart s c a w none is change result)

-- the two that set the level answer a level
abbrev pub IsLevel : Change → Type 0
IsLevel (SetTpl tpl answer) = answer ≤ TPL_HIGH_LEVEL
IsLevel _ = Unit {0}

abbrev OfTpl : State → Change → Type 0
OfTpl w change = (is_allowed change w ≡ true) × IsLevel change × (goes_again change ≡ false) × (is_of_device change ≡ false)

raise-fine : (new : ℕ) (w : State) → Says (OfTpl w) (raise_tpl new w)
raise-fine new w =
    says-if (OfTpl w) (nat_le w.soft.tpl new && nat_le new TPL_HIGH_LEVEL) _ _
    (λ can.
    let both = and_parts (nat_le w.soft.tpl new) (nat_le new TPL_HIGH_LEVEL) can in
    let low : w.soft.tpl ≤ new = grind (arith, nat_tests, both.0) in
    let high : new ≤ TPL_HIGH_LEVEL = grind (arith, nat_tests, both.1) in
    says-end (OfTpl w) (SetTpl new w.soft.tpl) (refl, omega arith, refl, refl))
    (λ stays. says-end (OfTpl w) (Value w.soft.tpl) (refl, tt, refl, refl))

restore-fine : (old : ℕ) (w : State) → Says (OfTpl w) (restore_tpl old w)
restore-fine old w =
    says-if (OfTpl w) (nat_le old w.soft.tpl) _ _
    (λ can. says-end (OfTpl w) (SetTpl old SUCCESS.0) (refl, omega arith, refl, refl))
    (λ stays. says-end (OfTpl w) (Value SUCCESS.0) (refl, tt, refl, refl))

-- a service that writes no device ends with no change that does
pub rows-read : (s : Service) (c : Caller) (a : List ℕ) (w : State) → writes_device s ≡ false → Says (λ change. is_of_device change ≡ false) ((row s).rest c a w)
rows-read service.RaiseTpl c a w reads change result = (raise-fine (arg a 0) w change result).3
rows-read service.RestoreTpl c a w reads change result = (restore-fine (arg a 0) w change result).3
rows-read s c a w reads change result = not-device change (rows-apart s c a w refl reads change result)

pub rows-allowed : RowsAreAllowed
rows-allowed service.RaiseTpl c a w change result = (raise-fine (arg a 0) w change result).0
rows-allowed service.RestoreTpl c a w change result = (restore-fine (arg a 0) w change result).0
rows-allowed service.ConnectController c a w change result = connect-allowed (arg a 0) (arg a 1) (arg a 2) (arg8 a 3) w change result
rows-allowed service.DisconnectController c a w change result = disconnect-allowed (arg a 0) (arg a 1) (arg a 2) w change result
rows-allowed service.OpenProtocol c a w change result = (open-applies (arg a 0) (arg a 1) (arg a 2) (arg a 3) (arg a 4) (arg32 a 5) w change result).0
rows-allowed service.Uninstall c a w change result = (uninstall-applies (arg a 0) (arg a 1) (arg a 2) w change result).0
rows-allowed service.UninstallMultiple c a w change result = (many-applies (arg a 0) (first_pair c.sp) w change result).0
rows-allowed service.MemWrite c a w change result = (writing-fine service.MemWrite c a w refl change result).0
rows-allowed service.PciWrite c a w change result = (writing-fine service.PciWrite c a w refl change result).0
rows-allowed service.Attributes c a w change result = (writing-fine service.Attributes c a w refl change result).0
rows-allowed s c a w change result = (rows-fine s c a w refl refl refl change result).0

level-of : (change : Change) → is_of_tpl change ≡ false → IsLevel change
level-of (SetTpl tpl answer) other = absurd cc
level-of change other = tt

pub rows-level : (s : Service) (c : Caller) (a : List ℕ) (w : State) → Says IsLevel ((row s).rest c a w)
rows-level service.RaiseTpl c a w change result = (raise-fine (arg a 0) w change result).1
rows-level service.RestoreTpl c a w change result = (restore-fine (arg a 0) w change result).1
rows-level s c a w change result = level-of change (rows-leave s c a w refl change result)

pub rows-end : (s : Service) (c : Caller) (a : List ℕ) (w : State) → may_go_on s ≡ false → Says (λ change. goes_again change ≡ false) ((row s).rest c a w)
rows-end service.RaiseTpl c a w other change result = (raise-fine (arg a 0) w change result).2
rows-end service.RestoreTpl c a w other change result = (restore-fine (arg a 0) w change result).2
rows-end service.MemWrite c a w other change result = (writing-fine service.MemWrite c a w refl change result).2
rows-end service.PciWrite c a w other change result = (writing-fine service.PciWrite c a w refl change result).2
rows-end service.Attributes c a w other change result = (writing-fine service.Attributes c a w refl change result).2
rows-end s c a w other change result = (rows-fine s c a w refl other refl change result).2
