-- Rows trap only for `Memory`.
use Rattle.std.proofs.Common.{ℕ, zero, suc, ◌+◌, true, List, rules}
use Rattle.std.specs.Prelude.{Option, Some, None}
use Rattle.fw_types.specs.declared.attr.TheConstants.Attr.{BY_HANDLE_PROTOCOL}
use Rattle.fw_types.specs.declared.status.TheConstants.Status.{ACCESS_DENIED, ALREADY_STARTED, NOT_FOUND, SUCCESS, UNSUPPORTED}
use Rattle.open_records.specs.declared.verdict.Verdict.{Verdict}
use Rattle.open_records.specs.declared.verdict.Verdict.TheVariants.{Add, Count, Already, Denied, MustDisconnect}
use Rattle.service_thunks.specs.declared.service.Service.{Service}
use Rattle.service_thunks.specs.declared.service.Service.TheVariants as service
use Rattle.world_model.specs.World.{State}
use Rattle.world_model.specs.Interfaces.{firmware}
use Rattle.service_model.specs.Words.{null, number}
use Rattle.service_model.specs.Rows.{allocate_pool, copy_mem, raise_tpl, restore_tpl, set_mem, unbuilt}
use Rattle.service_model.specs.Protocols.{change_for_found, change_for_verdict, close, handles_in_buffer, install, locate_handle, locate_handle_buffer, locate_protocol, open_by_interface, open_by_records, open_protocol, open_protocol_information, out_of, protocols_per_handle, uninstall}
use Rattle.service_model.specs.Many.{first_pair, handle_for, install_multiple, interface_place, name_readable, pair_at, pair_fits, pair_installed_on, pair_place, pairs_before, uninstall_multiple}
use Rattle.service_model.specs.Connecting.{connect_controller, context_length, first_without, length_by, path_readable}
use Rattle.service_model.specs.declared.numbers.TheConstants.{CONTEXT_SLOTS}
use Rattle.service_model.specs.BootServices.{arg, arg32, arg8, row}
use Rattle.service_model.specs.declared.call.Caller.{Caller}
use Rattle.service_model.specs.declared.call.Opening.{Opening}
use Rattle.service_model.specs.declared.plan.Change.TheVariants.{Disconnect, Free, Open, Remove, Store, Value}
use Rattle.pci_model.specs.declared.space.Space.TheVariants.{Bar, Config}
use Rattle.service_model.proofs.PciRows.{attributes-traps, location-traps, read-traps, write-traps}
use Rattle.service_model.proofs.RowLines.{TrapsByMemory, traps-after, traps-each, traps-end, traps-found, traps-if, traps-memory, traps-missing, traps-status, traps-unread}

-- ---- installing and uninstalling

install-traps : (owner handle_at guid_at kind interface : ℕ) (w : State) → TrapsByMemory (install owner handle_at guid_at kind interface w)
install-traps owner handle_at guid_at kind interface w = search (rules, traps-after, traps-found, traps-if, traps-end, traps-status, traps-memory, traps-unread) depth 30

uninstall-traps : (given guid_at interface : ℕ) (w : State) → TrapsByMemory (uninstall given guid_at interface w)
uninstall-traps given guid_at interface w = search (rules, traps-after, traps-found, traps-if, traps-end, traps-status, traps-memory, traps-missing) depth 30

-- ---- opening and closing

verdict-traps : (verdict : Verdict) (o : Opening) (agent controller interface : ℕ) → TrapsByMemory (change_for_verdict verdict o agent controller interface)
verdict-traps Add o agent controller interface = traps-end (Open o.handle o.guid agent controller o.attr (out_of o.attr o.out) interface)
verdict-traps Count o agent controller interface = traps-end (Open o.handle o.guid agent controller o.attr (out_of o.attr o.out) interface)
verdict-traps Already o agent controller interface = traps-end (Store (out_of o.attr o.out) interface ALREADY_STARTED)
verdict-traps Denied o agent controller interface = traps-status ACCESS_DENIED
verdict-traps (MustDisconnect holder) o agent controller interface = traps-end (Remove (record { opening = o; victim = holder }))

records-trap : (o : Opening) (agent controller interface : ℕ) (w : State) → TrapsByMemory (open_by_records o agent controller interface w)
records-trap o agent controller interface w =
    traps-if (null agent) _ _ (traps-end (Store (out_of o.attr o.out) interface SUCCESS)) (verdict-traps _ o agent controller interface)

interface-traps : (found : Option (ℕ × ℕ)) (o : Opening) (w : State) → TrapsByMemory (open_by_interface found o w)
interface-traps None o w = traps-end (Store (out_of o.attr o.out) 0 UNSUPPORTED)
interface-traps (Some found) o w = records-trap o _ _ found.0 w

open-traps : (given guid_at out agent controller bits : ℕ) (w : State) → TrapsByMemory (open_protocol given guid_at out agent controller bits w)
open-traps given guid_at out agent controller bits w = search (rules, traps-after, traps-found, traps-if, traps-end, traps-status, traps-memory, interface-traps) depth 40

close-traps : (given guid_at agent controller : ℕ) (w : State) → TrapsByMemory (close given guid_at agent controller w)
close-traps given guid_at agent controller w = search (rules, traps-after, traps-found, traps-if, traps-end, traps-status, traps-memory, traps-missing) depth 30

-- ---- what is there

information-traps : (given guid_at buffer count : ℕ) (w : State) → TrapsByMemory (open_protocol_information given guid_at buffer count w)
information-traps given guid_at buffer count w = search (rules, traps-after, traps-found, traps-if, traps-end, traps-status, traps-memory, traps-missing) depth 30

protocols-trap : (given buffer count : ℕ) (w : State) → TrapsByMemory (protocols_per_handle given buffer count w)
protocols-trap given buffer count w = search (rules, traps-after, traps-found, traps-if, traps-end, traps-status, traps-memory) depth 30

-- ---- which handles have a protocol

buffer-traps : (given : ℕ) (name : Option (List ℕ)) (size buffer needed : ℕ) (w : State) → TrapsByMemory (handles_in_buffer given name size buffer needed w)
buffer-traps given name size buffer needed w = search (rules, traps-after, traps-if, traps-end, traps-status, traps-memory) depth 30

locate-traps : (kind guid_at size buffer : ℕ) (w : State) → TrapsByMemory (locate_handle kind guid_at size buffer w)
locate-traps kind guid_at size buffer w = search (rules, traps-after, traps-found, traps-if, traps-end, traps-status, traps-memory, traps-unread, buffer-traps) depth 40

locate_buffer-traps : (kind guid_at count buffer : ℕ) (w : State) → TrapsByMemory (locate_handle_buffer kind guid_at count buffer w)
locate_buffer-traps kind guid_at count buffer w = search (rules, traps-after, traps-found, traps-if, traps-end, traps-status, traps-memory) depth 40

found-traps : (found : Option (ℕ × ℕ)) (out : ℕ) → TrapsByMemory (change_for_found found out)
found-traps None out = traps-end (Store (Some out) 0 NOT_FOUND)
found-traps (Some found) out = traps-end (Store (Some out) found.0 SUCCESS)

locate_protocol-traps : (guid_at out : ℕ) (w : State) → TrapsByMemory (locate_protocol guid_at out w)
locate_protocol-traps guid_at out w = search (rules, traps-after, traps-found, traps-if, traps-end, traps-status, traps-memory, found-traps) depth 30

-- ---- many interfaces

pairs-trap : (most done list : ℕ) (w : State) → TrapsByMemory (pairs_before most done list w)
unfolding pairs_before
pairs-trap zero done list w = traps-found (number (pair_place list done) w) _ (traps-unread _) (λ pointer. traps-end (done, null pointer))
pairs-trap (suc most) done list w =
    traps-found (number (pair_place list done) w) _ (traps-unread _) (λ pointer.
    traps-if (null pointer) _ _ (traps-end (done, true))
    (traps-found (number (interface_place list done) w) _ (traps-unread _) (λ interface. pairs-trap most (done + 1) list w)))

handle_for-traps : (given count : ℕ) (w : State) → TrapsByMemory (handle_for given count w)
handle_for-traps given zero w = traps-end None
handle_for-traps given (suc count) w = search (rules, traps-if, traps-end, traps-status)

name-traps : (list : ℕ) (w : State) (i : ℕ) → TrapsByMemory (name_readable list w i)
name-traps list w i = search (rules, traps-found, traps-if, traps-end, traps-memory, traps-unread)

fits-trap : (handle : Option ℕ) (list : ℕ) (w : State) (i : ℕ) → TrapsByMemory (pair_fits handle list w i)
fits-trap handle list w i = search (rules, traps-after, traps-found, traps-if, traps-end, traps-status, traps-memory, traps-unread) depth 30

pub pair_at-traps : (list i : ℕ) (w : State) → TrapsByMemory (pair_at list i w)
pair_at-traps list i w = search (rules, traps-found, traps-if, traps-end, traps-memory, traps-unread) depth 20

installed-traps : (handle list : ℕ) (w : State) (i : ℕ) → TrapsByMemory (pair_installed_on handle list w i)
installed-traps handle list w i = search (rules, traps-found, traps-if, traps-end, traps-status, pair_at-traps) depth 20

many_uninstall-traps : (given list : ℕ) (w : State) → TrapsByMemory (uninstall_multiple given list w)
many_uninstall-traps given list w =
    search (rules, traps-after, traps-found, traps-if, traps-end, traps-status, pairs-trap, traps-each, name-traps, installed-traps) depth 40

many-traps : (owner handle_at list : ℕ) (w : State) → TrapsByMemory (install_multiple owner handle_at list w)
many-traps owner handle_at list w =
    search (rules, traps-after, traps-found, traps-if, traps-end, traps-status, traps-memory, traps-unread, pairs-trap, handle_for-traps, traps-each, name-traps, fits-trap) depth 40

-- ---- the services on memory

raise-traps : (new : ℕ) (w : State) → TrapsByMemory (raise_tpl new w)
raise-traps new w = search (rules, traps-if, traps-end)

restore-traps : (old : ℕ) (w : State) → TrapsByMemory (restore_tpl old w)
restore-traps old w = search (rules, traps-if, traps-end)

allocate-traps : (size out : ℕ) (w : State) → TrapsByMemory (allocate_pool size out w)
allocate-traps size out w = search (rules, traps-after, traps-if, traps-end, traps-status, traps-memory) depth 20

copy-traps : (to from n : ℕ) (w : State) → TrapsByMemory (copy_mem to from n w)
copy-traps to from n w = search (rules, traps-after, traps-if, traps-end, traps-memory) depth 20

set-traps : (to n byte : ℕ) (w : State) → TrapsByMemory (set_mem to n byte w)
set-traps to n byte w = search (rules, traps-after, traps-if, traps-end, traps-memory) depth 20

-- ---- ConnectController and DisconnectController

length-traps : (first : Option ℕ) (list : ℕ) (w : State) → TrapsByMemory (length_by first list w)
length-traps None list w = traps-end None
length-traps (Some i) list w = search (rules, traps-found, traps-end, traps-unread) depth 20

context-traps : (list : ℕ) (w : State) → TrapsByMemory (context_length list w)
context-traps list w = traps-if (null list) _ _ (traps-end (Some 0)) (length-traps (first_without CONTEXT_SLOTS list w) list w)

path-traps : (path : ℕ) (w : State) → TrapsByMemory (path_readable path w)
path-traps path w = search (rules, traps-if, traps-end, traps-memory) depth 20

connect-traps : (controller list path recursive : ℕ) (w : State) → TrapsByMemory (connect_controller controller list path recursive w)
connect-traps controller list path recursive w = search (rules, traps-after, traps-found, traps-end, traps-missing, context-traps, path-traps) depth 30

-- ---- all rows

unbuilt-traps : (w : State) → TrapsByMemory (unbuilt w)
unbuilt-traps w = traps-status UNSUPPORTED

pub rows-trap : (s : Service) (c : Caller) (a : List ℕ) (w : State) → TrapsByMemory ((row s).rest c a w)
rows-trap service.RaiseTpl c a w = raise-traps (arg a 0) w
rows-trap service.RestoreTpl c a w = restore-traps (arg a 0) w
rows-trap service.AllocatePool c a w = allocate-traps (arg a 1) (arg a 2) w
rows-trap service.FreePool c a w = traps-end (Free (arg a 0))
rows-trap service.Install c a w = install-traps c.image (arg a 0) (arg a 1) (arg32 a 2) (arg a 3) w
rows-trap service.Uninstall c a w = uninstall-traps (arg a 0) (arg a 1) (arg a 2) w
rows-trap service.HandleProtocol c a w = open-traps (arg a 0) (arg a 1) (arg a 2) firmware 0 BY_HANDLE_PROTOCOL w
rows-trap service.LocateHandle c a w = locate-traps (arg32 a 0) (arg a 1) (arg a 3) (arg a 4) w
rows-trap service.OpenProtocol c a w = open-traps (arg a 0) (arg a 1) (arg a 2) (arg a 3) (arg a 4) (arg32 a 5) w
rows-trap service.CloseProtocol c a w = close-traps (arg a 0) (arg a 1) (arg a 2) (arg a 3) w
rows-trap service.OpenProtocolInformation c a w = information-traps (arg a 0) (arg a 1) (arg a 2) (arg a 3) w
rows-trap service.ProtocolsPerHandle c a w = protocols-trap (arg a 0) (arg a 1) (arg a 2) w
rows-trap service.LocateHandleBuffer c a w = locate_buffer-traps (arg32 a 0) (arg a 1) (arg a 3) (arg a 4) w
rows-trap service.LocateProtocol c a w = locate_protocol-traps (arg a 0) (arg a 2) w
rows-trap service.InstallMultiple c a w = many-traps c.image (arg a 0) (first_pair c.sp) w
rows-trap service.Stall c a w = traps-end (Value SUCCESS.0)
rows-trap service.CopyMem c a w = copy-traps (arg a 0) (arg a 1) (arg a 2) w
rows-trap service.SetMem c a w = set-traps (arg a 0) (arg a 1) (arg8 a 2) w
rows-trap service.ConnectController c a w = connect-traps (arg a 0) (arg a 1) (arg a 2) (arg8 a 3) w
rows-trap service.DisconnectController c a w = traps-end (Disconnect (arg a 0) (arg a 1) (arg a 2))
rows-trap service.UninstallMultiple c a w = many_uninstall-traps (arg a 0) (first_pair c.sp) w
rows-trap service.MemRead c a w = read-traps (arg a 0) (arg32 a 1) (Bar (arg8 a 2)) (arg a 3) (arg a 4) (arg a 5) w
rows-trap service.MemWrite c a w = write-traps (arg a 0) (arg32 a 1) (Bar (arg8 a 2)) (arg a 3) (arg a 4) (arg a 5) w
rows-trap service.PciRead c a w = read-traps (arg a 0) (arg32 a 1) Config (arg32 a 2) (arg a 3) (arg a 4) w
rows-trap service.PciWrite c a w = write-traps (arg a 0) (arg32 a 1) Config (arg32 a 2) (arg a 3) (arg a 4) w
rows-trap service.GetLocation c a w = location-traps (arg a 0) (arg a 1) (arg a 2) (arg a 3) (arg a 4) w
rows-trap service.Attributes c a w = attributes-traps (arg a 0) (arg32 a 1) (arg a 2) (arg a 3) w
rows-trap service.Unbuilt c a w = unbuilt-traps w
