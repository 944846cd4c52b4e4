-- What each of the protocol handler services does with its arguments (UEFI 2.8, 7.3), except
-- InstallMultipleProtocolInterfaces and UninstallMultipleProtocolInterfaces, which are in `Many`, and ConnectController and DisconnectController,
-- which are in `Connecting`.
use Rattle.std.specs.Prelude.{ℕ, ◌*◌, Bool, true, false, ◌&&◌, ◌||◌, not, nat_eq, nat_lt, List, length, Option, Some, None, Result, Ok, Err, if◌then◌else◌}
use Rattle.std.specs.List.{list_any}
use Rattle.fw_types.specs.Attr.{has_bit_of}
use Rattle.fw_types.specs.declared.attr.TheConstants.Attr.{AGENT_BITS, ALL_BITS, BY_CHILD_CONTROLLER, BY_HANDLE_PROTOCOL, CONTROLLER_BITS, TEST_PROTOCOL}
use Rattle.fw_types.specs.declared.status.TheConstants.Status.{ACCESS_DENIED, ALREADY_STARTED, BUFFER_TOO_SMALL, INVALID_PARAMETER, NOT_FOUND, SUCCESS, UNSUPPORTED}
use Rattle.handle_db.specs.Database.{first_with, handles_with, interface_of}
use Rattle.open_records.specs.OpenRecords.{records_of}
use Rattle.open_records.specs.Leaving.{is_meant}
use Rattle.open_records.specs.Verdicts.{judge}
use Rattle.open_records.specs.declared.verdict.Verdict.{Verdict}
use Rattle.open_records.specs.declared.verdict.Verdict.TheVariants.{Add, Count, Already, Denied, MustDisconnect}
use Rattle.world_model.specs.World.{State}
use Rattle.world_model.specs.Interfaces.{firmware}
use Rattle.service_model.specs.Words.{◌>>=◌, ◌>>◌, alive, dead, guid, has_protocol, legal, handle_or_none, null, number, refuse_if, installed_interface, writable}
use Rattle.service_model.specs.declared.call.Opening.{Opening}
use Rattle.service_model.specs.declared.numbers.TheConstants.{ALL_HANDLES, BY_PROTOCOL, NATIVE_INTERFACE}
use Rattle.service_model.specs.declared.plan.Stop.{Stop}
use Rattle.service_model.specs.declared.plan.Stop.TheVariants.{Status}
use Rattle.service_model.specs.declared.plan.Contents.TheVariants as contents
use Rattle.service_model.specs.declared.plan.Change.{Change}
use Rattle.service_model.specs.declared.plan.Change.TheVariants.{Block, Close, Handles, Install, Open, Remove, Store, Uninstall}

-- ---- installing and uninstalling

-- InstallProtocolInterface
abbrev pub install : (owner handle_at guid_at kind interface : ℕ) → State → Result Change Stop
install owner handle_at guid_at kind interface w = do
  refuse_if (null handle_at || null guid_at) INVALID_PARAMETER
  writable 8 handle_at w
  name ← guid guid_at w
  given ← number handle_at w
  refuse_if (not (nat_eq kind NATIVE_INTERFACE)) INVALID_PARAMETER
  handle ← handle_or_none given w
  refuse_if (has_protocol handle name w) INVALID_PARAMETER
  Ok (Install handle name interface owner handle_at)

-- whether an interface has an open record with one of some bits, and of an agent and for a controller if
-- they are given
abbrev pub has_record : ℕ → List ℕ → (agent controller : Option ℕ) (bits : ℕ) → State → Bool
has_record handle name agent controller bits w =
    list_any (is_meant agent controller bits) (records_of w.soft.records.entries handle name)

-- UninstallProtocolInterface, up to the point at which its driver is disconnected
abbrev pub uninstall : (given guid_at interface : ℕ) → State → Result Change Stop
uninstall given guid_at interface w = do
  refuse_if (null guid_at) INVALID_PARAMETER
  name ← guid guid_at w
  handle ← alive given INVALID_PARAMETER w
  found ← installed_interface handle name w
  refuse_if (not (nat_eq found.0 interface)) NOT_FOUND
  Ok (Uninstall (record { handle = handle; guid = name; interface = interface }))

-- ---- opening and closing

-- a handle that is not live counts as 0
abbrev pub live_or_zero : ℕ → State → ℕ
live_or_zero handle w = if dead handle w then 0 else handle

-- the address at which the interface is stored, and how many bytes that takes: none with TEST_PROTOCOL
abbrev pub out_of : (attr out : ℕ) → Option ℕ
out_of attr out = if nat_eq attr TEST_PROTOCOL then None else Some out

abbrev pub out_size : (bits : ℕ) → ℕ
out_size bits = if nat_eq bits TEST_PROTOCOL then 0 else 8

-- The open records of the interface decide, for an agent and a controller that are live or 0. A driver that is in the
-- way is disconnected first, and then the open is looked at again, as it was asked for.
abbrev pub change_for_verdict : Verdict → Opening → (agent controller interface : ℕ) → Result Change Stop
change_for_verdict Add o agent controller interface = Ok (Open o.handle o.guid agent controller o.attr (out_of o.attr o.out) interface)
change_for_verdict Count o agent controller interface = Ok (Open o.handle o.guid agent controller o.attr (out_of o.attr o.out) interface)
change_for_verdict Already o agent controller interface = Ok (Store (out_of o.attr o.out) interface ALREADY_STARTED)
change_for_verdict Denied o agent controller interface = Err (Status ACCESS_DENIED)
change_for_verdict (MustDisconnect holder) o agent controller interface = Ok (Remove (record { opening = o; victim = holder }))

-- an open by an agent that counts as 0 is not recorded, and no record is in its way
abbrev pub open_by_records : Opening → (agent controller interface : ℕ) → State → Result Change Stop
open_by_records o agent controller interface w =
    if null agent then Ok (Store (out_of o.attr o.out) interface SUCCESS)
    else change_for_verdict (judge (records_of w.soft.records.entries o.handle o.guid) agent controller o.attr) o agent controller interface

-- 0 is stored if the handle does not have the protocol
abbrev pub open_by_interface : Option (ℕ × ℕ) → Opening → State → Result Change Stop
open_by_interface None o w = Ok (Store (out_of o.attr o.out) 0 UNSUPPORTED)
open_by_interface (Some found) o w = open_by_records o (live_or_zero o.agent w) (live_or_zero o.controller w) found.0 w

-- an open with the arguments as they were given
abbrev pub opening : (handle : ℕ) → List ℕ → (out agent controller attr : ℕ) → Opening
opening handle name out agent controller attr =
    record { handle = handle; guid = name; out = out; agent = agent; controller = controller; attr = attr }

-- OpenProtocol
abbrev pub open_protocol : (given guid_at out agent controller bits : ℕ) → State → Result Change Stop
open_protocol given guid_at out agent controller bits w = do
  refuse_if (null guid_at) INVALID_PARAMETER
  handle ← alive given INVALID_PARAMETER w
  refuse_if (null out && not (nat_eq bits TEST_PROTOCOL)) INVALID_PARAMETER
  name ← guid guid_at w
  writable (out_size bits) out w
  attr ← legal bits
  refuse_if (has_bit_of AGENT_BITS attr && dead agent w) INVALID_PARAMETER
  refuse_if (has_bit_of CONTROLLER_BITS attr && dead controller w) INVALID_PARAMETER
  refuse_if (nat_eq attr BY_CHILD_CONTROLLER && nat_eq handle controller) INVALID_PARAMETER
  open_by_interface (interface_of handle name w.soft.database) (opening handle name out agent controller attr) w

-- HandleProtocol opens as the firmware does, for no controller
abbrev pub handle_protocol : (given guid_at out : ℕ) → State → Result Change Stop
handle_protocol given guid_at out w = open_protocol given guid_at out firmware 0 BY_HANDLE_PROTOCOL w

-- CloseProtocol
abbrev pub close : (given guid_at agent controller : ℕ) → State → Result Change Stop
close given guid_at agent controller w = do
  refuse_if (null guid_at) INVALID_PARAMETER
  name ← guid guid_at w
  handle ← alive given INVALID_PARAMETER w
  refuse_if (dead agent w) INVALID_PARAMETER
  refuse_if (not (null controller) && dead controller w) INVALID_PARAMETER
  found ← installed_interface handle name w
  refuse_if (not (has_record handle name (Some agent) (Some controller) ALL_BITS w)) NOT_FOUND
  Ok (Close handle name agent controller)

-- ---- what is there

-- OpenProtocolInformation
abbrev pub open_protocol_information : (given guid_at buffer count : ℕ) → State → Result Change Stop
open_protocol_information given guid_at buffer count w = do
  refuse_if (null guid_at || null buffer || null count) INVALID_PARAMETER
  name ← guid guid_at w
  writable 8 buffer w
  writable 8 count w
  handle ← alive given NOT_FOUND w
  found ← installed_interface handle name w
  Ok (Block (contents.Opens handle name) buffer count false)

-- ProtocolsPerHandle
abbrev pub protocols_per_handle : (given buffer count : ℕ) → State → Result Change Stop
protocols_per_handle given buffer count w = do
  refuse_if (null buffer || null count) INVALID_PARAMETER
  writable 8 buffer w
  writable 8 count w
  handle ← alive given INVALID_PARAMETER w
  Ok (Block (contents.Protocols handle) buffer count false)

-- ---- which handles have a protocol

-- whether a search is for one of these, and has the GUID that it needs
abbrev pub refuse_search : (search guid_at : ℕ) → Result Unit Stop
refuse_search search guid_at = do
  refuse_if (not (nat_eq search ALL_HANDLES || nat_eq search BY_PROTOCOL)) INVALID_PARAMETER
  refuse_if (nat_eq search BY_PROTOCOL && null guid_at) INVALID_PARAMETER

-- the protocol of a search, or none for all handles
abbrev pub search_protocol : (search guid_at : ℕ) → State → Result (Option (List ℕ)) Stop
search_protocol search guid_at w = if nat_eq search BY_PROTOCOL then (guid guid_at w >>= λ name. Ok (Some name)) else Ok None

-- how many handles a search finds
abbrev pub how_many : Option (List ℕ) → State → ℕ
how_many name w = length (handles_with name w.soft.database)

-- the handles are stored if the buffer that is given has room; otherwise the size that they need is stored
abbrev pub handles_in_buffer : (given : ℕ) → Option (List ℕ) → (size buffer needed : ℕ) → State → Result Change Stop
handles_in_buffer given name size buffer needed w =
    if nat_lt given needed then Ok (Store (Some size) needed BUFFER_TOO_SMALL)
    else (do
      refuse_if (null buffer) INVALID_PARAMETER
      writable needed buffer w
      Ok (Handles name size buffer))

-- LocateHandle. The key is not looked at.
abbrev pub locate_handle : (search guid_at size buffer : ℕ) → State → Result Change Stop
locate_handle search guid_at size buffer w = do
  refuse_search search guid_at
  refuse_if (null size) INVALID_PARAMETER
  name ← search_protocol search guid_at w
  writable 8 size w
  given ← number size w
  refuse_if (nat_eq (how_many name w) 0) NOT_FOUND
  handles_in_buffer given name size buffer (8 * how_many name w) w

-- LocateHandleBuffer. The key is not looked at.
abbrev pub locate_handle_buffer : (search guid_at count buffer : ℕ) → State → Result Change Stop
locate_handle_buffer search guid_at count buffer w = do
  refuse_search search guid_at
  refuse_if (null count || null buffer) INVALID_PARAMETER
  name ← search_protocol search guid_at w
  writable 8 count w
  writable 8 buffer w
  refuse_if (nat_eq (how_many name w) 0) NOT_FOUND
  Ok (Block (contents.Handles name) buffer count true)

-- 0 is stored if no handle has the protocol
abbrev pub change_for_found : Option (ℕ × ℕ) → (out : ℕ) → Result Change Stop
change_for_found None out = Ok (Store (Some out) 0 NOT_FOUND)
change_for_found (Some found) out = Ok (Store (Some out) found.0 SUCCESS)

-- LocateProtocol. The key is not looked at.
abbrev pub locate_protocol : (guid_at out : ℕ) → State → Result Change Stop
locate_protocol guid_at out w = do
  refuse_if (null guid_at || null out) INVALID_PARAMETER
  name ← guid guid_at w
  writable 8 out w
  change_for_found (first_with name w.soft.database) out
