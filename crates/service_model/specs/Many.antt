-- InstallMultipleProtocolInterfaces and UninstallMultipleProtocolInterfaces (UEFI 2.8, 7.3). Their arguments
-- after the first are pairs, up to a 0: 8 bytes that point to a GUID, and 8 bytes of an interface.
use Rattle.std.specs.Prelude.{ℕ, zero, suc, ◌+◌, ◌*◌, ◌%◌, ◌^◌, Bool, true, false, ◌||◌, not, nat_eq, nat_le, List, [], length, map, bytes_eq, Option, Some, None, Result, Ok, Err, if◌then◌else◌}
use Rattle.std.specs.List.{list_any, range_with_len}
use Rattle.fw_types.specs.declared.limits.TheConstants.{MOST_INTERFACES}
use Rattle.fw_types.specs.declared.status.TheConstants.Status.{INVALID_PARAMETER, OUT_OF_RESOURCES}
use Rattle.handle_db.specs.Database.{interface_of, interfaces_of}
use Rattle.handle_db.specs.Installing.{is_full}
use Rattle.world_model.specs.World.{State}
use Rattle.service_model.specs.Words.{◌>>=◌, ◌>>◌, alive, each, guid, has_protocol, handle_or_none, null, number, readable, refuse_if, writable}
use Rattle.service_model.specs.declared.call.HandleInterface.{HandleInterface}
use Rattle.service_model.specs.declared.numbers.TheConstants.{MOST_PAIRS}
use Rattle.service_model.specs.declared.plan.Stop.{Stop}
use Rattle.service_model.specs.declared.plan.Change.{Change}
use Rattle.service_model.specs.declared.plan.Change.TheVariants.{InstallMany, UninstallMany}

-- the pairs come after the first argument
abbrev pub first_pair : (sp : ℕ) → ℕ
first_pair sp = (sp + 8) % 2 ^ 64

-- ---- pairs

-- the address of a pair, counted from 0, and that of its interface. Addresses wrap in 64 bits.
abbrev pub pair_place : (list i : ℕ) → ℕ
pair_place list i = (list + 16 * i) % 2 ^ 64

abbrev pub interface_place : (list i : ℕ) → ℕ
interface_place list i = (list + 16 * i + 8) % 2 ^ 64

-- How many pairs there are, and whether a 0 follows them, if `done` of them were read before and at most `most` more
-- are read. Of the pair after those only the pointer is read.
unfoldable pub pairs_before : (most done list : ℕ) → State → Result (ℕ × Bool) Stop
pairs_before zero done list w = number (pair_place list done) w >>= λ pointer. Ok (done, null pointer)
pairs_before (suc most) done list w =
    number (pair_place list done) w >>= λ pointer.
    if null pointer then Ok (done, true)
    else (number (interface_place list done) w >>= λ interface. pairs_before most (done + 1) list w)

-- the GUID and the interface of a pair, and both
abbrev pub pair_name : (list i : ℕ) → State → Result (List ℕ) Stop
pair_name list i w = number (pair_place list i) w >>= λ pointer. guid pointer w

abbrev pub pair_interface : (list i : ℕ) → State → Result ℕ Stop
pair_interface list i w = number (interface_place list i) w

abbrev pub pair_at : (list i : ℕ) → State → Result (List ℕ × ℕ) Stop
pair_at list i w = pair_name list i w >>= λ name. pair_interface list i w >>= λ address. Ok (name, address)

-- the GUID of a pair can be read
abbrev pub name_readable : (list : ℕ) → State → (i : ℕ) → Result Unit Stop
name_readable list w i = number (pair_place list i) w >>= λ pointer. readable 16 pointer w

-- ---- installing

-- whether a pair's GUID is this one
abbrev pub is_named : List ℕ → Result (List ℕ) Stop → Bool
is_named name (Ok other) = bytes_eq other name
is_named name (Err stop) = false

-- whether one of the first pairs has a GUID
abbrev pub is_seen : List ℕ → (list seen : ℕ) → State → Bool
is_seen name list seen w = list_any (λ i. is_named name (pair_name list i w)) (range_with_len 0 seen)

-- whether a limit is met if so many pairs are installed before
abbrev pub no_room : Option ℕ → (seen : ℕ) → State → Bool
no_room None seen w = is_full w.soft.database
no_room (Some handle) seen w = nat_le MOST_INTERFACES (length (interfaces_of handle w.soft.database) + seen)

-- a pair can be installed after those before it
abbrev pub pair_fits : Option ℕ → (list : ℕ) → State → (i : ℕ) → Result Unit Stop
pair_fits handle list w i = do
  name ← pair_name list i w
  refuse_if (has_protocol handle name w || is_seen name list i w) INVALID_PARAMETER
  refuse_if (no_room handle i w) OUT_OF_RESOURCES

-- the handle that is given; without pairs it is not looked at
abbrev pub handle_for : (given count : ℕ) → State → Result (Option ℕ) Stop
handle_for given zero w = Ok None
handle_for given (suc count) w = handle_or_none given w

-- all pairs can be installed, one after the other
abbrev pub all_fit : Option ℕ → (list count : ℕ) → State → Result Unit Stop
all_fit handle list count w = each (pair_fits handle list w) (range_with_len 0 count)

-- Every refusal comes before anything changes.
abbrev pub install_multiple : (owner handle_at list : ℕ) → State → Result Change Stop
install_multiple owner handle_at list w = do
  pairs ← pairs_before MOST_PAIRS 0 list w
  refuse_if (null handle_at) INVALID_PARAMETER
  writable 8 handle_at w
  given ← number handle_at w
  each (name_readable list w) (range_with_len 0 pairs.0)
  refuse_if (not pairs.1) INVALID_PARAMETER
  handle ← handle_for given pairs.0 w
  all_fit handle list pairs.0 w
  Ok (InstallMany handle list pairs.0 owner handle_at)

-- ---- uninstalling

-- whether an interface is there with this address
abbrev pub is_at : Option (ℕ × ℕ) → (address : ℕ) → Bool
is_at None address = false
is_at (Some found) address = nat_eq found.0 address

-- the handle has the interface of a pair
abbrev pub pair_installed_on : (handle list : ℕ) → State → (i : ℕ) → Result Unit Stop
pair_installed_on handle list w i = do
  pair ← pair_at list i w
  refuse_if (not (is_at (interface_of handle pair.0 w.soft.database) pair.1)) INVALID_PARAMETER

-- the interface that a pair names; each pair can be read
abbrev pub named_by : (handle : ℕ) → Result (List ℕ × ℕ) Stop → HandleInterface
named_by handle (Ok pair) = record { handle = handle; guid = pair.0; interface = pair.1 }
named_by handle (Err stop) = record { handle = handle; guid = []; interface = 0 }

abbrev pub interface_named : (handle list : ℕ) → State → (i : ℕ) → HandleInterface
interface_named handle list w i = named_by handle (pair_at list i w)

abbrev pub interfaces_named : (handle list count : ℕ) → State → List HandleInterface
interfaces_named handle list count w = map (interface_named handle list w) (range_with_len 0 count)

-- UninstallMultipleProtocolInterfaces, up to the point at which drivers are disconnected. Each pair must be there
-- before the first one is removed.
abbrev pub uninstall_multiple : (given list : ℕ) → State → Result Change Stop
uninstall_multiple given list w = do
  pairs ← pairs_before MOST_PAIRS 0 list w
  each (name_readable list w) (range_with_len 0 pairs.0)
  handle ← alive given INVALID_PARAMETER w
  refuse_if (not pairs.1) INVALID_PARAMETER
  each (pair_installed_on handle list w) (range_with_len 0 pairs.0)
  Ok (UninstallMany handle list pairs.0)
