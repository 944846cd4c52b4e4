-- ConnectController and DisconnectController (UEFI 2.8, 7.3), up to the point at which they enter the
-- driver model.
use Rattle.std.specs.Prelude.{ℕ, Bool, false, ◌&&◌, not, nat_eq, find, map, List, Option, Some, None, ok_or, unwrap_or, Result, Ok, Err, if◌then◌else◌}
use Rattle.std.specs.List.{range_with_len}
use Rattle.fw_types.specs.declared.status.TheConstants.Status.{INVALID_PARAMETER}
use Rattle.guest_memory.specs.GuestMemory.{number_of}
use Rattle.service_thunks.specs.Arguments.{slot_at}
use Rattle.world_model.specs.World.{State}
use Rattle.service_model.specs.Words.{◌>>=◌, ◌>>◌, null, number, readable}
use Rattle.service_model.specs.declared.numbers.TheConstants.{CONTEXT_SLOTS, END_NODE}
use Rattle.service_model.specs.declared.plan.Stop.{Stop}
use Rattle.service_model.specs.declared.plan.Stop.TheVariants.{Status}
use Rattle.service_model.specs.declared.plan.Change.{Change}
use Rattle.service_model.specs.declared.plan.Change.TheVariants.{Connect, Disconnect}

-- ---- the list of driver handles, whose end is a 0

-- whether a slot has a handle: a number that can be read and is not 0
abbrev pub is_handle : Result ℕ Stop → Bool
is_handle (Ok handle) = not (null handle)
is_handle (Err stop) = false

abbrev pub has_handle : (list : ℕ) → State → (i : ℕ) → Bool
has_handle list w i = is_handle (number (slot_at list i) w)

-- the first of so many slots that has no handle
unfoldable pub first_without : (slots list : ℕ) → State → Option ℕ
first_without slots list w = find (λ i. not (has_handle list w i)) (range_with_len 0 slots)

-- how many handles the list has: the slot after them is read, and it is a 0 or the service traps
abbrev pub length_by : Option ℕ → (list : ℕ) → State → Result (Option ℕ) Stop
length_by None list w = Ok None
length_by (Some i) list w = number (slot_at list i) w >>= λ value. Ok (Some i)

-- a list that is NULL has no handle
abbrev pub context_length : (list : ℕ) → State → Result (Option ℕ) Stop
context_length list w = if null list then Ok (Some 0) else length_by (first_without CONTEXT_SLOTS list w) list w

-- the handles themselves
abbrev pub handle_at : (list : ℕ) → State → (i : ℕ) → ℕ
handle_at list w i = unwrap_or (number_of w.soft.memory (slot_at list i) 8) 0

abbrev pub context_of : (list count : ℕ) → State → List ℕ
context_of list count w = map (handle_at list w) (range_with_len 0 count)

-- ---- the remaining device path

-- the four bytes of its first node
abbrev pub path_readable : (path : ℕ) → State → Result Unit Stop
path_readable path w = if null path then Ok tt else readable 4 path w

-- whether its first node is the one that ends a path
abbrev pub is_end_node : Option ℕ → Bool
is_end_node None = false
is_end_node (Some node) = nat_eq node END_NODE

abbrev pub is_at_end : (path : ℕ) → State → Bool
is_at_end path w = not (null path) && is_end_node (number_of w.soft.memory path 2)

-- ---- the rows

-- ConnectController
abbrev pub connect_controller : (controller list path recursive : ℕ) → State → Result Change Stop
connect_controller controller list path recursive w = do
  length ← context_length list w
  path_readable path w
  count ← ok_or length (Status INVALID_PARAMETER)
  Ok (Connect controller list count path (is_at_end path w) (not (null recursive)))

-- DisconnectController
abbrev pub disconnect_controller : (controller driver child : ℕ) → State → Result Change Stop
disconnect_controller controller driver child w = Ok (Disconnect controller driver child)
