-- Closing the records of children, one child after the other; and going through the platform's lists, one after the
-- other.
use Rattle.std.proofs.Common.{◌≡◌, ℕ, ◌+◌, ◌<◌, ◌≤◌, true, false, List, [], length, drop, refl}
use Rattle.std.specs.Prelude.{find, nat_eq, slice_index_or}
use Rattle.std.proofs.lemmas.List.{drop_all}
use Rattle.world_model.specs.World.{State}
use Rattle.driver_model.specs.Moves.{changed, closes_child, plain}
use Rattle.driver_model.specs.Disconnect.{children_closed}
use Rattle.driver_model.specs.DriverOrder.{drivers_in}
use Rattle.driver_model.specs.declared.settings.PlatformList.{PlatformList}
use Rattle.bind_parts.proofs.Lists.{next_of}

-- ---- closing

pub closed_next : (controller agent : ℕ) (children : List ℕ) (i : ℕ) (w v : State) → i < length children → changed (closes_child controller agent (slice_index_or children i 0)) w ≡ v
    → children_closed plain controller agent (drop i children) w ≡ children_closed plain controller agent (drop (i + 1) children) v
closed_next controller agent children i w v lt is = rw (next_of children i 0 lt, ← is) refl

pub closed_all : (controller agent : ℕ) (children : List ℕ) (i : ℕ) (w : State) → length children ≤ i → children_closed plain controller agent (drop i children) w ≡ w
closed_all controller agent children i w le = rw (drop_all i children le) refl

-- ---- the platform's lists

abbrev pub list_from : (controller : ℕ) → List PlatformList → List ℕ
list_from controller lists = drivers_in (find (λ (list : PlatformList). nat_eq list.controller controller) lists)

pub list_here : (controller : ℕ) (lists : List PlatformList) (i : ℕ) (d : PlatformList) → i < length lists → nat_eq (slice_index_or lists i d).controller controller ≡ true
    → list_from controller (drop i lists) ≡ (slice_index_or lists i d).drivers
list_here controller lists i d lt is = rw (next_of lists i d lt, is) refl

pub list_later : (controller : ℕ) (lists : List PlatformList) (i : ℕ) (d : PlatformList) → i < length lists → nat_eq (slice_index_or lists i d).controller controller ≡ false
    → list_from controller (drop i lists) ≡ list_from controller (drop (i + 1) lists)
list_later controller lists i d lt is = rw (next_of lists i d lt, is) refl

pub no_list : (controller : ℕ) (lists : List PlatformList) (i : ℕ) → length lists ≤ i → list_from controller (drop i lists) ≡ []
no_list controller lists i le = rw (drop_all i lists le) refl
