-- How Start of the PCI bus driver makes its children, and what Stop frees, one after the other.
use Rattle.std.proofs.Common.{◌≡◌, ℕ, ◌+◌, ◌<◌, ◌≤◌, Bool, true, false, not, ◌||◌, List, [], ◌∷◌, ◌++◌, length, drop, refl, sym, ap, ◌∙◌}
use Rattle.std.specs.Prelude.{is_ok, nat_lt, Option, Some, None, slice_index_or, Result, Ok, Err, if◌then◌else◌}
use Rattle.std.proofs.lemmas.Bool.{or_right}
use Rattle.std.proofs.lemmas.List.{drop_all}
use Rattle.fw_types.specs.declared.attr.TheConstants.Attr.{BY_CHILD_CONTROLLER}
use Rattle.fw_types.specs.declared.event.Cause.TheVariants.{Budget}
use Rattle.fw_types.specs.declared.event.Outcome.{Outcome}
use Rattle.fw_types.specs.declared.event.Outcome.TheVariants.{Value, Trapped}
use Rattle.fw_types.specs.declared.status.TheConstants.Status.{OUT_OF_RESOURCES}
use Rattle.world_model.specs.World.{State}
use Rattle.world_model.specs.NewChild.{child_answer, has_rom, is_child_full, path_below}
use Rattle.world_model.specs.declared.fault.WorldFault.{WorldFault}
use Rattle.world_model.specs.declared.fault.WorldFault.TheVariants.{Full}
use Rattle.service_model.specs.declared.call.HandleInterface.{HandleInterface}
use Rattle.driver_model.specs.Moves.{adds_child, changed, frees, pays, plain}
use Rattle.driver_model.specs.BusChildren.{bus_child_made, is_bus_child_full, is_root_record_full}
use Rattle.driver_model.specs.BusDriver.{after_child, blocks_freed, children_made}
use Rattle.driver_model.specs.declared.bus_driver.NewChild.{NewChild}
use Rattle.driver_model.specs.declared.bus_driver.TheConstants.{CHILD_PRICE}
use Rattle.bind_parts.specs.BusTurns.{child_or_end, made_of}
use Rattle.bind_parts.proofs.Lists.{next_is}

-- ---- children

module _ (controller : ℕ) where
  pub made_short : (number : ℕ) (numbers : List ℕ) (children : List NewChild) (w : State) → nat_lt w.hard.units CHILD_PRICE ≡ true
      → children_made plain controller (number ∷ numbers) children w ≡ (Err (Trapped Budget), w)
  unfolding children_made
  made_short number numbers children w short = rw short refl

  made_paid : (number : ℕ) (numbers : List ℕ) (children : List NewChild) (w paid : State) → nat_lt w.hard.units CHILD_PRICE ≡ false → paid ≡ changed (pays CHILD_PRICE) w
      → children_made plain controller (number ∷ numbers) children w ≡ after_child plain (children_made plain controller numbers) controller number children paid
  unfolding children_made
  made_paid number numbers children w paid enough is = rw (enough, is) refl

  -- the first of two cases for a child: it is made
  some_by : (full : Bool) (others : List NewChild → State → Result (List NewChild) Outcome × State) (number : ℕ) (children : List NewChild) (child : NewChild) (paid v : State)
      → is_bus_child_full controller number paid ≡ full → (if full then None else Some (record { handle = paid.soft.database.next; function = number })) ≡ Some child
      → v ≡ (if full then paid else bus_child_made controller number paid)
      → after_child plain others controller number children paid ≡ others (children ++ child ∷ []) v
  some_by true others number children child paid v full is becomes = absurd cc
  some_by false others number children child paid v full is becomes =
      let new : NewChild = record { handle = paid.soft.database.next; function = number } in
      let same : new ≡ child = cc in
      rw full
      (ap (λ (one : NewChild). others (children ++ one ∷ []) (changed (adds_child controller number) paid)) same ∙ ap (others (children ++ child ∷ [])) (sym becomes))

  -- the second: a limit is met
  abbrev child_for : ℕ → State → Option NewChild
  child_for number paid = Some (record { handle = paid.soft.database.next; function = number })

  none_by : (full : Bool) (others : List NewChild → State → Result (List NewChild) Outcome × State) (number : ℕ) (children : List NewChild) (paid v : State)
      → is_bus_child_full controller number paid ≡ full → (if full then None else child_for number paid) ≡ None
      → v ≡ (if full then paid else bus_child_made controller number paid)
      → after_child plain others controller number children paid ≡ (Err (Value OUT_OF_RESOURCES), v)
  none_by false others number children paid v full is becomes = absurd cc
  none_by true others number children paid v full is becomes = rw (full, becomes) refl

  pub made_some : (number : ℕ) (numbers : List ℕ) (children : List NewChild) (w paid v : State) (found : Option NewChild) (child : NewChild)
      → nat_lt w.hard.units CHILD_PRICE ≡ false → paid ≡ changed (pays CHILD_PRICE) w → found ≡ made_of controller number paid → found ≡ Some child
      → v ≡ (if is_bus_child_full controller number paid then paid else bus_child_made controller number paid)
      → children_made plain controller (number ∷ numbers) children w ≡ children_made plain controller numbers (children ++ child ∷ []) v
  made_some number numbers children w paid v found child enough pay made some becomes =
      made_paid number numbers children w paid enough pay
      ∙ some_by (is_bus_child_full controller number paid) (children_made plain controller numbers) number children child paid v refl (sym made ∙ some) becomes

  pub made_none : (number : ℕ) (numbers : List ℕ) (children : List NewChild) (w paid v : State) (found : Option NewChild)
      → nat_lt w.hard.units CHILD_PRICE ≡ false → paid ≡ changed (pays CHILD_PRICE) w → found ≡ made_of controller number paid → found ≡ None
      → v ≡ (if is_bus_child_full controller number paid then paid else bus_child_made controller number paid)
      → children_made plain controller (number ∷ numbers) children w ≡ (Err (Value OUT_OF_RESOURCES), v)
  made_none number numbers children w paid v found enough pay made none becomes =
      made_paid number numbers children w paid enough pay
      ∙ none_by (is_bus_child_full controller number paid) (children_made plain controller numbers) number children paid v refl (sym made ∙ none) becomes

  pub made_next : (numbers : List ℕ) (i number : ℕ) (children : List NewChild) (w v : State) (made : Result NewChild Outcome) → i < length numbers → number ≡ slice_index_or numbers i number
      → children_made plain controller (number ∷ drop (i + 1) numbers) children w ≡ child_or_end made (children_made plain controller (drop (i + 1) numbers)) children v
      → children_made plain controller (drop i numbers) children w ≡ child_or_end made (children_made plain controller (drop (i + 1) numbers)) children v
  made_next numbers i number children w v made lt here is =
      ap (λ (list : List ℕ). children_made plain controller list children w) (next_is numbers i number lt here) ∙ is

  pub made_all : (numbers : List ℕ) (i : ℕ) (children : List NewChild) (w : State) → length numbers ≤ i → children_made plain controller (drop i numbers) children w ≡ (Ok children, w)
  unfolding children_made
  made_all numbers i children w le = rw (drop_all i numbers le) refl

-- ---- blocks

freed_first : (i : HandleInterface) (interfaces : List HandleInterface) (w : State) → blocks_freed plain (i ∷ interfaces) w ≡ blocks_freed plain interfaces (changed (frees i.interface) w)
unfolding blocks_freed
freed_first i interfaces w = refl

pub freed_next : (interfaces : List HandleInterface) (k : ℕ) (i : HandleInterface) (w v : State) → k < length interfaces → i ≡ slice_index_or interfaces k i
    → v ≡ changed (frees i.interface) w → blocks_freed plain (drop k interfaces) w ≡ blocks_freed plain (drop (k + 1) interfaces) v
freed_next interfaces k i w v lt here is =
    ap (λ (list : List HandleInterface). blocks_freed plain list w) (next_is interfaces k i lt here)
    ∙ freed_first i (drop (k + 1) interfaces) w
    ∙ ap (blocks_freed plain (drop (k + 1) interfaces)) (sym is)

pub freed_all : (interfaces : List HandleInterface) (k : ℕ) (w : State) → length interfaces ≤ k → blocks_freed plain (drop k interfaces) w ≡ w
unfolding blocks_freed
freed_all interfaces k w le = rw (drop_all k interfaces le) refl

-- ---- whether a limit is met

module _ (controller function : ℕ) (w : State) where
  pub full_by_record : is_root_record_full controller w.soft.database.next BY_CHILD_CONTROLLER w.soft ≡ true → is_bus_child_full controller function w ≡ true
  full_by_record is = or_right (not (is_ok (child_answer controller function w))) (is_root_record_full controller w.soft.database.next BY_CHILD_CONTROLLER w.soft) is

  pub full_by_answer : child_answer controller function w ≡ Err Full → is_bus_child_full controller function w ≡ true
  full_by_answer is = ap (λ (answer : Result ℕ WorldFault). not (is_ok answer) || is_root_record_full controller w.soft.database.next BY_CHILD_CONTROLLER w.soft) is

  pub room_by_both : (handle : ℕ) → child_answer controller function w ≡ Ok handle → is_root_record_full controller w.soft.database.next BY_CHILD_CONTROLLER w.soft ≡ false
      → is_bus_child_full controller function w ≡ false
  room_by_both handle is few =
      ap (λ (answer : Result ℕ WorldFault). not (is_ok answer) || is_root_record_full controller w.soft.database.next BY_CHILD_CONTROLLER w.soft) is ∙ few

  next_of_answer : (full : Bool) (next handle : ℕ) → (if full then Err Full else Ok next) ≡ Ok handle → handle ≡ next
  next_of_answer true next handle is = absurd cc
  next_of_answer false next handle is = cc

  pub new_handle : (handle : ℕ) → child_answer controller function w ≡ Ok handle → handle ≡ w.soft.database.next
  new_handle handle is = next_of_answer (is_child_full (length (path_below controller function w)) (has_rom function w) w.soft) w.soft.database.next handle is
