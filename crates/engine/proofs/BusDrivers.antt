-- How Start and Stop of the PCI bus driver go on, child by child and driver by driver.
use Rattle.std.proofs.Common.{◌≡◌, ℕ, ◌+◌, ◌-◌, ◌<◌, ◌≤◌, Bool, true, false, not, ◌||◌, List, [], ◌∷◌, length, drop, refl, sym, ap, ◌∙◌}
use Rattle.std.specs.Prelude.{nat_lt, Option, Some, None, option_map, slice_index_or, Result, Ok, Err, if◌then◌else◌}
use Rattle.std.proofs.lemmas.List.{drop_all}
use Rattle.fw_types.specs.declared.event.Cause.TheVariants.{Budget}
use Rattle.fw_types.specs.declared.event.Outcome.{Outcome}
use Rattle.fw_types.specs.declared.event.Outcome.TheVariants.{Value, Trapped}
use Rattle.fw_types.specs.declared.image.ImageNote.{ImageNote}
use Rattle.fw_types.specs.declared.status.Status.{Status}
use Rattle.fw_types.specs.declared.status.TheConstants.Status.{DEVICE_ERROR, SUCCESS}
use Rattle.handle_db.specs.Database.{is_live}
use Rattle.world_model.specs.World.{State}
use Rattle.world_model.specs.Boards.{rom_of}
use Rattle.world_model.specs.BusChildren.{rom_done}
use Rattle.driver_model.specs.Moves.{changed, lists_images, pays, plain}
use Rattle.driver_model.specs.Level.{Level}
use Rattle.driver_model.specs.BusChildren.{interfaces_to_go, is_child_of}
use Rattle.driver_model.specs.BusDriver.{after_children, after_taking, below_last, bus_started, bus_stopped, child_stopped, images_loaded, list_kept, rom_loaded, rom_processed, roms_processed, with_loaded}
use Rattle.driver_model.specs.ImageLife.{Load, image_loaded}
use Rattle.driver_model.specs.Levels.{below}
use Rattle.driver_model.specs.RomDrivers.{drivers_in}
use Rattle.driver_model.specs.UninstallWithReconnection.{each_uninstalled}
use Rattle.driver_model.specs.declared.bus_driver.NewChild.{NewChild}
use Rattle.driver_model.specs.declared.bus_driver.TheConstants.{CHILD_PRICE}
use Rattle.driver_model.specs.declared.call.Scope.{Scope}
use Rattle.driver_model.specs.declared.request.Remover.TheVariants.{TheFirmware}
use Rattle.driver_model.specs.declared.settings.Settings.{Settings}
use Rattle.engine.specs.AtLevel.{level_at, level_below}
use Rattle.bind_parts.specs.BusTurns.{drivers_to_load, others_or_end}
use Rattle.bind_parts.proofs.Lists.{next_is}
use Rattle.engine.proofs.Turns.{next_level}

-- ---- option ROMs, child by child

module _ (l : Level State) (scope : Scope) where
  roms_first : (child : NewChild) (children : List NewChild) (w : State)
      → roms_processed plain l scope (child ∷ children) w ≡ roms_processed plain l scope children (rom_processed plain l scope child w)
  unfolding roms_processed
  roms_first child children w = refl

  pub roms_next : (children : List NewChild) (i : ℕ) (child : NewChild) (w v : State) → i < length children → child ≡ slice_index_or children i child
      → rom_processed plain l scope child w ≡ v → roms_processed plain l scope (drop i children) w ≡ roms_processed plain l scope (drop (i + 1) children) v
  roms_next children i child w v lt here is =
      rw (next_is children i child lt here)
      (roms_first child (drop (i + 1) children) w ∙ ap (λ (u : State). roms_processed plain l scope (drop (i + 1) children) u) is)

  pub roms_all : (children : List NewChild) (i : ℕ) (w : State) → length children ≤ i → roms_processed plain l scope (drop i children) w ≡ w
  unfolding roms_processed
  roms_all children i w le = rw (drop_all i children le) refl

  -- ---- the option ROM of a child

  by_rom : (rom : Option (List ℕ)) (child : NewChild) (w : State) → option_map drivers_in rom ≡ None → rom_loaded plain l scope child rom w ≡ w
  by_rom None child w is = refl
  by_rom (Some rom) child w is = absurd cc

  by_files : (rom : Option (List ℕ)) (files : List (List ℕ)) (child : NewChild) (w : State) → option_map drivers_in rom ≡ Some files
      → rom_loaded plain l scope child rom w ≡ list_kept plain child.function (images_loaded plain l scope child.handle files [] w)
  by_files None files child w is = absurd cc
  by_files (Some rom) files child w is =
      let same : drivers_in rom ≡ files = cc in
      ap (λ (files : List (List ℕ)). list_kept plain child.function (images_loaded plain l scope child.handle files [] w)) same

  no_test : (passed : Bool) (files : Option (List (List ℕ))) (one other : State) → (if passed then None else files) ≡ None → (files ≡ None → other ≡ one) → (if passed then one else other) ≡ one
  no_test true files one other is by = refl
  no_test false files one other is by = by is

  some_test : (passed : Bool) (files : Option (List (List ℕ))) (some : List (List ℕ)) (one other last : State) → (if passed then None else files) ≡ Some some
      → (files ≡ Some some → other ≡ last) → (if passed then one else other) ≡ last
  some_test true files some one other last is by = absurd cc
  some_test false files some one other last is by = by is

  pub rom_none : (child : NewChild) (w : State) → drivers_to_load child w ≡ None → rom_processed plain l scope child w ≡ w
  unfolding rom_processed
  rom_none child w is =
      no_test (not (is_live child.handle w.soft.database) || rom_done child.function w.soft) (option_map drivers_in (rom_of child.function w.hard)) w _ is
      (λ none. by_rom (rom_of child.function w.hard) child w none)

  pub rom_files : (child : NewChild) (files : List (List ℕ)) (w v : State) (images : List ℕ) → drivers_to_load child w ≡ Some files
      → images_loaded plain l scope child.handle files [] w ≡ (images, v) → rom_processed plain l scope child w ≡ changed (lists_images child.function images) v
  unfolding rom_processed
  rom_files child files w v images is loads =
      some_test (not (is_live child.handle w.soft.database) || rom_done child.function w.soft) (option_map drivers_in (rom_of child.function w.hard)) files w _ _ is
      (λ some. by_files (rom_of child.function w.hard) files child w some)
      ∙ ap (list_kept plain child.function) loads

  -- ---- drivers

  images_first : (device : ℕ) (file : List ℕ) (files : List (List ℕ)) (images : List ℕ) (w : State)
      → images_loaded plain l scope device (file ∷ files) images w
      ≡ images_loaded plain l scope device files (with_loaded plain images (image_loaded plain l scope file device w).note) (image_loaded plain l scope file device w).world
  unfolding images_loaded
  images_first device file files images w = refl

  pub images_next : (device : ℕ) (files : List (List ℕ)) (i : ℕ) (file : List ℕ) (images more : List ℕ) (note : ImageNote) (status : Status) (w v : State) → i < length files
      → file ≡ slice_index_or files i file → image_loaded plain l scope file device w ≡ record { note = note; status = status; world = v } → more ≡ with_loaded plain images note
      → images_loaded plain l scope device (drop i files) images w ≡ images_loaded plain l scope device (drop (i + 1) files) more v
  images_next device files i file images more note status w v lt here is grows =
      ap (λ (list : List (List ℕ)). images_loaded plain l scope device list images w) (next_is files i file lt here)
      ∙ images_first device file (drop (i + 1) files) images w
      ∙ ap (λ (load : Load State). images_loaded plain l scope device (drop (i + 1) files) (with_loaded plain images load.note) load.world) is
      ∙ ap (λ (images : List ℕ). images_loaded plain l scope device (drop (i + 1) files) images v) (sym grows)

  pub images_all : (device : ℕ) (files : List (List ℕ)) (i : ℕ) (images : List ℕ) (w : State) → length files ≤ i
      → images_loaded plain l scope device (drop i files) images w ≡ (images, w)
  unfolding images_loaded
  images_all device files i images w le = rw (drop_all i files le) refl

-- ---- the last level

pub below_none : (s : Settings) (room : ℕ) (scope : Scope) (children : List NewChild) (w : State) → room ≡ 0 → below_last plain (level_below s room) scope children w ≡ w
unfolding below
below_none s room scope children w last = rw last refl

pub below_some : (s : Settings) (room : ℕ) (scope : Scope) (children : List NewChild) (w : State) → 0 < room
    → below_last plain (level_below s room) scope children w ≡ roms_processed plain (level_at s (room - 1)) scope children w
below_some s room scope children w some = ap (λ (b : Option (Level State)). below_last plain b scope children w) (next_level s room some)

-- ---- Stop, child by child

-- whether a handle was found as a child
pub no_child : (is : Bool) (child : ℕ) → (if is then Some child else None) ≡ None → is ≡ false
no_child true child none = absurd cc
no_child false child none = refl

pub one_child : (is : Bool) (child handle : ℕ) → (if is then Some child else None) ≡ Some handle → (is ≡ true) × (handle ≡ child)
one_child true child handle some = (refl, cc)
one_child false child handle some = absurd cc

module _ (s : Settings) (b : Option (Level State)) (scope : Scope) (controller : ℕ) where
  abbrev stopped : List ℕ → State → Outcome × State
  stopped children w = bus_stopped plain s b scope controller children w

  pub stop_short : (child : ℕ) (children : List ℕ) (w : State) → nat_lt w.hard.units CHILD_PRICE ≡ true → stopped (child ∷ children) w ≡ (Trapped Budget, w)
  unfolding bus_stopped
  stop_short child children w short = rw short refl

  pub stop_paid : (child : ℕ) (children : List ℕ) (w paid : State) → nat_lt w.hard.units CHILD_PRICE ≡ false → paid ≡ changed (pays CHILD_PRICE) w
      → stopped (child ∷ children) w ≡ child_stopped plain s b scope (bus_stopped plain s b scope controller children) controller child paid
  unfolding bus_stopped
  stop_paid child children w paid enough is = rw (enough, is) refl

  pub stop_other : (others : State → Outcome × State) (child : ℕ) (w : State) → is_child_of controller child w ≡ false
      → child_stopped plain s b scope others controller child w ≡ (Value DEVICE_ERROR, w)
  stop_other others child w other = rw other refl

  pub stop_taken : (others : State → Outcome × State) (child : ℕ) (w v : State) (all : Bool) → is_child_of controller child w ≡ true
      → each_uninstalled plain s b scope TheFirmware (interfaces_to_go child w.soft) w ≡ (all, v)
      → child_stopped plain s b scope others controller child w ≡ after_taking plain others (interfaces_to_go child w.soft) (all, v)
  stop_taken others child w v all is takes = rw (is, takes) refl

  pub stops_next : (children : List ℕ) (i child : ℕ) (w v : State) (end : Option Outcome) → i < length children → child ≡ slice_index_or children i child
      → stopped (child ∷ drop (i + 1) children) w ≡ others_or_end end (bus_stopped plain s b scope controller (drop (i + 1) children)) v
      → stopped (drop i children) w ≡ others_or_end end (bus_stopped plain s b scope controller (drop (i + 1) children)) v
  stops_next children i child w v end lt here is = ap (λ (list : List ℕ). stopped list w) (next_is children i child lt here) ∙ is

  pub stops_all : (children : List ℕ) (i : ℕ) (w : State) → length children ≤ i → stopped (drop i children) w ≡ (Value SUCCESS, w)
  unfolding bus_stopped
  stops_all children i w le = rw (drop_all i children le) refl

-- ---- Start, by what came before the option ROMs

module _ (b : Option (Level State)) (scope : Scope) (controller path : ℕ) (w v : State) where
  pub started_ok : (result : Result (List NewChild) Outcome) (children : List NewChild) (u : State)
      → bus_started plain b scope controller path w ≡ after_children plain b scope (result, v) → result ≡ Ok children → below_last plain b scope children v ≡ u
      → bus_started plain b scope controller path w ≡ (Value SUCCESS, u)
  started_ok result children u is ok last = is ∙ ap (λ (r : Result (List NewChild) Outcome). after_children plain b scope (r, v)) ok ∙ ap (λ (u : State). (Value SUCCESS, u)) last

  pub started_err : (result : Result (List NewChild) Outcome) (outcome : Outcome)
      → bus_started plain b scope controller path w ≡ after_children plain b scope (result, v) → result ≡ Err outcome
      → bus_started plain b scope controller path w ≡ (outcome, v)
  started_err result outcome is err = is ∙ ap (λ (r : Result (List NewChild) Outcome). after_children plain b scope (r, v)) err
