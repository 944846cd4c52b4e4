-- Start and Stop of the PCI bus driver keep what each single move keeps.
use Rattle.std.proofs.Common.{◌≡◌, ℕ, Bool, true, false, ◌&&◌, ◌||◌, not, List, [], ◌∷◌, Option, Some, None, refl, sym, ap, subst}
use Rattle.std.specs.Prelude.{Result, Ok, Err, is_some}
use Rattle.std.specs.List.{list_all}
use Rattle.std.proofs.lemmas.Bool.{and_from}
use Rattle.fw_types.specs.Guid.{known_guid}
use Rattle.fw_types.specs.declared.event.Outcome.{Outcome}
use Rattle.fw_types.specs.declared.guid.Known.TheVariants.{BusOverride}
use Rattle.fw_types.specs.declared.status.Status.{Status}
use Rattle.handle_db.specs.Database.{interface_of, is_live}
use Rattle.open_records.specs.Verdicts.{may_enter}
use Rattle.open_records.specs.declared.verdict.Verdict.{Verdict}
use Rattle.open_records.specs.declared.verdict.Verdict.TheVariants.{Add, Count, Already, Denied, MustDisconnect}
use Rattle.world_model.specs.World.{Soft, State}
use Rattle.world_model.specs.Boards.{rom_of, root_bus}
use Rattle.world_model.specs.BusChildren.{rom_done}
use Rattle.service_model.specs.declared.call.HandleInterface.{HandleInterface}
use Rattle.driver_model.specs.Moves.{Operations, adds_child, frees, lists_images, opens_root, pays}
use Rattle.driver_model.specs.Allowed.{may_go}
use Rattle.driver_model.specs.BusLaws.{AllMayGo, IsSupported, SupportedIsRoot}
use Rattle.driver_model.specs.BusChildren.{has_of_firmware, interfaces_to_go, is_bus_child_full, is_child_of, is_root_full, override_to_go}
use Rattle.driver_model.specs.BusDriver.{after_child, after_children, after_taking, below_last, blocks_freed, bus_started, bus_stopped, child_stopped, children_made, if_supported, images_loaded, is_child_short, rom_loaded, rom_processed, roms_processed}
use Rattle.driver_model.specs.BusSupport.{chosen_on, functions_chosen, path_choice, refusal_by, root_verdict, unless_open}
use Rattle.driver_model.specs.Level.{Level}
use Rattle.driver_model.specs.RomDrivers.{drivers_in}
use Rattle.driver_model.specs.UninstallWithReconnection.{each_uninstalled}
use Rattle.driver_model.specs.declared.bus_driver.NewChild.{NewChild}
use Rattle.driver_model.specs.declared.bus_driver.PathChoice.{PathChoice}
use Rattle.driver_model.specs.declared.bus_driver.TheConstants.{CHILD_PRICE}
use Rattle.driver_model.specs.declared.call.Scope.{Scope}
use Rattle.driver_model.specs.declared.request.Remover.TheVariants.{TheFirmware}
use Rattle.driver_model.specs.declared.settings.Settings.{Settings}
use Rattle.driver_model.proofs.ImageLoads.{load_keeps}
use Rattle.driver_model.proofs.Keeping.{Keeps, KeepsBelow, KeepsMoves, choose, choose_by, each_keeps}
use Rattle.driver_model.proofs.RootBridges.{root_stays}

-- ---- what Start's tests say

may-by : (verdict : Verdict) → refusal_by verdict ≡ None → may_enter verdict ≡ true
may-by Add is = refl
may-by Count is = refl
may-by Already is = absurd cc
may-by Denied is = absurd cc
may-by (MustDisconnect holder) is = absurd cc

supported-open : (refusal : Option Status) (numbers others : List ℕ) → unless_open refusal others ≡ Ok numbers → refusal ≡ None
supported-open None numbers others is = refl
supported-open (Some status) numbers others is = absurd cc

supported-by : (controller : ℕ) (w : State) (numbers : List ℕ) (bus : Option ℕ) (choice : Option PathChoice) → root_bus controller w ≡ bus
    → chosen_on bus choice controller w ≡ Ok numbers → IsSupported controller w
supported-by controller w numbers None choice root is = absurd cc
supported-by controller w numbers (Some bus) None root is = absurd cc
supported-by controller w numbers (Some bus) (Some choice) root is = record {
  root = ap is_some root;
  may = may-by (root_verdict controller w.soft) (supported-open (refusal_by (root_verdict controller w.soft)) numbers _ is);
}

pub is_supported : SupportedIsRoot
unfolding functions_chosen
is_supported controller path w numbers is = supported-by controller w numbers (root_bus controller w) (path_choice path w.soft) refl is

-- ---- what Stop's interfaces are

-- they are of protocols that have no lasting interfaces
override-may_go : (child : ℕ) (soft : Soft) → list_all (may_go TheFirmware) (override_to_go child soft) ≡ true
override-may_go child soft =
    choose (λ (interfaces : List HandleInterface). list_all (may_go TheFirmware) interfaces ≡ true) (has_of_firmware (interface_of child (known_guid BusOverride) soft.database)) _ _ refl refl

pub all_may_go : AllMayGo
all_may_go child soft = override-may_go child soft

module _ {S : Type 0} (o : Operations S) (is_listable : List ℕ → Bool) (R : (level : ℕ) → S → S → Type 0) (kept : KeepsMoves o is_listable R) (settings : Settings)
    (level : ℕ) (b : Option (Level S)) (k : KeepsBelow is_listable R level b) (scope : Scope) where
  -- ---- Start: children

  abbrev is_root : (controller : ℕ) → S → Type 0
  is_root controller w = is_some (root_bus controller (o.see w)) ≡ true

  root_after_pay : (controller price : ℕ) (w : S) → is_root controller w → is_root controller (o.make (pays price) w)
  root_after_pay controller price w root = subst (λ (v : State). is_some (root_bus controller v) ≡ true) (sym (kept.sees (pays price) w)) root

  root_after_child : (controller function : ℕ) (w : S) → is_root controller w → is_root controller (o.make (adds_child controller function) w)
  root_after_child controller function w root =
      subst (λ (v : State). is_some (root_bus controller v) ≡ true) (sym (kept.sees (adds_child controller function) w)) (root_stays controller function (o.see w) root)

  root_after_open : (controller : ℕ) (w : S) → is_root controller w → is_root controller (o.make (opens_root controller) w)
  root_after_open controller w root = subst (λ (v : State). is_some (root_bus controller v) ≡ true) (sym (kept.sees (opens_root controller) w)) root

  after_child_keeps : (others : List NewChild → S → Result (List NewChild) Outcome × S) (controller function : ℕ) (children : List NewChild) (w : S)
      → ((children : List NewChild) (w : S) → is_root controller w → R level w (others children w).1)
      → is_root controller w → R level w (after_child o others controller function children w).1
  after_child_keeps others controller function children w keeps root =
      choose_by (λ (r : Result (List NewChild) Outcome × S). R level w r.1) (is_bus_child_full controller function (o.see w)) _ _ (λ full. kept.same level w)
      (λ room. kept.joined level _ _ _
      (kept.moves level (adds_child controller function) w (and_from (is_some (root_bus controller (o.see w))) (not (is_bus_child_full controller function (o.see w))) root (ap not room)))
      (keeps _ _ (root_after_child controller function w root)))

  children_keeps : (controller : ℕ) (numbers : List ℕ) (children : List NewChild) (w : S) → is_root controller w → R level w (children_made o controller numbers children w).1
  unfolding children_made
  children_keeps controller [] children w root = kept.same level w
  children_keeps controller (number ∷ numbers) children w root =
      choose (λ (r : Result (List NewChild) Outcome × S). R level w r.1) (is_child_short o w) _ _ (kept.same level w)
      (kept.joined level _ _ _ (kept.moves level (pays CHILD_PRICE) w refl)
      (after_child_keeps (children_made o controller numbers) controller number children _ (λ children w root. children_keeps controller numbers children w root) (root_after_pay controller CHILD_PRICE w root)))

  -- ---- Start: option ROMs

  module _ (l : Level S) (kl : Keeps is_listable R level l) where
    images_keep : (device : ℕ) (files : List (List ℕ)) (images : List ℕ) (w : S) → R level w (images_loaded o l scope device files images w).1
    unfolding images_loaded
    images_keep device [] images w = kept.same level w
    images_keep device (file ∷ files) images w =
        kept.joined level _ _ _ (load_keeps o is_listable R kept level l kl scope file device w) (images_keep device files _ _)

    rom_keeps : (child : NewChild) (rom : Option (List ℕ)) (w : S) → R level w (rom_loaded o l scope child rom w)
    rom_keeps child None w = kept.same level w
    rom_keeps child (Some rom) w =
        let r : List ℕ × S = images_loaded o l scope child.handle (drivers_in rom) [] w in
        kept.joined level _ _ _ (images_keep child.handle (drivers_in rom) [] w) (kept.moves level (lists_images child.function r.0) r.1 refl)

    processed_keeps : (child : NewChild) (w : S) → R level w (rom_processed o l scope child w)
    unfolding rom_processed
    processed_keeps child w =
        choose (λ (v : S). R level w v) (not (is_live child.handle (o.see w).soft.database) || rom_done child.function (o.see w).soft) _ _ (kept.same level w)
        (rom_keeps child (rom_of child.function (o.see w).hard) w)

    roms_keep : (children : List NewChild) (w : S) → R level w (roms_processed o l scope children w)
    unfolding roms_processed
    roms_keep [] w = kept.same level w
    roms_keep (child ∷ children) w = kept.joined level _ _ _ (processed_keeps child w) (roms_keep children _)

  -- ---- Start

  below_last_keeps : (b : Option (Level S)) → KeepsBelow is_listable R level b → (children : List NewChild) (w : S) → R level w (below_last o b scope children w)
  below_last_keeps None k children w = kept.same level w
  below_last_keeps (Some l) kl children w = roms_keep l kl children w

  after_children_keeps : (result : Result (List NewChild) Outcome) (w : S) → R level w (after_children o b scope (result, w)).1
  after_children_keeps (Err outcome) w = kept.same level w
  after_children_keeps (Ok children) w = below_last_keeps b k children w

  supported_keeps : (controller : ℕ) (choice : Result (List ℕ) Status) (w : S) → ((numbers : List ℕ) → choice ≡ Ok numbers → IsSupported controller (o.see w))
      → R level w (if_supported o b scope controller choice w).1
  supported_keeps controller (Err status) w says = kept.same level w
  supported_keeps controller (Ok numbers) w says =
      let are : IsSupported controller (o.see w) = says numbers refl in
      let opened : S = o.make (opens_root controller) w in
      let r : Result (List NewChild) Outcome × S = children_made o controller numbers [] opened in
      choose_by (λ (x : Outcome × S). R level w x.1) (is_root_full controller (o.see w).soft) _ _ (λ full. kept.same level w)
      (λ room. kept.joined level _ _ _
      (kept.moves level (opens_root controller) w
      (and_from (is_some (root_bus controller (o.see w))) (may_enter (root_verdict controller (o.see w).soft) && not (is_root_full controller (o.see w).soft)) are.root
      (and_from (may_enter (root_verdict controller (o.see w).soft)) (not (is_root_full controller (o.see w).soft)) are.may (ap not room))))
      (kept.joined level _ _ _ (children_keeps controller numbers [] opened (root_after_open controller w are.root)) (after_children_keeps r.0 r.1)))

  pub start_keeps : (controller path : ℕ) (w : S) → R level w (bus_started o b scope controller path w).1
  unfolding bus_started
  start_keeps controller path w = supported_keeps controller (functions_chosen controller path (o.see w)) w (λ numbers is. is_supported controller path (o.see w) numbers is)

  -- ---- Stop

  freed_keep : (interfaces : List HandleInterface) (w : S) → R level w (blocks_freed o interfaces w)
  unfolding blocks_freed
  freed_keep [] w = kept.same level w
  freed_keep (i ∷ interfaces) w = kept.joined level _ _ _ (kept.moves level (frees i.interface) w refl) (freed_keep interfaces _)

  after_taking_keeps : (others : S → Outcome × S) (interfaces : List HandleInterface) (all : Bool) (w : S) → ((w : S) → R level w (others w).1)
      → R level w (after_taking o others interfaces (all, w)).1
  after_taking_keeps others interfaces true w keeps = kept.joined level _ _ _ (freed_keep interfaces w) (keeps _)
  after_taking_keeps others interfaces false w keeps = kept.same level w

  child_stopped_keeps : (others : S → Outcome × S) (controller child : ℕ) (w : S) → ((w : S) → R level w (others w).1)
      → R level w (child_stopped o settings b scope others controller child w).1
  child_stopped_keeps others controller child w keeps =
      let interfaces = interfaces_to_go child (o.see w).soft in
      let r : Bool × S = each_uninstalled o settings b scope TheFirmware interfaces w in
      choose (λ (x : Outcome × S). R level w x.1) (is_child_of controller child (o.see w)) _ _
      (kept.joined level _ _ _ (each_keeps o is_listable R kept settings level b k scope TheFirmware interfaces w (all_may_go child (o.see w).soft)) (after_taking_keeps others interfaces r.0 r.1 keeps))
      (kept.same level w)

  pub stop_keeps : (controller : ℕ) (children : List ℕ) (w : S) → R level w (bus_stopped o settings b scope controller children w).1
  unfolding bus_stopped
  stop_keeps controller [] w = kept.same level w
  stop_keeps controller (child ∷ children) w =
      choose (λ (x : Outcome × S). R level w x.1) (is_child_short o w) _ _ (kept.same level w)
      (kept.joined level _ _ _ (kept.moves level (pays CHILD_PRICE) w refl)
      (child_stopped_keeps (bus_stopped o settings b scope controller children) controller child _ (λ w. stop_keeps controller children w)))
