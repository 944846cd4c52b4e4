-- The firmware's PCI bus driver, whose functions are native code (UEFI 2.8, 11.1: EFI Driver Binding Protocol; 14.3.2: PCI
-- Bus Drivers). What Supported answers is in BusSupport.
--
-- The rules of Start, in their order:
--  1. If the controller is not supported, Start answers as Supported does. Otherwise it opens root bridge I/O BY_DRIVER, or
--     answers OUT_OF_RESOURCES if there can be no more open records (`unless_full`).
--  2. Each function that is chosen costs 16 units, or Start traps with Budget. It becomes a new handle with a device path,
--     with PCI I/O and, if it has an option ROM, with the bus specific driver override. Root bridge I/O is opened
--     BY_CHILD_CONTROLLER for the handle. OUT_OF_RESOURCES at a limit (`children_made`).
--  3. Unless this is the last level, the new children are taken in turn for their option ROMs. A child is passed over if
--     it is not live at its turn, or if its function has no option ROM or one that was processed. Otherwise the drivers
--     of the option ROM are loaded in order, with the child as their device. Those that stay loaded are the bus list of
--     the function, and its option ROM is processed then (`roms_processed`).
--  4. SUCCESS.
--
-- The rules of Stop, which takes its children in turn:
--  1. Each child costs 16 units, or Stop traps with Budget.
--  2. DEVICE_ERROR if the handle is no child of the bus below this root bridge (`child_stopped`).
--  3. Its PCI I/O, its device path and its bus specific driver override are uninstalled by the rules of
--     UninstallProtocolInterface, for the firmware. DEVICE_ERROR at the first that is not (`after_taking`).
--  4. Their blocks are freed (`blocks_freed`).
--  5. SUCCESS after the last child.
use Rattle.std.specs.Prelude.{ℕ, Bool, true, false, not, ◌||◌, nat_lt, List, [], ◌∷◌, ◌++◌, Option, Some, None, Result, Ok, Err, if◌then◌else◌}
use Rattle.fw_types.specs.declared.event.Cause.TheVariants.{Budget}
use Rattle.fw_types.specs.declared.event.Outcome.{Outcome}
use Rattle.fw_types.specs.declared.event.Outcome.TheVariants.{Value, Trapped}
use Rattle.fw_types.specs.declared.image.ImageNote.{ImageNote}
use Rattle.fw_types.specs.declared.image.ImageNote.TheVariants as note
use Rattle.fw_types.specs.declared.status.Status.{Status}
use Rattle.fw_types.specs.declared.status.TheConstants.Status.{DEVICE_ERROR, OUT_OF_RESOURCES, SUCCESS}
use Rattle.handle_db.specs.Database.{is_live}
use Rattle.world_model.specs.Boards.{rom_of}
use Rattle.world_model.specs.BusChildren.{rom_done}
use Rattle.service_model.specs.declared.call.HandleInterface.{HandleInterface}
use Rattle.driver_model.specs.Moves.{Operations, adds_child, frees, lists_images, opens_root, pays}
use Rattle.driver_model.specs.Level.{Level}
use Rattle.driver_model.specs.BusSupport.{functions_chosen}
use Rattle.driver_model.specs.BusChildren.{interfaces_to_go, is_bus_child_full, is_child_of, is_root_full}
use Rattle.driver_model.specs.ImageLife.{Load, image_loaded}
use Rattle.driver_model.specs.RomDrivers.{drivers_in}
use Rattle.driver_model.specs.UninstallWithReconnection.{each_uninstalled}
use Rattle.driver_model.specs.declared.bus_driver.NewChild.{NewChild}
use Rattle.driver_model.specs.declared.bus_driver.TheConstants.{CHILD_PRICE}
use Rattle.driver_model.specs.declared.call.Scope.{Scope}
use Rattle.driver_model.specs.declared.request.Remover.TheVariants.{TheFirmware}
use Rattle.driver_model.specs.declared.settings.Settings.{Settings}

module _ {S : Type 0} (o : Operations S) where
  -- whether fewer units are left than a child costs
  abbrev pub is_child_short : S → Bool
  is_child_short w = nat_lt (o.see w).hard.units CHILD_PRICE

  -- ---- Start, rule 2: children

  abbrev pub after_child : (List NewChild → S → Result (List NewChild) Outcome × S) → (controller function : ℕ) → List NewChild → S
      → Result (List NewChild) Outcome × S
  after_child others controller function children w =
      if is_bus_child_full controller function (o.see w) then (Err (Value OUT_OF_RESOURCES), w)
      else others (children ++ record { handle = (o.see w).soft.database.next; function = function } ∷ []) (o.make (adds_child controller function) w)

  -- the children of these functions, after earlier ones; they are made in the order of their functions
  unfoldable pub children_made : (controller : ℕ) → (numbers : List ℕ) → List NewChild → S → Result (List NewChild) Outcome × S
  children_made controller [] children w = (Ok children, w)
  children_made controller (number ∷ numbers) children w =
      if is_child_short w then (Err (Trapped Budget), w)
      else after_child (children_made controller numbers) controller number children (o.make (pays CHILD_PRICE) w)

  -- ---- Start, rule 3: option ROMs

  -- the images so far, with the image of a load if it succeeded
  abbrev pub with_loaded : List ℕ → ImageNote → List ℕ
  with_loaded images (note.Loaded image) = images ++ image ∷ []
  with_loaded images (note.Failed status) = images
  with_loaded images (note.Refused refusal) = images
  with_loaded images note.Compressed = images
  with_loaded images note.Skipped = images

  abbrev pub after_load : (List ℕ → S → List ℕ × S) → List ℕ → Load S → List ℕ × S
  after_load others images load = others (with_loaded images load.note) load.world

  -- the images that stay loaded, of drivers that are loaded in order
  unfoldable pub images_loaded : Level S → Scope → (device : ℕ) → (files : List (List ℕ)) → (images : List ℕ) → S → List ℕ × S
  images_loaded below scope device [] images w = (images, w)
  images_loaded below scope device (file ∷ files) images w =
      after_load (images_loaded below scope device files) images (image_loaded o below scope file device w)

  abbrev pub list_kept : (function : ℕ) → List ℕ × S → S
  list_kept function r = o.make (lists_images function r.0) r.1

  abbrev pub rom_loaded : Level S → Scope → NewChild → (rom : Option (List ℕ)) → S → S
  rom_loaded below scope child None w = w
  rom_loaded below scope child (Some rom) w = list_kept child.function (images_loaded below scope child.handle (drivers_in rom) [] w)

  unfoldable pub rom_processed : Level S → Scope → NewChild → S → S
  rom_processed below scope child w =
      if not (is_live child.handle (o.see w).soft.database) || rom_done child.function (o.see w).soft then w
      else rom_loaded below scope child (rom_of child.function (o.see w).hard) w

  unfoldable pub roms_processed : Level S → Scope → List NewChild → S → S
  roms_processed below scope [] w = w
  roms_processed below scope (child ∷ children) w = roms_processed below scope children (rom_processed below scope child w)

  -- at the last level no driver is loaded
  abbrev pub below_last : Option (Level S) → Scope → List NewChild → S → S
  below_last None scope children w = w
  below_last (Some below) scope children w = roms_processed below scope children w

  -- ---- Start, all rules

  abbrev pub after_children : Option (Level S) → Scope → Result (List NewChild) Outcome × S → Outcome × S
  after_children below scope (Err outcome, w) = (outcome, w)
  after_children below scope (Ok children, w) = (Value SUCCESS, below_last below scope children w)

  abbrev pub unless_full : Option (Level S) → Scope → (controller : ℕ) → (numbers : List ℕ) → S → Outcome × S
  unless_full below scope controller numbers w =
      if is_root_full controller (o.see w).soft then (Value OUT_OF_RESOURCES, w)
      else after_children below scope (children_made controller numbers [] (o.make (opens_root controller) w))

  abbrev pub if_supported : Option (Level S) → Scope → (controller : ℕ) → Result (List ℕ) Status → S → Outcome × S
  if_supported below scope controller (Err status) w = (Value status, w)
  if_supported below scope controller (Ok numbers) w = unless_full below scope controller numbers w

  unfoldable pub bus_started : Option (Level S) → Scope → (controller path : ℕ) → S → Outcome × S
  bus_started below scope controller path w = if_supported below scope controller (functions_chosen controller path (o.see w)) w

  -- ---- Stop, rule 4

  unfoldable pub blocks_freed : List HandleInterface → S → S
  blocks_freed [] w = w
  blocks_freed (i ∷ interfaces) w = blocks_freed interfaces (o.make (frees i.interface) w)

  -- ---- Stop, all rules

  abbrev pub after_taking : (S → Outcome × S) → List HandleInterface → Bool × S → Outcome × S
  after_taking others interfaces (true, w) = others (blocks_freed interfaces w)
  after_taking others interfaces (false, w) = (Value DEVICE_ERROR, w)

  abbrev pub child_stopped : Settings → Option (Level S) → Scope → (S → Outcome × S) → (controller child : ℕ) → S → Outcome × S
  child_stopped settings below scope others controller child w =
      if is_child_of controller child (o.see w)
      then after_taking others (interfaces_to_go child (o.see w).soft)
      (each_uninstalled o settings below scope TheFirmware (interfaces_to_go child (o.see w).soft) w)
      else (Value DEVICE_ERROR, w)

  unfoldable pub bus_stopped : Settings → Option (Level S) → Scope → (controller : ℕ) → (children : List ℕ) → S → Outcome × S
  bus_stopped settings below scope controller [] w = (Value SUCCESS, w)
  bus_stopped settings below scope controller (child ∷ children) w =
      if is_child_short w then (Trapped Budget, w)
      else child_stopped settings below scope (bus_stopped settings below scope controller children) controller child (o.make (pays CHILD_PRICE) w)
