-- What holds whenever the PCI bus driver changes the state, because of the tests that come before.
use Rattle.std.proofs.Common.{◌≡◌, ℕ, true, false, [], ◌∷◌, Option, Some, None, refl, ap, ◌∙◌}
use Rattle.std.specs.Prelude.{is_some}
use Rattle.fw_types.specs.Guid.{known_guid}
use Rattle.fw_types.specs.declared.guid.Known.TheVariants.{PciIo}
use Rattle.handle_db.specs.Database.{is_live}
use Rattle.world_model.specs.World.{State}
use Rattle.world_model.specs.Boards.{has_root_bridge_io, root_bus}
use Rattle.world_model.specs.BusChildren.{child_function}
use Rattle.world_model.specs.Kept.{IsKept}
use Rattle.world_model.proofs.ChildLaws.{function_is_of_child}
use Rattle.driver_model.specs.BusChildren.{is_below}
use Rattle.driver_model.specs.BusLaws.{ChildCanBeIn, DeadIsNoChild, DeadIsUnsupported, DriversMayUninstall, RootCanBeOpened}
use Rattle.driver_model.specs.BusSupport.{chosen_on, functions_chosen, path_choice}
use Rattle.driver_model.proofs.BusMoves.{bus_driver_live, new_child, root_live}
use Rattle.driver_model.proofs.RootBridges.{has_root, is_root_io, root_stays}
use Rattle.driver_model.proofs.WhatSweepsLeave.{live_with}

pub root_can_be_opened : RootCanBeOpened
root_can_be_opened controller w kept is =
    let io : has_root_bridge_io controller w.soft.database ≡ true = is_root_io controller w is.root in
    record {
      there = has_root controller w.soft.database io;
      agent = bus_driver_live w.soft kept;
      live = root_live controller w.soft.database io;
      may = is.may;
    }

pub child_can_be_in : ChildCanBeIn
child_can_be_in controller function w kept root room =
    let new = new_child controller function w kept root room in
    record { can = new.can; room = new.room; root = root_stays controller function w root }

-- ---- handles that are not live

no_bus : (controller : ℕ) (w : State) → is_live controller w.soft.database ≡ false → (bus : Option ℕ) → root_bus controller w ≡ bus → bus ≡ None
no_bus controller w dead None is = refl
no_bus controller w dead (Some bus) is =
    let live : is_live controller w.soft.database ≡ true = root_live controller w.soft.database (is_root_io controller w (ap is_some is)) in
    absurd cc

pub dead_is_unsupported : DeadIsUnsupported
unfolding functions_chosen
dead_is_unsupported controller path w dead =
    ap (λ (bus : Option ℕ). chosen_on bus (path_choice path w.soft) controller w) (no_bus controller w dead (root_bus controller w) refl)

below_bus : (bus : Option ℕ) (w : State) → is_below bus None w ≡ false
below_bus None w = refl
below_bus (Some bus) w = refl

no_function : (child : ℕ) (w : State) → IsKept w.soft → is_live child w.soft.database ≡ false → (function : Option ℕ) → child_function child w.soft ≡ function → function ≡ None
no_function child w kept dead None is = refl
no_function child w kept dead (Some function) is =
    let found = function_is_of_child w.soft child function kept is in
    let live : is_live child w.soft.database ≡ true = live_with child (known_guid PciIo) w.soft.database (ap is_some found.1.pci_io) in
    absurd cc

pub dead_is_no_child : DeadIsNoChild
dead_is_no_child controller child w kept dead =
    ap (λ (function : Option ℕ). is_below (root_bus controller w) function w) (no_function child w kept dead (child_function child w.soft) refl)
    ∙ below_bus (root_bus controller w) w

pub drivers_may_uninstall : DriversMayUninstall
drivers_may_uninstall [] = refl
drivers_may_uninstall (i ∷ interfaces) = drivers_may_uninstall interfaces
