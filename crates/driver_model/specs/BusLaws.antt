-- What holds whenever the PCI bus driver changes the state, because of the tests that come before.
use Rattle.std.specs.Prelude.{◌≡◌, ℕ, true, false, Ok, Err, List, is_some}
use Rattle.std.specs.List.{list_all}
use Rattle.fw_types.specs.Guid.{known_guid}
use Rattle.fw_types.specs.declared.attr.TheConstants.Attr.{BY_CHILD_CONTROLLER, BY_DRIVER}
use Rattle.fw_types.specs.declared.guid.Known.TheVariants.{RootBridgeIo}
use Rattle.fw_types.specs.declared.status.TheConstants.Status.{UNSUPPORTED}
use Rattle.handle_db.specs.Database.{interface_of, is_live}
use Rattle.open_records.specs.OpenRecords.{records_of}
use Rattle.open_records.specs.Verdicts.{judge, may_enter}
use Rattle.world_model.specs.World.{Soft, State}
use Rattle.world_model.specs.Boards.{root_bus}
use Rattle.world_model.specs.Interfaces.{bus_driver}
use Rattle.world_model.specs.Kept.{IsKept}
use Rattle.world_model.specs.NewChild.{child_made}
use Rattle.service_model.specs.declared.call.HandleInterface.{HandleInterface}
use Rattle.driver_model.specs.Allowed.{may_go}
use Rattle.driver_model.specs.BusChildren.{bus_child_made, interfaces_to_go, is_bus_child_full, is_child_of, is_root_record_full}
use Rattle.driver_model.specs.BusSupport.{functions_chosen, root_verdict}
use Rattle.driver_model.specs.declared.request.Remover.TheVariants.{TheFirmware, ADriver}

-- a controller that is supported is a root bridge, and the bus driver may open it
pub record IsSupported (controller : ℕ) (w : State) : Type 0 where
  pub root : is_some (root_bus controller w) ≡ true
  pub may : may_enter (root_verdict controller w.soft) ≡ true

abbrev pub SupportedIsRoot : Type 0
SupportedIsRoot =
    (controller path : ℕ) (w : State) (numbers : List ℕ) → functions_chosen controller path w ≡ Ok numbers → IsSupported controller w

-- what an open of root bridge I/O by the bus driver, for a handle, needs besides room for its record
pub record CanBeOpened (controller child attr : ℕ) (soft : Soft) : Type 0 where
  pub there : is_some (interface_of controller (known_guid RootBridgeIo) soft.database) ≡ true
  pub agent : is_live bus_driver soft.database ≡ true
  pub live : is_live child soft.database ≡ true
  pub may : may_enter (judge (records_of soft.records.entries controller (known_guid RootBridgeIo)) bus_driver child attr) ≡ true

-- a controller that is supported can be opened for itself
abbrev pub RootCanBeOpened : Type 0
RootCanBeOpened =
    (controller : ℕ) (w : State) → IsKept w.soft → IsSupported controller w → CanBeOpened controller controller BY_DRIVER w.soft

-- A root bridge can be opened for a child that is made, if no limit is met. There is room for the record, and the root
-- bridge is still one.
pub record ChildIsIn (controller function : ℕ) (w : State) : Type 0 where
  pub can : CanBeOpened controller w.soft.database.next BY_CHILD_CONTROLLER (child_made controller function w).soft
  pub room : is_root_record_full controller w.soft.database.next BY_CHILD_CONTROLLER (child_made controller function w).soft ≡ false
  pub root : is_some (root_bus controller (bus_child_made controller function w)) ≡ true

abbrev pub ChildCanBeIn : Type 0
ChildCanBeIn =
    (controller function : ℕ) (w : State) → IsKept w.soft → is_some (root_bus controller w) ≡ true → is_bus_child_full controller function w ≡ false
    → ChildIsIn controller function w

-- a handle that is not live is no root bridge, and no child of one
abbrev pub DeadIsUnsupported : Type 0
DeadIsUnsupported =
    (controller path : ℕ) (w : State) → is_live controller w.soft.database ≡ false → functions_chosen controller path w ≡ Err UNSUPPORTED

abbrev pub DeadIsNoChild : Type 0
DeadIsNoChild = (controller child : ℕ) (w : State) → IsKept w.soft → is_live child w.soft.database ≡ false → is_child_of controller child w ≡ false

-- what Stop uninstalls is of protocols that have no lasting interfaces
abbrev pub AllMayGo : Type 0
AllMayGo = (child : ℕ) (soft : Soft) → list_all (may_go TheFirmware) (interfaces_to_go child soft) ≡ true

-- a driver may ask for the uninstall of any interface
abbrev pub DriversMayUninstall : Type 0
DriversMayUninstall = (interfaces : List HandleInterface) → list_all (may_go ADriver) interfaces ≡ true
