-- What must hold of the state for a move to be made. The definitions make no other moves: wherever one is made, the
-- tests right before it ensure this.
use Rattle.std.specs.Prelude.{ℕ, Bool, true, false, ◌&&◌, ◌||◌, not, nat_eq, nat_lt, is_ok, is_some, bytes_eq, List, length}
use Rattle.fw_types.specs.Guid.{known_guid}
use Rattle.fw_types.specs.declared.guid.Known.TheVariants.{DriverBinding, LoadedImage as LoadedImageProtocol}
use Rattle.guest_memory.specs.GuestMemory.{is_writable_range}
use Rattle.handle_db.specs.Database.{interface_of}
use Rattle.world_model.specs.World.{State}
use Rattle.world_model.specs.Images.{image_at, is_image_full}
use Rattle.world_model.specs.Thunks.{thunk_answer}
use Rattle.open_records.specs.Verdicts.{may_enter}
use Rattle.world_model.specs.Boards.{root_bus}
use Rattle.service_model.specs.Allowed.{is_of_image}
use Rattle.service_model.specs.declared.call.HandleInterface.{HandleInterface}
use Rattle.driver_model.specs.BusChildren.{is_bus_child_full, is_root_full}
use Rattle.driver_model.specs.BusSupport.{root_verdict}
use Rattle.driver_model.specs.Moves.{Move, adds_child, adds_image, begins_event, caps, closes_all, closes_child, drops_all, drops_weak, ends_event, frees, lists_images, looks_again, makes_thunk, opens_root, pays, pops, pushes, puts_back, returns, serves, sets_tpl, steps, uninstalls}
use Rattle.driver_model.specs.declared.request.Remover.{Remover}
use Rattle.driver_model.specs.declared.request.Remover.TheVariants.{TheFirmware, ADriver}

-- a protocol of which some interfaces are never uninstalled: the loaded images, and the bus driver's binding
abbrev pub has_lasting_interfaces : (guid : List ℕ) → Bool
has_lasting_interfaces guid = bytes_eq guid (known_guid LoadedImageProtocol) || bytes_eq guid (known_guid DriverBinding)

-- The firmware uninstalls no interface of such a protocol, and a driver uninstalls none of the firmware's
-- (`is_still_there`).
abbrev pub may_go : Remover → HandleInterface → Bool
may_go TheFirmware i = not (has_lasting_interfaces i.guid)
may_go ADriver i = true

-- whether a move can be made by itself; those that come in pairs can't
abbrev pub is_allowed : Move → State → Bool
is_allowed (pays price) w = true
is_allowed (caps most) w = false
is_allowed (returns aside) w = false
is_allowed (begins_event parent kind driver controller extra) w = false
is_allowed (ends_event serial outcome) w = true
is_allowed (steps cpu) w = true
is_allowed (serves service caller) w = true
is_allowed (looks_again opening) w = true
-- the address of the thunk can be stored, its entry lies in an image, and a thunk number is left
is_allowed (makes_thunk place entry at) w =
    is_writable_range w.soft.memory place 8 && (is_some (image_at entry w.soft) && is_ok (thunk_answer w.soft))
is_allowed (pushes level slots children) w = false
is_allowed (pops level) w = false
is_allowed (sets_tpl tpl) w = true
is_allowed (puts_back before) w = false
is_allowed (closes_all controller agent) w = true
is_allowed (closes_child controller agent child) w = true
is_allowed (drops_weak handle guid) w = true
-- the interface is an image's, or its protocol has no lasting interfaces
is_allowed (uninstalls handle guid) w = is_of_image (interface_of handle guid w.soft.database) || not (has_lasting_interfaces guid)
-- there is room for the image, and its entry is inside
is_allowed (adds_image bytes entry subsystem device) w = nat_lt entry (length bytes) && not (is_image_full (length bytes) w.soft)
is_allowed (drops_all image) w = true
-- the controller is a root bridge, the bus driver may open it, and there is room for the record
is_allowed (opens_root controller) w =
    is_some (root_bus controller w) && (may_enter (root_verdict controller w.soft) && not (is_root_full controller w.soft))
-- the controller is a root bridge, and no limit is met
is_allowed (adds_child controller function) w = is_some (root_bus controller w) && not (is_bus_child_full controller function w)
is_allowed (lists_images function images) w = true
is_allowed (frees at) w = true

-- whether a move drops an image
abbrev pub is_unload : Move → Bool
is_unload (drops_all image) = true
is_unload other = false

-- what driver calls, runs and activations can do: they unload no image
abbrev pub is_allowed_in_calls : Move → State → Bool
is_allowed_in_calls move w = not (is_unload move) && is_allowed move w

-- a driver call has sixteen arguments
abbrev pub has_sixteen : (slots : List ℕ) → Bool
has_sixteen slots = nat_eq (length slots) 16
