-- The moves of a machine: each change that activations, driver calls and runs make, as a word. The definitions of this
-- crate say which moves are made, and in what order. They leave open what a machine is made of. So the same text
-- applies to the state alone, and to a state with the history of its moves.
use Rattle.std.specs.Prelude.{ℕ, List}
use Rattle.fw_types.specs.declared.event.EventKind.{EventKind}
use Rattle.fw_types.specs.declared.event.Outcome.{Outcome}
use Rattle.ebc_machine.specs.Step.{stepped}
use Rattle.ebc_machine.specs.declared.cpu.Cpu.{Cpu}
use Rattle.service_thunks.specs.declared.service.Service.{Service}
use Rattle.world_model.specs.World.{Soft, State, on_hard, on_soft, with_memory, with_tpl}
use Rattle.world_model.specs.Units.{units_capped, units_returned, units_spent}
use Rattle.world_model.specs.Events.{event_begun, event_ended}
use Rattle.world_model.specs.Stacks.{stack_popped, stack_pushed}
use Rattle.world_model.specs.Thunks.{thunk_made}
use Rattle.world_model.specs.Interfaces.{interface_removed}
use Rattle.world_model.specs.Records.{all_left, child_left, weak_dropped}
use Rattle.world_model.specs.Images.{image_added}
use Rattle.world_model.specs.BusChildren.{with_bus_list}
use Rattle.service_model.specs.BootServices.{served}
use Rattle.service_model.specs.Changes.{number_stored}
use Rattle.service_model.specs.SecondLook.{looked_again}
use Rattle.service_model.specs.declared.call.Caller.{Caller}
use Rattle.service_model.specs.declared.call.Opening.{Opening}
use Rattle.driver_model.specs.BusChildren.{bus_child_made, firmware_block_freed, root_opened}
use Rattle.world_model.specs.ImageSweep.{image_swept}

pub data Move : Type 0 where
  -- units: a price is spent; no more than so many are left for a while; what was set aside comes back
  pays : (price : ℕ) → Move
  caps : (most : ℕ) → Move
  returns : (aside : ℕ) → Move
  -- events
  begins_event : (parent : ℕ) → EventKind → (driver controller extra : ℕ) → Move
  ends_event : (serial : ℕ) → Outcome → Move
  -- code: a step; a service; the second look of an open; a thunk that is made, with its address stored
  steps : Cpu → Move
  serves : Service → Caller → Move
  looks_again : Opening → Move
  makes_thunk : (place entry at : ℕ) → Move
  -- the stack of a driver call or of a thunk
  pushes : (level : ℕ) → (slots children : List ℕ) → Move
  pops : (level : ℕ) → Move
  -- the end of a driver call: the task priority level that was there before, and an undo
  sets_tpl : ℕ → Move
  puts_back : Soft → Move
  -- open records and interfaces
  closes_all : (controller agent : ℕ) → Move
  closes_child : (controller agent child : ℕ) → Move
  drops_weak : (handle : ℕ) → List ℕ → Move
  uninstalls : (handle : ℕ) → List ℕ → Move
  -- images: one is added; one is removed, with all that belongs to it
  adds_image : (bytes : List ℕ) → (entry subsystem device : ℕ) → Move
  drops_all : (image : ℕ) → Move
  -- the bus driver: it opens root bridge I/O; a child is made for a function; the images of an option ROM become the bus list
  -- of its function; a block of the firmware is freed, if one begins at the address
  opens_root : (controller : ℕ) → Move
  adds_child : (controller function : ℕ) → Move
  lists_images : (function : ℕ) → (images : List ℕ) → Move
  frees : (at : ℕ) → Move

-- what a move makes of a state
abbrev pub changed : Move → State → State
changed (pays price) w = on_hard (units_spent price) w
changed (caps most) w = on_hard (units_capped most) w
changed (returns aside) w = on_hard (units_returned aside) w
changed (begins_event parent kind driver controller extra) w = on_hard (event_begun parent kind driver controller extra) w
changed (ends_event serial outcome) w = on_hard (event_ended serial outcome) w
changed (steps cpu) w = on_soft (with_memory (stepped cpu w.soft.memory).segments) w
changed (serves service caller) w = (served service caller w).1
changed (looks_again opening) w = (looked_again opening w).1
changed (makes_thunk place entry at) w = number_stored place at (on_soft (thunk_made entry) w)
changed (pushes level slots children) w = on_soft (stack_pushed level slots children) w
changed (pops level) w = on_soft (stack_popped level) w
changed (sets_tpl tpl) w = on_soft (with_tpl tpl) w
changed (puts_back before) w = record w { soft = before }
changed (closes_all controller agent) w = on_soft (all_left controller agent) w
changed (closes_child controller agent child) w = on_soft (child_left controller agent child) w
changed (drops_weak handle guid) w = on_soft (weak_dropped handle guid) w
changed (uninstalls handle guid) w = on_soft (interface_removed handle guid) w
changed (adds_image bytes entry subsystem device) w = on_soft (image_added bytes entry subsystem device) w
changed (drops_all image) w = on_soft (image_swept image) w
changed (opens_root controller) w = on_soft (root_opened controller) w
changed (adds_child controller function) w = bus_child_made controller function w
changed (lists_images function images) w = on_soft (with_bus_list function images) w
changed (frees at) w = on_soft (firmware_block_freed at) w

-- how the state of a machine is seen, and how it makes a move
pub record Operations (S : Type 0) : Type 0 where
  pub see : S → State
  pub make : Move → S → S

-- the state alone
abbrev pub plain : Operations State
plain = record { see = λ w. w; make = changed }
