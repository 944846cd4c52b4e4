-- Each call goes down a level, or down the order of the functions at one level.
use Rattle.std.proofs.Common.{◌≡◌, ◌≤◌, ◌+◌, ◌*◌, false, [], length, drop}
use Rattle.world_model.specs.Marks.{stacks}
use Rattle.driver_model.specs.Moves.{plain}
use Rattle.driver_model.specs.BusDriver.{bus_stopped, images_loaded, roms_processed}
use Rattle.driver_model.specs.Connect.{asked, children_visited, search}
use Rattle.driver_model.specs.Disconnect.{stop_turns}
use Rattle.driver_model.specs.UninstallWithReconnection.{each_uninstalled}
use Rattle.driver_model.specs.GuestRun.{run}
use Rattle.driver_model.specs.declared.request.Remover.TheVariants.{ADriver}
use Rattle.driver_model.specs.Levels.{level_with}
use Rattle.engine.specs.AtLevel.{level_at, level_below}
use Rattle.engine.proofs.+engine.Given as goal

abbrev pub decreases-connection::connect_in_event : goal.decreases-connection::connect_in_event
decreases-connection::connect_in_event l = 32 * l.room + 1

abbrev pub decreases-disconnection::disconnect_in_event : goal.decreases-disconnection::disconnect_in_event
decreases-disconnection::disconnect_in_event l = 32 * l.room + 1

abbrev pub decreases-connection::connect : goal.decreases-connection::connect
decreases-connection::connect l = 32 * l.room + 2

abbrev pub decreases-disconnection::disconnect : goal.decreases-disconnection::disconnect
decreases-disconnection::disconnect l = 32 * l.room + 2

abbrev pub decreases-connection::visit_child : goal.decreases-connection::visit_child
decreases-connection::visit_child l = 32 * l.room + 3

abbrev pub decreases-thunk_call::call_thunk : goal.decreases-thunk_call::call_thunk
decreases-thunk_call::call_thunk l = 32 * l.room + 3

abbrev pub decreases-connection::visit_children : goal.decreases-connection::visit_children
decreases-connection::visit_children l = 32 * l.room + 4

abbrev pub decreases-connection::connect_children : goal.decreases-connection::connect_children
decreases-connection::connect_children l = 32 * l.room + 5

abbrev pub decreases-removal::remove : goal.decreases-removal::remove
decreases-removal::remove l = 32 * l.room + 3

abbrev pub decreases-uninstallation::release : goal.decreases-uninstallation::release
decreases-uninstallation::release l = 32 * l.room + 3

abbrev pub decreases-uninstallation::take_away : goal.decreases-uninstallation::take_away
decreases-uninstallation::take_away l = 32 * l.room + 3

abbrev pub decreases-uninstallation::uninstall_released : goal.decreases-uninstallation::uninstall_released
decreases-uninstallation::uninstall_released l = 32 * l.room + 4

abbrev pub decreases-uninstallation::uninstall : goal.decreases-uninstallation::uninstall
decreases-uninstallation::uninstall l = 32 * l.room + 5

abbrev pub decreases-uninstallation::uninstall_each : goal.decreases-uninstallation::uninstall_each
decreases-uninstallation::uninstall_each l = 32 * l.room + 6

abbrev pub decreases-uninstallation::uninstall_first : goal.decreases-uninstallation::uninstall_first
decreases-uninstallation::uninstall_first l = 32 * l.room + 5

abbrev pub decreases-uninstallation::uninstall_all : goal.decreases-uninstallation::uninstall_all
decreases-uninstallation::uninstall_all l = 32 * l.room + 6

abbrev pub decreases-uninstallation::uninstall_many : goal.decreases-uninstallation::uninstall_many
decreases-uninstallation::uninstall_many l = 32 * l.room + 7

abbrev pub decreases-native_call::reenter : goal.decreases-native_call::reenter
decreases-native_call::reenter l = 32 * l.room + 8

abbrev pub decreases-native_call::go_on : goal.decreases-native_call::go_on
decreases-native_call::go_on l = 32 * l.room + 9

abbrev pub decreases-native_call::call_service : goal.decreases-native_call::call_service
decreases-native_call::call_service l = 32 * l.room + 10

abbrev pub decreases-native_call::call_native : goal.decreases-native_call::call_native
decreases-native_call::call_native l = 32 * l.room + 11

abbrev pub decreases-guest_run::act : goal.decreases-guest_run::act
decreases-guest_run::act l = 32 * l.room + 12

abbrev pub decreases-guest_run::take_turn : goal.decreases-guest_run::take_turn
decreases-guest_run::take_turn l = 32 * l.room + 13

abbrev pub decreases-guest_run::run_code : goal.decreases-guest_run::run_code
decreases-guest_run::run_code l = 32 * l.room + 14

abbrev pub decreases-driver_call::run_on_stack : goal.decreases-driver_call::run_on_stack
decreases-driver_call::run_on_stack l = 32 * l.room + 15

abbrev pub decreases-driver_call::enter : goal.decreases-driver_call::enter
decreases-driver_call::enter l = 32 * l.room + 16

abbrev pub decreases-thunk_call::enter_thunk : goal.decreases-thunk_call::enter_thunk
decreases-thunk_call::enter_thunk l = 32 * l.room + 16

abbrev pub decreases-driver_call::call_driver : goal.decreases-driver_call::call_driver
decreases-driver_call::call_driver l = 32 * l.room + 17

abbrev pub decreases-search::ask : goal.decreases-search::ask
decreases-search::ask l = 32 * l.room + 18

abbrev pub decreases-stop_turn::stop_children : goal.decreases-stop_turn::stop_children
decreases-stop_turn::stop_children l = 32 * l.room + 18

abbrev pub decreases-stop_turn::stop_itself : goal.decreases-stop_turn::stop_itself
decreases-stop_turn::stop_itself l = 32 * l.room + 18

abbrev pub decreases-search::find : goal.decreases-search::find
decreases-search::find l = 32 * l.room + 19

abbrev pub decreases-stop_turn::stop_driver : goal.decreases-stop_turn::stop_driver
decreases-stop_turn::stop_driver l = 32 * l.room + 19

abbrev pub decreases-search::search : goal.decreases-search::search
decreases-search::search l = 32 * l.room + 20

abbrev pub decreases-stop_turn::take_stop_turn : goal.decreases-stop_turn::take_stop_turn
decreases-stop_turn::take_stop_turn l = 32 * l.room + 20

abbrev pub decreases-disconnection::stop_drivers : goal.decreases-disconnection::stop_drivers
decreases-disconnection::stop_drivers l = 32 * l.room + 21

-- ---- loops: doing what is left from here on gives the same as doing all of it; the marks and the stacks are as they
-- were

abbrev pub decreases-bus_driver::process_below_last : goal.decreases-bus_driver::process_below_last
decreases-bus_driver::process_below_last l = 32 * l.room + 1

abbrev pub decreases-bus_driver::start_bus : goal.decreases-bus_driver::start_bus
decreases-bus_driver::start_bus l = 32 * l.room + 2

abbrev pub decreases-bus_driver::take_child : goal.decreases-bus_driver::take_child
decreases-bus_driver::take_child l = 32 * l.room + 7

abbrev pub decreases-bus_driver::stop_bus : goal.decreases-bus_driver::stop_bus
decreases-bus_driver::stop_bus l = 32 * l.room + 8

abbrev pub decreases-image_load::lay_and_enter : goal.decreases-image_load::lay_and_enter
decreases-image_load::lay_and_enter l = 32 * l.room + 18

abbrev pub decreases-image_load::pay_and_enter : goal.decreases-image_load::pay_and_enter
decreases-image_load::pay_and_enter l = 32 * l.room + 19

abbrev pub decreases-image_load::load_image : goal.decreases-image_load::load_image
decreases-image_load::load_image l = 32 * l.room + 20

abbrev pub decreases-bus_driver::load_drivers : goal.decreases-bus_driver::load_drivers
decreases-bus_driver::load_drivers l = 32 * l.room + 21

abbrev pub decreases-bus_driver::process_rom : goal.decreases-bus_driver::process_rom
decreases-bus_driver::process_rom l = 32 * l.room + 22

abbrev pub decreases-bus_driver::process_roms : goal.decreases-bus_driver::process_roms
decreases-bus_driver::process_roms l = 32 * l.room + 23

abbrev pub invariant-guest_run::run_code-turns : goal.invariant-guest_run::run_code-turns
invariant-guest_run::run_code-turns l = record {
  rest :
      run plain l.settings (level_below l.settings l.room) l.scope (level_with l.room) l.cpu l.world.now
      ≡ run plain l.fn.settings (level_below l.fn.settings l.fn.room) l.fn.scope (level_with l.fn.room) l.fn.start l.fn.world.now;
  marks : l.world.marks ≡ l.fn.world.marks;
  stacks : stacks l.world.now.soft ≡ stacks l.fn.world.now.soft;
  units : l.world.now.hard.units ≤ l.fn.world.now.hard.units;
  events : length l.fn.world.now.hard.events ≤ length l.world.now.hard.events;
}

abbrev pub invariant-search::ask-loop-block : goal.invariant-search::ask-loop-block
invariant-search::ask-loop-block l = record {
  rest :
      asked plain (level_at l.settings l.room) l.scope l.c (drop l.block-index l.blocks) l.world.now
      ≡ asked plain (level_at l.fn.settings l.fn.room) l.fn.scope l.fn.c l.fn.blocks l.fn.world.now;
  marks : l.world.marks ≡ l.fn.world.marks;
  stacks : stacks l.world.now.soft ≡ stacks l.fn.world.now.soft;
  units : l.world.now.hard.units ≤ l.fn.world.now.hard.units;
  events : length l.fn.world.now.hard.events ≤ length l.world.now.hard.events;
}

abbrev pub invariant-connection::visit_children-loop-child : goal.invariant-connection::visit_children-loop-child
invariant-connection::visit_children-loop-child l = record {
  rest :
      children_visited plain (level_at l.settings l.room) l.scope (drop l.child-index l.children) l.world.now
      ≡ children_visited plain (level_at l.fn.settings l.fn.room) l.fn.scope l.fn.children l.fn.world.now;
  marks : l.world.marks ≡ l.fn.world.marks;
  stacks : stacks l.world.now.soft ≡ stacks l.fn.world.now.soft;
  units : l.world.now.hard.units ≤ l.fn.world.now.hard.units;
  events : length l.fn.world.now.hard.events ≤ length l.world.now.hard.events;
}

abbrev pub invariant-search::search-searches : goal.invariant-search::search-searches
invariant-search::search-searches l = record {
  rest :
      search plain l.settings (level_at l.settings l.room) l.scope l.c l.context l.marked l.any l.world.now
      ≡ search plain l.fn.settings (level_at l.fn.settings l.fn.room) l.fn.scope l.fn.c l.fn.context [] false l.fn.world.now;
  marks : l.world.marks ≡ l.fn.world.marks;
  stacks : stacks l.world.now.soft ≡ stacks l.fn.world.now.soft;
  units : l.world.now.hard.units ≤ l.fn.world.now.hard.units;
  events : length l.fn.world.now.hard.events ≤ length l.world.now.hard.events;
}

abbrev pub invariant-disconnection::stop_drivers-loop-agent : goal.invariant-disconnection::stop_drivers-loop-agent
invariant-disconnection::stop_drivers-loop-agent l = record {
  rest :
      stop_turns plain (level_at l.settings l.room) l.scope l.d (drop l.agent-index l.agents) (l.failed, l.stopped.items) l.world.now
      ≡ stop_turns plain (level_at l.fn.settings l.fn.room) l.fn.scope l.fn.d l.fn.agents (false, []) l.fn.world.now;
  marks : l.world.marks ≡ l.fn.world.marks;
  stacks : stacks l.world.now.soft ≡ stacks l.fn.world.now.soft;
  units : l.world.now.hard.units ≤ l.fn.world.now.hard.units;
  events : length l.fn.world.now.hard.events ≤ length l.world.now.hard.events;
}

abbrev pub invariant-uninstallation::uninstall_each-loop-i : goal.invariant-uninstallation::uninstall_each-loop-i
invariant-uninstallation::uninstall_each-loop-i l = record {
  rest :
      each_uninstalled plain l.settings (level_below l.settings l.room) l.scope l.remover (drop l.i-index l.interfaces) l.world.now
      ≡ each_uninstalled plain l.fn.settings (level_below l.fn.settings l.fn.room) l.fn.scope l.fn.remover l.fn.interfaces l.fn.world.now;
  marks : l.world.marks ≡ l.fn.world.marks;
  stacks : stacks l.world.now.soft ≡ stacks l.fn.world.now.soft;
  units : l.world.now.hard.units ≤ l.fn.world.now.hard.units;
  events : length l.fn.world.now.hard.events ≤ length l.world.now.hard.events;
}

abbrev pub invariant-uninstallation::uninstall_all-loop-at : goal.invariant-uninstallation::uninstall_all-loop-at
invariant-uninstallation::uninstall_all-loop-at l = record {
  rest :
      each_uninstalled plain l.settings (level_below l.settings l.room) l.scope ADriver (drop l.at l.interfaces) l.world.now
      ≡ each_uninstalled plain l.fn.settings (level_below l.fn.settings l.fn.room) l.fn.scope ADriver l.fn.interfaces l.fn.world.now;
  marks : l.world.marks ≡ l.fn.world.marks;
  stacks : stacks l.world.now.soft ≡ stacks l.fn.world.now.soft;
  units : l.world.now.hard.units ≤ l.fn.world.now.hard.units;
  events : length l.fn.world.now.hard.events ≤ length l.world.now.hard.events;
}

abbrev pub invariant-bus_driver::process_roms-loop-new_child : goal.invariant-bus_driver::process_roms-loop-new_child
invariant-bus_driver::process_roms-loop-new_child l = record {
  rest :
      roms_processed plain (level_at l.settings l.room) l.scope (drop l.new_child-index l.children) l.world.now
      ≡ roms_processed plain (level_at l.fn.settings l.fn.room) l.fn.scope l.fn.children l.fn.world.now;
  marks : l.world.marks ≡ l.fn.world.marks;
  stacks : stacks l.world.now.soft ≡ stacks l.fn.world.now.soft;
  units : l.world.now.hard.units ≤ l.fn.world.now.hard.units;
  events : length l.fn.world.now.hard.events ≤ length l.world.now.hard.events;
}

abbrev pub invariant-bus_driver::load_drivers-loop-file : goal.invariant-bus_driver::load_drivers-loop-file
invariant-bus_driver::load_drivers-loop-file l = record {
  rest :
      images_loaded plain (level_at l.settings l.room) l.scope l.device (drop l.file-index l.files) l.images.items l.world.now
      ≡ images_loaded plain (level_at l.fn.settings l.fn.room) l.fn.scope l.fn.device l.fn.files [] l.fn.world.now;
  marks : l.world.marks ≡ l.fn.world.marks;
  stacks : stacks l.world.now.soft ≡ stacks l.fn.world.now.soft;
  units : l.world.now.hard.units ≤ l.fn.world.now.hard.units;
  events : length l.fn.world.now.hard.events ≤ length l.world.now.hard.events;
}

abbrev pub invariant-bus_driver::stop_bus-loop-child : goal.invariant-bus_driver::stop_bus-loop-child
invariant-bus_driver::stop_bus-loop-child l = record {
  rest :
      bus_stopped plain l.settings (level_below l.settings l.room) l.scope l.controller (drop l.child-index l.children) l.world.now
      ≡ bus_stopped plain l.fn.settings (level_below l.fn.settings l.fn.room) l.fn.scope l.fn.controller l.fn.children l.fn.world.now;
  marks : l.world.marks ≡ l.fn.world.marks;
  stacks : stacks l.world.now.soft ≡ stacks l.fn.world.now.soft;
  units : l.world.now.hard.units ≤ l.fn.world.now.hard.units;
  events : length l.fn.world.now.hard.events ≤ length l.world.now.hard.events;
}

-- each turn after which the run goes on costs units, and so does each search that finds a driver
abbrev pub decreases-guest_run::run_code-turns : goal.decreases-guest_run::run_code-turns
decreases-guest_run::run_code-turns l = l.world.now.hard.units

abbrev pub decreases-search::search-searches : goal.decreases-search::search-searches
decreases-search::search-searches l = l.world.now.hard.units
