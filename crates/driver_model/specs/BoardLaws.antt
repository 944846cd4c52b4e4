-- What no chain of moves changes: the lines of the board, the option ROMs of its functions, and how many bus lists there are.
use Rattle.std.specs.Prelude.{◌≡◌, length}
use Rattle.world_model.specs.World.{State}
use Rattle.world_model.specs.ChildLaws.{HasBusLists}
use Rattle.driver_model.specs.Chains.{Chain}

pub record HasSameBoard (old new : State) : Type 0 where
  pub lines : new.hard.board.lines ≡ old.hard.board.lines
  pub roms : new.hard.roms ≡ old.hard.roms
  pub lists : length new.soft.bus_lists ≡ length old.soft.bus_lists

abbrev pub BoardStays : Type 0
BoardStays = (first last : State) → Chain first last → HasSameBoard first last

-- so there is still one bus list for each function of the board
abbrev pub BusListsStay : Type 0
BusListsStay = (first last : State) → Chain first last → HasBusLists first → HasBusLists last
