use Rattle.driver_model.proofs.BoardLaws.{board_stays, bus_lists_stay}
use Rattle.driver_model.proofs.call_laws.boards_stay.Goals as goal

pub returns : goal.returns
returns c = record { board = board_stays; lists = bus_lists_stay }
