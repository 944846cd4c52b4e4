use Rattle.std.proofs.Common.{length, refl, sym, subst}
use Rattle.pci_model.specs.BoardLines.{roots}
use Rattle.world_model.specs.Boards.{roms_in}
use Rattle.bind_engine.specs.Machine.{IsIdle}
use Rattle.bind_engine.proofs.machine.Machine.boot.Goals as goal

pub invariant_of-machine : goal.invariant_of-machine
invariant_of-machine g c = (
  subst IsIdle (sym c.in_ok-new.ensures) (record {
    rest = c.rest_is_free.ensures.opening c.args.board (roms_in c.in_ok-roms.field-0.roms.items);
    no_path = c.command_paths_fit.ensures.opening (length (roms_in c.in_ok-roms.field-0.roms.items)) (roots c.args.board.lines);
  }),
  refl,
)
