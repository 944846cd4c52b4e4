use Rattle.std.proofs.Common.{ℕ, List, Option, Some, sym, ap, ◌∙◌}
use Rattle.std.specs.Prelude.{option_map}
use Rattle.std.specs.declared.vec.Vec.{Vec}
use Rattle.std.specs.declared.alloc.Global.{Global}
use Rattle.std.proofs.lemmas.List.{map-set}
use Rattle.world_model.specs.Boards.{roms_in}
use Rattle.bind_engine.specs.BootLines.{with_rom}
use Rattle.bind_engine.proofs.boot.BoardRoms.put.Goals as goal

pub returns-in-Some-get_mut-clause-roms : goal.returns-in-Some-get_mut-clause-roms
returns-in-Some-get_mut-clause-roms c =
    let roms = c.args.self.now.roms.items in
    map-set (option_map (λ (rom : Vec ℕ Global). rom.items)) roms c.in-Some.f (Some c.args.bytes)
    ∙ sym (ap (λ (f : Option ℕ). with_rom f (Some c.args.bytes.items) (roms_in roms)) c.in-Some.is)
