use Rattle.std.proofs.Common.{◌≡◌}
use Rattle.std.specs.Prelude.{Ok}
use Rattle.service_model.specs.Changes.{pairs_installed}
use Rattle.leaf_services.proofs.interfaces.install_pairs.Given as goal

-- the pairs so far are installed
abbrev pub invariant-loop-i : goal.invariant-loop-i
invariant-loop-i l = record {
  installed : pairs_installed l.i l.list l.owner l.fn.handle l.fn.w.now ≡ Ok (l.on, l.w.now);
  marks : l.w.marks ≡ l.fn.w.marks;
  memory : l.w.now.soft.memory ≡ l.fn.w.now.soft.memory;
}
