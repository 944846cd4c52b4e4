use Rattle.std.proofs.Common.{◌≡◌, ◌++◌, replicate}
use Rattle.load_gen.specs.GeneratedLoad.{load_line}
use Rattle.load_gen.proofs.commands.add_loads.Given as goal

abbrev pub invariant-loop-number : goal.invariant-loop-number
invariant-loop-number l = l.commands.items ≡ l.initial.commands.items ++ replicate l._number load_line
