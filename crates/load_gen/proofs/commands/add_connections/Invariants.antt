use Rattle.std.proofs.Common.{◌≡◌, ◌++◌}
use Rattle.std.specs.List.{flat_map, range_with_len}
use Rattle.load_gen.specs.GeneratedLoad.{connection_lines}
use Rattle.load_gen.proofs.commands.add_connections.Given as goal

abbrev pub invariant-loop-number : goal.invariant-loop-number
invariant-loop-number l = l.commands.items ≡ l.initial.commands.items ++ flat_map (λ number. connection_lines) (range_with_len 0 l._number)
