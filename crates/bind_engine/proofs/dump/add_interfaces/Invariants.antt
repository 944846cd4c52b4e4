use Rattle.std.proofs.Common.{◌≡◌, ◌++◌, take}
use Rattle.std.specs.Prelude.{flat_map}
use Rattle.bind_engine.specs.Dump.{protocol_lines}
use Rattle.bind_engine.proofs.dump.add_interfaces.Given as goal

-- the lines of the interfaces so far come after the earlier lines
abbrev pub invariant-loop-protocol : goal.invariant-loop-protocol
invariant-loop-protocol l = l.lines.items ≡ l.fn.lines.items ++ flat_map (protocol_lines l.world.now.soft l.handle) (take l.protocol-index l.protocols)
