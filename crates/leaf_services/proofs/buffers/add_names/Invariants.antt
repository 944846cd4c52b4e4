use Rattle.std.proofs.Common.{◌≡◌, ◌++◌, take}
use Rattle.leaf_services.specs.Names.{names_alone}
use Rattle.leaf_services.proofs.buffers.add_names.Given as goal

-- the GUIDs so far come after the bytes
abbrev pub invariant-loop-protocol : goal.invariant-loop-protocol
invariant-loop-protocol l = l.bytes.items ≡ l.fn.bytes.items ++ names_alone (take l.protocol-index l.protocols)
