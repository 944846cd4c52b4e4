use Rattle.std.proofs.Common.{◌≡◌, ◌++◌, map}
use Rattle.handle_db.specs.ProtocolIndex.{Naming}
use Rattle.handle_db.proofs.protocol_index.handles_in.Given as goal

-- the handles so far, and those that are left
abbrev pub invariant-loop-one : goal.invariant-loop-one
invariant-loop-one l = l.handles.items ++ map (λ (one : Naming). one.1) l.one-iterator ≡ map (λ (one : Naming). one.1) l.fn.range
