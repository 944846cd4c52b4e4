use Rattle.std.proofs.Common.{◌≡◌, ◌++◌, take}
use Rattle.service_model.specs.Contents.{number_bytes}
use Rattle.leaf_services.proofs.buffers.add_handles.Given as goal

-- the handles so far come after the bytes
abbrev pub invariant-loop-handle : goal.invariant-loop-handle
invariant-loop-handle l = l.bytes.items ≡ l.fn.bytes.items ++ number_bytes (take l.handle-index l.handles)
