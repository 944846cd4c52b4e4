use Rattle.std.proofs.Common.{◌≡◌, ◌++◌, take}
use Rattle.service_model.specs.Contents.{records_bytes}
use Rattle.leaf_services.proofs.buffers.add_records.Given as goal

-- the records so far come after the bytes
abbrev pub invariant-loop-rec : goal.invariant-loop-rec
invariant-loop-rec l = l.bytes.items ≡ l.fn.bytes.items ++ records_bytes (take l.rec-index l.records)
