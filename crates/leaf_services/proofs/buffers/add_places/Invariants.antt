use Rattle.std.proofs.Common.{◌≡◌, ◌++◌, ◌+◌, ◌*◌, map}
use Rattle.std.specs.List.{range_with_len}
use Rattle.service_model.specs.Contents.{number_bytes}
use Rattle.leaf_services.proofs.buffers.add_places.Given as goal

-- the places so far come after the bytes
abbrev pub invariant-loop-i : goal.invariant-loop-i
invariant-loop-i l = l.bytes.items ≡ l.fn.bytes.items ++ number_bytes (map (λ i. l.at + 8 * l.n + 16 * i) (range_with_len 0 l.i))
