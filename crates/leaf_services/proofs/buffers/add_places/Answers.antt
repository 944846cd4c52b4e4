use Rattle.std.proofs.Common.{ℕ, List, ◌++◌, ◌+◌, ◌*◌, ap, append_assoc, map, ◌∙◌}
use Rattle.std.specs.List.{range_with_len}
use Rattle.byteorder.specs.Endian.{little_bytes}
use Rattle.service_model.specs.Contents.{number_bytes}
use Rattle.leaf_services.proofs.BlockContents.{places-more}
use Rattle.leaf_services.proofs.buffers.add_places.Goals as goal

pub loop-i-preserved : goal.loop-i-preserved
loop-i-preserved c =
    let place = λ (i : ℕ). c.args.at + 8 * c.args.n + 16 * i in
    let before = c.args.bytes.now.items in
    let places = number_bytes (map place (range_with_len 0 c.loop-i.i)) in
    c.in_ok-add_number.ensures
    ∙ ap (λ (bytes : List ℕ). bytes ++ little_bytes 8 (place c.loop-i.i)) c.loop-i.invariant
    ∙ append_assoc before places (little_bytes 8 (place c.loop-i.i))
    ∙ ap (λ (bytes : List ℕ). before ++ bytes) (places-more c.args.at c.args.n c.loop-i.i)
