use Rattle.std.proofs.Common.{◌≡◌, ◌≤◌, ◌+◌, ◌-◌, ℕ, length, replicate, vec_len, ◌∙◌, arith}
use Rattle.std.proofs.lemmas.List.{take_all, append_assoc}
use Rattle.rom_builder.specs.MadeImage.{aligned}
use Rattle.rom_builder.proofs.image.push_padded.Goals as goal

-- the file with the bytes, resized
pub returns : goal.returns
returns c =
    let bytes = c.args.bytes.now in
    let more = c.extend_from_slice.new.self in
    let end : ℕ = c.len.result + (c.aligned.result - length bytes) in
    let in_file : length more.items ≤ end = omega (arith, more.ok.0) in
    let spare : end - vec_len more ≡ aligned (length bytes) - length bytes = omega (arith, c.aligned.ensures, c.len.ensures) in
    c.in_ok-resize.ensures.items
    ∙ rw (take_all end more.items in_file, spare, c.in_ok-extend_from_slice.ensures.items)
    (append_assoc c.args.file.now.items bytes (replicate (aligned (length bytes) - length bytes) 0))
