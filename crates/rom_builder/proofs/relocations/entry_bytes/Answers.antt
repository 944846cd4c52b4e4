use Rattle.std.proofs.Common.{◌≡◌, take, ◌∙◌, ap, arith}
use Rattle.std.proofs.lemmas.List.{take_all}
use Rattle.rom_builder.specs.MadeImage.{entry_bytes}
use Rattle.rom_builder.proofs.BlockLemmas.{length-entry_bytes}
use Rattle.rom_builder.proofs.relocations.entry_bytes.Goals as goal

-- two bytes for each place
pub returns-clause-few : goal.returns-clause-few
returns-clause-few c =
    let places = c.args.places.now in
    let all : take c.loop-place.place-index places ≡ places = take_all c.loop-place.place-index places (omega arith) in
    rw (c.loop-place.invariant ∙ ap entry_bytes all) (omega (arith, length-entry_bytes places, c.requires))
