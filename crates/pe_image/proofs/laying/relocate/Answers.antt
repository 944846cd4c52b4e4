use Rattle.std.proofs.Common.{◌≡◌, true, Some, sym, ◌∙◌}
use Rattle.pe_image.specs.Relocations.{has_directory, directory_place}
use Rattle.pe_image.proofs.RuleLemmas.{good_relocations}
use Rattle.pe_image.proofs.laying.relocate.Goals as goal

-- the directory of an accepted file is good
pub relocate_directory-requires : goal.relocate_directory-requires
relocate_directory-requires c =
    let bytes = c.args.bytes.now in
    let there : has_directory bytes ≡ true = sym c.has_directory.ensures ∙ c.if-not-has_directory.false in
    let found : directory_place bytes ≡ Some c.in-Some.place = sym c.directory_place.ensures ∙ c.in-Some.is in
    rw (c.requires.size, c.directory_at.ensures) (good_relocations bytes c.in-Some.place c.requires.accepted there found)
