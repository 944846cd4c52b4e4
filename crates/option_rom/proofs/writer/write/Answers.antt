use Rattle.std.proofs.Common.{◌≡◌, false, nat_eq, length, List, [], ◌∷◌, refl, ap, sym, ◌∙◌}
use Rattle.option_rom.specs.RomGrammar.{rom_in}
use Rattle.option_rom.specs.RomLayout.{is_none_left}
use Rattle.option_rom.specs.declared.part.RomPart.{RomPart}
use Rattle.option_rom.proofs.LayoutLemmas.{rom_in-laid_some}
use Rattle.option_rom.proofs.writer.write.Goals as goal

some_left : (parts : List RomPart) → nat_eq (length parts) 0 ≡ false → is_none_left parts ≡ false
some_left [] h = absurd cc
some_left (part ∷ parts) h = refl

pub returns-clause-reads_back : goal.returns-clause-reads_back
returns-clause-reads_back c =
    let some = some_left c.args.parts.now (sym c.is_empty.ensures ∙ c.if-is_empty.false) in
    let short = sym c.is_any_too_long.ensures ∙ c.if-is_any_too_long.false in
    ap rom_in c.in_ok-laid_rom.ensures.rom ∙ rom_in-laid_some c.args.parts.now some short c.in_ok-laid_rom.ensures.ids
