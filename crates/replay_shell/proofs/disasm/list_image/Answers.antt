use Rattle.std.proofs.Common.{◌≡◌, Ok, Err, subst}
use Rattle.std.specs.Prelude.{Option, None}
use Rattle.fw_shelf.specs.Shelf.{Files, GivesIfKnown, absent, file_of, too_long}
use Rattle.fw_shelf.specs.declared.shelf.ShelfFault.TheVariants.{TooLong}
use Rattle.replay_shell.specs.Endings.{no_script}
use Rattle.replay_shell.proofs.disasm.list_image.Goals as goal

pub returns-in-Ok-None-clause-taken : goal.returns-in-Ok-None-clause-taken
returns-in-Ok-None-clause-taken g c = λ files known.
    let name = c.args.name.now in
    let read : GivesIfKnown (g.F.Shelf.files c.args.shelf.now) name (Ok None) = rw c.in-Ok-None.field-0-is at c.in-Ok-None.ensures.answer in
    let none : file_of files name ≡ absent = subst (λ (of_shelf : Option Files). GivesIfKnown of_shelf name (Ok None)) known read in
    rw none (c.say.ensures.taken files no_script)

pub returns-in-Err-TooLong-clause-taken : goal.returns-in-Err-TooLong-clause-taken
returns-in-Err-TooLong-clause-taken g c = λ files known.
    let name = c.args.name.now in
    let read : GivesIfKnown (g.F.Shelf.files c.args.shelf.now) name (Err TooLong) = rw c.in-Err-TooLong.field-0-is at c.in-Err-TooLong.ensures.answer in
    let long : file_of files name ≡ too_long = subst (λ (of_shelf : Option Files). GivesIfKnown of_shelf name (Err TooLong)) known read in
    rw long (c.say-in-Err-TooLong.ensures.taken files no_script)
