use Rattle.std.proofs.Common.{refl, sym}
use Rattle.option_rom.proofs.RomLemmas.{walk_at-end, walk_at-image}
use Rattle.option_rom.proofs.walk.RomIter.next.Goals as goal

pub returns-in-Some-clause-image : goal.returns-in-Some-clause-image
returns-in-Some-clause-image c =
    let inside = c.self.inside in
    ((walk_at-end inside.rest.now inside.place c.args.self.now c.in-Some.end c.in-Reading.is c.self.view_is c.in-Some.ensures.end).0, refl)

pub returns-in-Some-clause-end : goal.returns-in-Some-clause-end
returns-in-Some-clause-end c =
    let inside = c.self.inside in
    sym (walk_at-end inside.rest.now inside.place c.args.self.now c.in-Some.end c.in-Reading.is c.self.view_is c.in-Some.ensures.end).1

pub returns-in_default-clause-image : goal.returns-in_default-clause-image
returns-in_default-clause-image c =
    let inside = c.self.inside in
    (walk_at-image inside.rest.now inside.place c.args.self.now c.image_length.result c.image_at.result c.place_after-self-inside.result c.in-Reading.is c.self.view_is c.in_default.ensures.end c.image_length.ensures c.image_at.ensures c.place_after-self-inside.ensures).0

pub returns-in_default-clause-end : goal.returns-in_default-clause-end
returns-in_default-clause-end c =
    let inside = c.self.inside in
    sym (walk_at-image inside.rest.now inside.place c.args.self.now c.image_length.result c.image_at.result c.place_after-self-inside.result c.in-Reading.is c.self.view_is c.in_default.ensures.end c.image_length.ensures c.image_at.ensures c.place_after-self-inside.ensures).1
