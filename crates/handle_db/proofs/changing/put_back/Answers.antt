use Rattle.std.proofs.Common.{◌∙◌}
use Rattle.std.proofs.lemmas.Result.{on_ok_weaker}
use Rattle.handle_db.proofs.Order.{nobody}
use Rattle.handle_db.proofs.UndoKeeps.{staying}
use Rattle.handle_db.proofs.changing.put_back.Goals as goal

-- the handle is there
pub insert_at-requires-clause-interface : goal.insert_at-requires-clause-interface
insert_at-requires-clause-interface c =
    (staying c.args.handle c.get.result c.args.place c.args.interface c.as_slice.result.now c.args.entries.now.items c.in-Some.at c.requires.rising c.requires.place c.as_slice.ensures.value c.get.ensures.value c.in-Some.ensures.found).within

pub returns-in-Some-clause-ok : goal.returns-in-Some-clause-ok
returns-in-Some-clause-ok c =
    let stays = staying c.args.handle c.get.result c.args.place c.args.interface c.as_slice.result.now c.args.entries.now.items c.in-Some.at c.requires.rising c.requires.place c.as_slice.ensures.value c.get.ensures.value c.in-Some.ensures.found in
    on_ok_weaker c.insert_at.result (λ is. is ∙ stays.put nobody) (c.insert_at.ensures.ok nobody)
