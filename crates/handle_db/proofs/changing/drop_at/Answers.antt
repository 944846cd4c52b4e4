use Rattle.std.proofs.Common.{◌≡◌, true, false, not, ap, ◌∙◌}
use Rattle.handle_db.specs.Database.{has_any}
use Rattle.handle_db.proofs.Changes.{empty_is, gone_at, stays_at}
use Rattle.handle_db.proofs.changing.drop_at.Goals as goal

-- the entry without interfaces is removed
pub returns-then-is_empty : goal.returns-then-is_empty
returns-then-is_empty c =
    let entry = c.index.result.now in
    let none : has_any entry ≡ false = empty_is entry c.as_slice.result.now c.is_empty.result c.as_slice.ensures c.is_empty.ensures ∙ ap not c.if-is_empty.true in
    c.remove.ensures.items ∙ gone_at c.args.entries.now.items c.args.at entry c.requires.within c.index.ensures c.requires.others none

-- or each has one
pub returns-else-is_empty : goal.returns-else-is_empty
returns-else-is_empty c =
    let entry = c.index.result.now in
    let some : has_any entry ≡ true = empty_is entry c.as_slice.result.now c.is_empty.result c.as_slice.ensures c.is_empty.ensures ∙ ap not c.if-is_empty.false in
    stays_at c.args.entries.now.items c.args.at entry c.requires.within c.index.ensures c.requires.others some
