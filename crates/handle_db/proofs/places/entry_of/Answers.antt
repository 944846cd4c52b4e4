use Rattle.std.proofs.Common.{sym, ap, ◌∙◌}
use Rattle.std.specs.Prelude.{Some}
use Rattle.handle_db.specs.Database.{is_handle}
use Rattle.handle_db.proofs.OnlyOne.{find-only, find-none}
use Rattle.handle_db.proofs.Order.{only_at}
use Rattle.handle_db.proofs.places.entry_of.Goals as goal

-- the entry at the place is the handle's only one
pub returns-in-Some-clause-found : goal.returns-in-Some-clause-found
returns-in-Some-clause-found c =
    let entry = c.index-entries-place.result in
    ap Some c.index-entries-place.is ∙ sym (find-only (only_at c.args.handle c.args.entries.now c.in-Some.place entry c.requires c.in-Some.ensures.found))

pub returns-in-None-clause-found : goal.returns-in-None-clause-found
returns-in-None-clause-found c = sym (find-none (is_handle c.args.handle) c.args.entries.now c.in-None.ensures.none)
