use Rattle.std.proofs.Common.{ap, ◌∙◌}
use Rattle.std.specs.List.{insert}
use Rattle.handle_db.specs.Installing.{new_entry}
use Rattle.handle_db.specs.declared.handle_entry.HandleEntry.{HandleEntry}
use Rattle.handle_db.proofs.UndoKeeps.{with_entry_found}
use Rattle.handle_db.proofs.changing.insert_handle.Goals as goal

pub returns-clause-ok : goal.returns-clause-ok
returns-clause-ok c =
    let entries = c.args.entries.now.items in
    c.in_ok-insert.ensures.items ∙ ap (λ (entry : HandleEntry). insert entries c.room_for-place.result entry) c.in_ok-entry.ensures
    ∙ with_entry_found c.get.result (new_entry c.args.handle c.args.interface) c.as_slice.result.now entries c.room_for-place.result c.as_slice.ensures.value c.get.ensures.value c.requires.absent c.room_for-place.ensures
