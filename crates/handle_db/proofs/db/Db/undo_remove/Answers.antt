use Rattle.std.proofs.Common.{◌≡◌, List, Bool, true, not, refl, ap, sym, subst, ◌∙◌}
use Rattle.std.specs.List.{list_any}
use Rattle.handle_db.specs.Database.{Database, IsSound, is_handle, is_live}
use Rattle.handle_db.specs.Undoing.{HasRoomFor, interface_again, with_back, with_removed}
use Rattle.handle_db.specs.declared.handle_entry.HandleEntry.{HandleEntry}
use Rattle.handle_db.proofs.HasAfter.{back_has}
use Rattle.handle_db.proofs.IndexLemmas.{Names, names_after, names_again}
use Rattle.handle_db.proofs.UndoKeeps.{err_gives, gone_is, ok_gives, undoing_remove}
use Rattle.handle_db.proofs.db.Db.undo_remove.Goals as goal

-- there was no memory for the interface, so that all is as before
pub invariant_of-self-then-is_err : goal.invariant_of-self-then-is_err
invariant_of-self-then-is_err c =
    let db : Database = record { handles = c.self.inside.handles.items; next = c.self.inside.next; limit = c.self.inside.limit } in
    let room : HasRoomFor c.args.handle c.args.guid c.args.removed.now db = subst (HasRoomFor c.args.handle c.args.guid c.args.removed.now) (sym c.self.view_is) c.requires in
    let same = err_gives c.put_back.result c.is_err.result c.if-is_err.true c.is_err.ensures.value c.put_back.ensures.err in
    let names = names_again c.args.handle c.args.guid c.self.inside.index c.insert.new.self c.remove.new.self db.handles c.in_ok-insert.ensures.updates c.remove.ensures.updates room.lacks c.self.invariant.names in
    record {
      sound = subst (λ (handles : List HandleEntry). IsSound (record db { handles = handles })) (sym same) c.self.invariant.sound;
      names = subst (Names c.remove.new.self) (sym same) names;
    }

-- or the interface is there again
pub invariant_of-self-else-is_err : goal.invariant_of-self-else-is_err
invariant_of-self-else-is_err c =
    let db : Database = record { handles = c.self.inside.handles.items; next = c.self.inside.next; limit = c.self.inside.limit } in
    let room : HasRoomFor c.args.handle c.args.guid c.args.removed.now db = subst (HasRoomFor c.args.handle c.args.guid c.args.removed.now) (sym c.self.view_is) c.requires in
    let one = interface_again c.args.guid c.args.removed.now in
    let put = ok_gives c.put_back.result c.is_err.result c.if-is_err.false c.is_err.ensures.value c.put_back.ensures.ok in
    let same : c.put_back.new.entries.items ≡ with_removed c.args.handle c.args.guid c.args.removed.now db.handles =
    put ∙ ap (λ (gone : Bool). with_back gone c.args.handle c.args.removed.now.place one db.handles) (gone_is c.args.handle c.args.guid c.args.removed.now db room) in
    let names = names_after c.args.handle c.args.guid true c.self.inside.index c.insert.new.self c.in_ok-insert.ensures.updates db.handles
    (with_back (not (list_any (is_handle c.args.handle) db.handles)) c.args.handle c.args.removed.now.place one db.handles) c.self.invariant.names
    (λ other number. back_has c.args.handle number other db.handles (is_live c.args.handle db) c.args.removed.now.place one refl) in
    record {
      sound = subst (λ (handles : List HandleEntry). IsSound (record db { handles = handles })) (sym same) (undoing_remove c.args.handle c.args.guid c.args.removed.now db c.self.invariant.sound room);
      names = subst (Names c.insert.new.self) (sym put) names;
    }
