use Rattle.std.proofs.Common.{◌≡◌, List, Some, true, is_ok, ap, sym, subst, ◌∙◌}
use Rattle.handle_db.specs.Database.{Database, IsSound}
use Rattle.handle_db.specs.Installing.{install_answer, installed, with_interface}
use Rattle.handle_db.specs.Places.{IsPlaceOf}
use Rattle.handle_db.specs.declared.handle_entry.HandleEntry.{HandleEntry}
use Rattle.handle_db.proofs.Order.{nobody}
use Rattle.handle_db.proofs.HasAfter.{installed_has}
use Rattle.handle_db.proofs.IndexLemmas.{Names, names_after, names_again}
use Rattle.handle_db.proofs.Keeping.{installing, live_for_interface, room_for_interface}
use Rattle.handle_db.proofs.Changes.{appended_at}
use Rattle.handle_db.proofs.UndoKeeps.{err_gives, ok_gives}
use Rattle.handle_db.proofs.db.Db.add_interface.Goals as goal

-- there was no memory for the interface, so that all is as before
pub invariant_of-self-then-is_err : goal.invariant_of-self-then-is_err
invariant_of-self-then-is_err c =
    let db : Database = record { handles = c.self.inside.handles.items; next = c.self.inside.next; limit = c.self.inside.limit } in
    let ok = ap is_ok (ap (install_answer (Some c.args.handle) c.args.interface.guid) c.self.view_is ∙ c.in_ok-place.ensures.accepted) in
    let room = room_for_interface c.args.handle c.args.interface.guid db ok in
    let same = err_gives c.append_at.result c.is_err.result c.if-is_err.true c.is_err.ensures.value c.append_at.ensures.err in
    let names = names_again c.args.handle c.args.interface.guid c.self.inside.index c.insert.new.self c.remove.new.self db.handles c.in_ok-insert.ensures.updates c.remove.ensures.updates room.none c.self.invariant.names in
    record {
      sound = subst (λ (handles : List HandleEntry). IsSound (record db { handles = handles })) (sym same) c.self.invariant.sound;
      names = subst (Names c.remove.new.self) (sym same) names;
    }

-- or it was put at the place that was found
pub invariant_of-self-else-is_err : goal.invariant_of-self-else-is_err
invariant_of-self-else-is_err c =
    let db : Database = record { handles = c.self.inside.handles.items; next = c.self.inside.next; limit = c.self.inside.limit } in
    let ok = ap is_ok (ap (install_answer (Some c.args.handle) c.args.interface.guid) c.self.view_is ∙ c.in_ok-place.ensures.accepted) in
    let is : IsPlaceOf c.args.handle db.handles c.in_ok-place.place = subst (λ (d : Database). IsPlaceOf c.args.handle d.handles c.in_ok-place.place) (sym c.self.view_is) c.in_ok-place.ensures.place in
    let put : c.append_at.new.entries.items ≡ with_interface c.args.handle c.args.interface db.handles =
    ok_gives c.append_at.result c.is_err.result c.if-is_err.false c.is_err.ensures.value (c.append_at.ensures.ok nobody)
    ∙ appended_at c.args.handle c.args.interface db c.in_ok-place.place nobody c.self.invariant.sound is in
    let names = names_after c.args.handle c.args.interface.guid true c.self.inside.index c.insert.new.self c.in_ok-insert.ensures.updates db.handles (with_interface c.args.handle c.args.interface db.handles) c.self.invariant.names
    (λ other number. installed_has c.args.handle number other db.handles c.args.interface (live_for_interface c.args.handle c.args.interface.guid db ok)) in
    record {
      sound = subst (λ (handles : List HandleEntry). IsSound (record db { handles = handles })) (sym put) (installing (Some c.args.handle) c.args.interface db c.self.invariant.sound ok);
      names = subst (Names c.insert.new.self) (sym put) names;
    }

pub returns-clause-ok : goal.returns-clause-ok
returns-clause-ok c =
    let db : Database = record { handles = c.self.inside.handles.items; next = c.self.inside.next; limit = c.self.inside.limit } in
    let is : IsPlaceOf c.args.handle db.handles c.in_ok-place.place = subst (λ (d : Database). IsPlaceOf c.args.handle d.handles c.in_ok-place.place) (sym c.self.view_is) c.in_ok-place.ensures.place in
    let put : c.append_at.new.entries.items ≡ with_interface c.args.handle c.args.interface db.handles =
    ok_gives c.append_at.result c.is_err.result c.if-is_err.false c.is_err.ensures.value (c.append_at.ensures.ok nobody)
    ∙ appended_at c.args.handle c.args.interface db c.in_ok-place.place nobody c.self.invariant.sound is in
    ap (λ (handles : List HandleEntry). record db { handles = handles }) put ∙ ap (installed (Some c.args.handle) c.args.interface) c.self.view_is
