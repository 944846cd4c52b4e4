use Rattle.std.proofs.Common.{◌≡◌, ℕ, List, None, Ok, false, filter, get_or, length, nat_eq, set, sym, subst, ap, ◌∙◌}
use Rattle.std.specs.List.{list_all, position, remove}
use Rattle.handle_db.specs.Database.{Database, IsSound, is_guid, has_any}
use Rattle.handle_db.specs.Removing.{remove_answer, removed, without_interface}
use Rattle.handle_db.specs.Places.{IsPlaceOf, removed_at}
use Rattle.handle_db.specs.declared.handle_entry.HandleEntry.{HandleEntry}
use Rattle.handle_db.specs.declared.refusal.Removed.{Removed}
use Rattle.handle_db.proofs.HasAfter.{removed_has}
use Rattle.handle_db.proofs.IndexLemmas.{Names, names_after}
use Rattle.handle_db.proofs.Changes.{live_at, not_there, others_have, place_fits, removal_at, removed_at_is}
use Rattle.handle_db.proofs.Keeping.{removing}
use Rattle.handle_db.proofs.db.Db.remove.Goals as goal

-- the handle does not have the protocol
pub returns-in_default-interface_place-clause-answer :
    goal.returns-in_default-interface_place-clause-answer
returns-in_default-interface_place-clause-answer c =
    let db : Database = record { handles = c.self.inside.handles.items; next = c.self.inside.next; limit = c.self.inside.limit } in
    let is : IsPlaceOf c.args.handle db.handles c.in-Some.at = rw (c.get.ensures.value, c.as_slice.ensures.value) at c.in-Some.ensures.found in
    let none : position (is_guid c.args.guid) c.index.result.now.interfaces ≡ None =
    sym (c.in_default-interface_place.ensures ∙ ap (position (is_guid c.args.guid)) c.as_slice-interfaces.ensures) in
    sym (ap (remove_answer c.args.handle c.args.guid) (sym c.self.view_is) ∙ not_there c.args.handle c.args.guid db c.in-Some.at c.index.result.now c.self.invariant.sound is c.index.ensures none)

-- the handles with the interface taken out
taken : (c : goal.After-drop_at-arg-1) → c.take_at-interface.new.entries.items ≡ set c.self.inside.handles.items c.in-Some.at (removed_at c.in-Some-interface_place.place c.index.result.now)
taken c =
    c.take_at-interface.ensures.rest c.index.result.now
    ∙ ap (λ (entry : HandleEntry). set c.self.inside.handles.items c.in-Some.at (removed_at c.in-Some-interface_place.place entry)) (sym c.index.ensures)

pub drop_at-requires-clause-others : goal.drop_at-requires-clause-others
drop_at-requires-clause-others c =
    ap (λ (handles : List HandleEntry). list_all has_any (remove handles c.in-Some.at)) (taken c)
    ∙ others_have c.self.inside.handles.items c.in-Some.at (removed_at c.in-Some-interface_place.place c.index.result.now) c.self.invariant.sound.kept

-- and with those that have no interface gone
left : (c : goal.After-removal) → c.drop_at.new.entries.items ≡ without_interface c.args.handle c.args.guid c.self.inside.handles.items
left c =
    let db : Database = record { handles = c.self.inside.handles.items; next = c.self.inside.next; limit = c.self.inside.limit } in
    let is : IsPlaceOf c.args.handle db.handles c.in-Some.at = rw (c.get.ensures.value, c.as_slice.ensures.value) at c.in-Some.ensures.found in
    let found = sym (c.in-Some-interface_place.ensures ∙ ap (position (is_guid c.args.guid)) c.as_slice-interfaces.ensures) in
    let taken : c.take_at-interface.new.entries.items ≡ set c.self.inside.handles.items c.in-Some.at (removed_at c.in-Some-interface_place.place c.index.result.now) =
    c.take_at-interface.ensures.rest c.index.result.now
    ∙ ap (λ (entry : HandleEntry). set c.self.inside.handles.items c.in-Some.at (removed_at c.in-Some-interface_place.place entry)) (sym c.index.ensures) in
    c.drop_at.ensures ∙ ap (filter has_any) taken
    ∙ removed_at_is c.args.handle c.args.guid db c.in-Some.at c.index.result.now c.self.invariant.sound is c.index.ensures c.in-Some-interface_place.place found

-- the index no longer names the handle with the protocol
pub invariant_of-self : goal.invariant_of-self
invariant_of-self c =
    let db : Database = record { handles = c.self.inside.handles.items; next = c.self.inside.next; limit = c.self.inside.limit } in
    let is : IsPlaceOf c.args.handle db.handles c.in-Some.at = rw (c.get.ensures.value, c.as_slice.ensures.value) at c.in-Some.ensures.found in
    let live = live_at c.args.handle db c.in-Some.at c.self.invariant.sound is c.index.result.now c.index.ensures in
    let names = names_after c.args.handle c.args.guid false c.self.inside.index c.remove.new.self c.remove.ensures.updates db.handles (without_interface c.args.handle c.args.guid db.handles) c.self.invariant.names
    (λ other number. removed_has c.args.handle number other db.handles c.args.guid c.self.invariant.sound.rising live) in
    record {
      sound = subst (λ (handles : List HandleEntry). IsSound (record db { handles = handles })) (sym (left c)) (removing c.args.handle c.args.guid db c.self.invariant.sound);
      names = subst (Names c.remove.new.self) (sym (left c)) names;
    }

pub returns-clause-answer : goal.returns-clause-answer
returns-clause-answer c =
    let db : Database = record { handles = c.self.inside.handles.items; next = c.self.inside.next; limit = c.self.inside.limit } in
    let is : IsPlaceOf c.args.handle db.handles c.in-Some.at = rw (c.get.ensures.value, c.as_slice.ensures.value) at c.in-Some.ensures.found in
    let entry = c.index.result.now in
    let place = c.in-Some-interface_place.place in
    let interface = c.take_at-interface.result in
    let found = sym (c.in-Some-interface_place.ensures ∙ ap (position (is_guid c.args.guid)) c.as_slice-interfaces.ensures) in
    let read : interface ≡ get_or entry.interfaces place interface =
    c.take_at-interface.ensures.taken entry ∙ ap (λ (e : HandleEntry). get_or e.interfaces place interface) (sym c.index.ensures) in
    let count : length c.as_slice-interfaces.result.now ≡ length entry.interfaces = ap length c.as_slice-interfaces.ensures in
    let removal : ℕ → Removed = λ n. record { interface = interface.interface; owner = interface.owner; place = place; gone = nat_eq n 1 } in
    ap Ok (c.removal.ensures ∙ ap removal count)
    ∙ sym (ap (remove_answer c.args.handle c.args.guid) (sym c.self.view_is) ∙ removal_at c.args.handle c.args.guid db c.in-Some.at entry c.self.invariant.sound is c.index.ensures place found interface read)

pub returns-clause-ok : goal.returns-clause-ok
returns-clause-ok c =
    let db : Database = record { handles = c.self.inside.handles.items; next = c.self.inside.next; limit = c.self.inside.limit } in
    ap (λ (handles : List HandleEntry). record db { handles = handles }) (left c) ∙ ap (removed c.args.handle c.args.guid) c.self.view_is

pub removal-requires : goal.removal-requires
removal-requires c =
    let db : Database = record { handles = c.self.inside.handles.items; next = c.self.inside.next; limit = c.self.inside.limit } in
    let is : IsPlaceOf c.args.handle db.handles c.in-Some.at = rw (c.get.ensures.value, c.as_slice.ensures.value) at c.in-Some.ensures.found in
    let found = sym (c.in-Some-interface_place.ensures ∙ ap (position (is_guid c.args.guid)) c.as_slice-interfaces.ensures) in
    place_fits c.args.handle c.args.guid db c.in-Some.at c.index.result.now c.self.invariant.sound is c.index.ensures c.in-Some-interface_place.place found
