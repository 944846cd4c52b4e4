use Rattle.std.proofs.Common.{◌≡◌, Some, Ok, Err, sym, subst, ◌∙◌}
use Rattle.handle_db.specs.Database.{Database}
use Rattle.handle_db.specs.Installing.{install_answer}
use Rattle.handle_db.specs.declared.refusal.DbRefusal.TheVariants.{Already, Full}
use Rattle.handle_db.proofs.Changes.{IsHere, here_at, already, full, accepted}
use Rattle.handle_db.proofs.db.Db.room_at.Goals as goal

-- the handle has the protocol
pub returns-then-has_guid-clause-refused : goal.returns-then-has_guid-clause-refused
returns-then-has_guid-clause-refused c =
    let db : Database = record { handles = c.self.inside.handles.items; next = c.self.inside.next; limit = c.self.inside.limit } in
    let here : IsHere c.args.handle db c.as_slice-interfaces.result.now =
    here_at db c.self.invariant.sound c.as_slice.ensures.value c.get.ensures.value c.in-Some.ensures.found c.index.ensures c.as_slice-interfaces.ensures in
    subst (λ (db : Database). install_answer (Some c.args.handle) c.args.guid db ≡ Err Already) c.self.view_is (already c.args.guid db here (sym c.has_guid.ensures ∙ c.if-has_guid.true))

-- it has as many interfaces as it may have
pub returns-then-has_no_room-clause-refused : goal.returns-then-has_no_room-clause-refused
returns-then-has_no_room-clause-refused c =
    let db : Database = record { handles = c.self.inside.handles.items; next = c.self.inside.next; limit = c.self.inside.limit } in
    let here : IsHere c.args.handle db c.as_slice-interfaces.result.now =
    here_at db c.self.invariant.sound c.as_slice.ensures.value c.get.ensures.value c.in-Some.ensures.found c.index.ensures c.as_slice-interfaces.ensures in
    subst (λ (db : Database). install_answer (Some c.args.handle) c.args.guid db ≡ Err Full) c.self.view_is (full c.args.guid db here (sym c.has_guid.ensures ∙ c.if-has_guid.false) (sym c.has_no_room.ensures ∙ c.if-has_no_room.true))

-- it may have one more
pub returns-clause-accepted : goal.returns-clause-accepted
returns-clause-accepted c =
    let db : Database = record { handles = c.self.inside.handles.items; next = c.self.inside.next; limit = c.self.inside.limit } in
    let here : IsHere c.args.handle db c.as_slice-interfaces.result.now =
    here_at db c.self.invariant.sound c.as_slice.ensures.value c.get.ensures.value c.in-Some.ensures.found c.index.ensures c.as_slice-interfaces.ensures in
    subst (λ (db : Database). install_answer (Some c.args.handle) c.args.guid db ≡ Ok c.args.handle) c.self.view_is (accepted c.args.guid db here (sym c.has_guid.ensures ∙ c.if-has_guid.false) (sym c.has_no_room.ensures ∙ c.if-has_no_room.false))
