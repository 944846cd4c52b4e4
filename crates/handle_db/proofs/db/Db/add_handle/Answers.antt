use Rattle.std.proofs.Common.{◌≡◌, List, ◌++◌, ◌∷◌, [], None, true, false, ap, sym, subst, ◌∙◌}
use Rattle.handle_db.specs.Database.{Database, IsSound}
use Rattle.handle_db.specs.Installing.{installed, is_full, new_entry}
use Rattle.handle_db.specs.declared.handle_entry.HandleEntry.{HandleEntry}
use Rattle.handle_db.proofs.HasAfter.{new_has}
use Rattle.handle_db.proofs.IndexLemmas.{Names, names_after}
use Rattle.handle_db.proofs.InstallBack.{none_at}
use Rattle.handle_db.proofs.Keeping.{accepted_new, installing}
use Rattle.handle_db.proofs.db.Db.add_handle.Goals as goal

-- the database is the one with a new handle, which is sound, and the index names it
pub invariant_of-self-2 : goal.invariant_of-self-2
invariant_of-self-2 c =
    let db : Database = record { handles = c.self.inside.handles.items; next = c.self.inside.next; limit = c.self.inside.limit } in
    let room : is_full db ≡ false = ap is_full c.self.view_is ∙ sym c.is_full.ensures ∙ c.if-is_full.false in
    let ok = accepted_new c.args.interface.guid db room in
    let handles : c.push_reserved.new.self.items ≡ db.handles ++ new_entry db.next c.args.interface ∷ [] =
    c.push_reserved.ensures.items ∙ ap (λ entries. entries ++ c.in_ok-entry.entry ∷ []) c.in_ok-reserve.ensures.items
    ∙ ap (λ (entry : HandleEntry). db.handles ++ entry ∷ []) c.in_ok-entry.ensures in
    let same : record { handles = c.push_reserved.new.self.items; next = c.next-self-inside.result; limit = c.self.inside.limit } ≡ installed None c.args.interface db =
    ap (λ (entries : List HandleEntry). record { handles = entries; next = c.next-self-inside.result; limit = c.self.inside.limit }) handles
    ∙ ap (λ n. record db { handles = db.handles ++ new_entry db.next c.args.interface ∷ []; next = n }) c.next-self-inside.ensures in
    let names = names_after db.next c.args.interface.guid true c.self.inside.index c.insert.new.self c.in_ok-insert.ensures.updates db.handles (db.handles ++ new_entry db.next c.args.interface ∷ []) c.self.invariant.names
    (λ other number. new_has db.next number c.args.interface.guid other c.args.interface db.handles (none_at db.next db.handles c.self.invariant.sound.below)) in
    record {
      sound = subst IsSound (sym same) (installing None c.args.interface db c.self.invariant.sound ok);
      names = subst (Names c.insert.new.self) (sym handles) names;
    }
