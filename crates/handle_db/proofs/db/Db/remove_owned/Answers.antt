use Rattle.std.proofs.Common.{◌≡◌, ◌&&◌, List, ap, filter, map, sym, subst, ◌∙◌}
use Rattle.handle_db.specs.Database.{Database, IsSound, has_any, has_in}
use Rattle.handle_db.specs.OwnedInterfaces.{without_interfaces_of}
use Rattle.handle_db.specs.declared.handle_entry.HandleEntry.{HandleEntry}
use Rattle.handle_db.proofs.HasAfter.{owned_has}
use Rattle.handle_db.proofs.Keeping.{removing_owned}
use Rattle.handle_db.proofs.db.Db.remove_owned.Goals as goal

-- the handles that are left are in order
pub keep_named-requires : goal.keep_named-requires
keep_named-requires c =
    let db : Database = record { handles = c.self.inside.handles.items; next = c.self.inside.next; limit = c.self.inside.limit } in
    rw (c.as_slice.ensures.value, c.drop_empty.ensures, c.drop_owned.ensures) (removing_owned c.args.image c.args.own db c.self.invariant.sound).rising

-- and the index names those that still have a protocol
pub invariant_of-self : goal.invariant_of-self
invariant_of-self c =
    let db : Database = record { handles = c.self.inside.handles.items; next = c.self.inside.next; limit = c.self.inside.limit } in
    let left : List HandleEntry = filter has_any (map (without_interfaces_of c.args.image c.args.own) db.handles) in
    let same : c.drop_empty.new.entries.items ≡ left = c.drop_empty.ensures ∙ ap (filter has_any) c.drop_owned.ensures in
    let shown : c.as_slice.result.now ≡ left = c.as_slice.ensures.value ∙ same in
    record {
      sound = subst (λ (handles : List HandleEntry). IsSound (record db { handles = handles })) (sym same) (removing_owned c.args.image c.args.own db c.self.invariant.sound);
      names = λ guid handle.
          c.keep_named.ensures guid handle
          ∙ ap (λ b. has_in handle guid c.as_slice.result.now && b) (c.self.invariant.names guid handle)
          ∙ ap (λ (entries : List HandleEntry). has_in handle guid entries && has_in handle guid db.handles) shown
          ∙ owned_has c.args.image handle c.args.own guid db.handles c.self.invariant.sound.rising
          ∙ ap (has_in handle guid) (sym same);
    }
