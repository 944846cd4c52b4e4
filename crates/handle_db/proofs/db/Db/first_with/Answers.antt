use Rattle.std.proofs.Common.{Some, None, ap, sym, ◌∙◌}
use Rattle.handle_db.specs.Database.{Database, first_with}
use Rattle.handle_db.proofs.NamedLemmas.{first_entry, first_read, no_first}
use Rattle.handle_db.proofs.db.Db.first_with.Goals as goal

-- no handle is named
pub returns-in_err-handle : goal.returns-in_err-handle
returns-in_err-handle c =
    let db : Database = record { handles = c.self.inside.handles.items; next = c.self.inside.next; limit = c.self.inside.limit } in
    c.from_residual.ensures ∙ sym (ap (first_with c.args.guid) (sym c.self.view_is) ∙ no_first c.args.guid c.self.inside.index db c.self.invariant c.first_named.ensures.ordered c.in_err-handle.ensures.first)

-- the handle that is named has an entry, and it is read
pub returns-in_err-entry : goal.returns-in_err-entry
returns-in_err-entry c =
    let db : Database = record { handles = c.self.inside.handles.items; next = c.self.inside.next; limit = c.self.inside.limit } in
    c.from_residual-in_err-entry.ensures
    ∙ sym (ap (first_with c.args.guid) (sym c.self.view_is)
    ∙ first_entry c.args.guid c.self.inside.index db c.self.invariant c.first_named.ensures.ordered c.get.result c.in_ok-handle.handle c.as_slice.result.now None c.get.ensures.value c.as_slice.ensures.value c.in_ok-handle.ensures.first c.in_err-entry.ensures.found)

pub returns-in_err-found : goal.returns-in_err-found
returns-in_err-found c =
    let db : Database = record { handles = c.self.inside.handles.items; next = c.self.inside.next; limit = c.self.inside.limit } in
    c.from_residual-in_err-found.ensures
    ∙ first_read c.args.guid c.self.inside.index db c.self.invariant c.first_named.ensures.ordered c.get.result c.in_ok-handle.handle c.as_slice.result.now c.in_ok-entry.entry.now c.as_slice-2.result.now None c.get.ensures.value c.as_slice.ensures.value c.in_ok-handle.ensures.first c.in_ok-entry.ensures.found c.as_slice-2.ensures c.in_err-found.ensures
    ∙ ap (first_with c.args.guid) c.self.view_is

pub returns : goal.returns
returns c =
    let db : Database = record { handles = c.self.inside.handles.items; next = c.self.inside.next; limit = c.self.inside.limit } in
    first_read c.args.guid c.self.inside.index db c.self.invariant c.first_named.ensures.ordered c.get.result c.in_ok-handle.handle c.as_slice.result.now c.in_ok-entry.entry.now c.as_slice-2.result.now (Some c.in_ok-found.found.now) c.get.ensures.value c.as_slice.ensures.value c.in_ok-handle.ensures.first c.in_ok-entry.ensures.found c.as_slice-2.ensures c.in_ok-found.ensures
    ∙ ap (first_with c.args.guid) c.self.view_is
