use Rattle.std.proofs.Common.{◌≡◌, Bool, ap, sym, subst, if◌then◌else◌, ◌∙◌}
use Rattle.handle_db.specs.Database.{Database, IsSound}
use Rattle.handle_db.specs.Removing.{removed}
use Rattle.handle_db.specs.Undoing.{install_undone}
use Rattle.handle_db.proofs.UndoKeeps.{removed_last, undoing_install}
use Rattle.handle_db.proofs.db.Db.undo_install.Goals as goal

-- the handle's number is the next one again
pub invariant_of-self : goal.invariant_of-self
invariant_of-self c =
    let old : Database = c.args.self.now in
    let gone : c.remove-removed.new.self ≡ removed c.args.handle c.args.guid old =
    removed_last c.args.handle c.args.guid c.args.made old c.remove-removed.result c.requires c.remove-removed.ensures.answer c.remove-removed.ensures.ok in
    let again : record { handles = c.self.inside.handles.items; next = c.args.handle; limit = c.self.inside.limit } ≡ install_undone c.args.handle c.args.guid c.args.made old =
    ap (λ (db : Database). record db { next = c.args.handle }) (c.self.view_is ∙ gone)
    ∙ ap (λ (made : Bool). record (removed c.args.handle c.args.guid old) { next = if made then c.args.handle else old.next }) (sym c.if-made.true) in
    record {
      sound = subst IsSound (sym again) (undoing_install c.args.handle c.args.guid c.args.made old c.soundness.ensures c.requires);
      names = c.self.invariant.names;
    }

pub returns-then-made : goal.returns-then-made
returns-then-made c =
    let old : Database = c.args.self.now in
    let gone : c.remove-removed.new.self ≡ removed c.args.handle c.args.guid old =
    removed_last c.args.handle c.args.guid c.args.made old c.remove-removed.result c.requires c.remove-removed.ensures.answer c.remove-removed.ensures.ok in
    let again : record { handles = c.self.inside.handles.items; next = c.args.handle; limit = c.self.inside.limit } ≡ install_undone c.args.handle c.args.guid c.args.made old =
    ap (λ (db : Database). record db { next = c.args.handle }) (c.self.view_is ∙ gone)
    ∙ ap (λ (made : Bool). record (removed c.args.handle c.args.guid old) { next = if made then c.args.handle else old.next }) (sym c.if-made.true) in
    again

pub returns-else-made : goal.returns-else-made
returns-else-made c =
    let old : Database = c.args.self.now in
    removed_last c.args.handle c.args.guid c.args.made old c.remove-removed.result c.requires c.remove-removed.ensures.answer c.remove-removed.ensures.ok
    ∙ ap (λ (made : Bool). record (removed c.args.handle c.args.guid old) { next = if made then c.args.handle else old.next }) (sym c.if-made.false)
