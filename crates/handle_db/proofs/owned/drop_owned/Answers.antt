use Rattle.std.proofs.Common.{◌≡◌, ◌∙◌, ap, set, sym}
use Rattle.std.proofs.lemmas.List.Edits.{map_over_more}
use Rattle.handle_db.specs.OwnedInterfaces.{without_interfaces_of}
use Rattle.handle_db.specs.declared.handle_entry.HandleEntry.{HandleEntry}
use Rattle.handle_db.proofs.owned.drop_owned.Goals as goal

pub loop-entry-preserved : goal.loop-entry-preserved
loop-entry-preserved c =
    let i = c.loop-entry.entry-index in
    let entry : HandleEntry = c.entry-item.result in
    let change : HandleEntry → HandleEntry = without_interfaces_of c.args.image c.args.own in
    let done : c.drop_interfaces.new.entry ≡ change entry = c.drop_interfaces.ensures ∙ ap change (sym c.entry-item.is) in
    ap (λ (e : HandleEntry). set c.loop-entry.entry-items i e) done
    ∙ map_over_more change c.deref_mut-entry-items.result.now c.loop-entry.entry-items i entry c.loop-entry-test.true c.loop-entry.invariant c.entry-item.is
