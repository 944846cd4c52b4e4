use Rattle.std.proofs.Common.{List, ap, refl, subst, sym, ◌∙◌, arith}
use Rattle.record_rows.specs.ShownPlaces.{AreStamped, listed_at}
use Rattle.record_rows.specs.declared.shown_places.ShownList.{ShownList}
use Rattle.record_rows.proofs.ShownLemmas.{listed_by, listed_pushed, stamped_pushed}
use Rattle.record_rows.proofs.shown_places.ShownPlaces.reach.Goals as goal

pub loop-self-preserved : goal.loop-self-preserved
loop-self-preserved c =
    let inside = c.loop-self.self-inside in
    let one : ShownList = record { stamp = 0; places = c.new.result } in
    let invariant = c.loop-self.invariant in
    let items = c.in_ok-push.ensures.items in (
      invariant.0,
      subst (AreStamped inside.changes) (sym items) (stamped_pushed inside.changes inside.lists.items one invariant.1 (omega arith)),
      λ other. ap (λ (lists : List ShownList). listed_at other (listed_by inside.changes lists)) items ∙ listed_pushed inside.changes inside.lists.items one invariant.1.some refl other ∙ invariant.2 other,
    )
