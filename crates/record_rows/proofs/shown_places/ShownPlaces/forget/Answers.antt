use Rattle.std.proofs.Common.{arith, rules, w64, Fits}
use Rattle.record_rows.proofs.ShownLemmas.{later_change, none_later}
use Rattle.record_rows.proofs.shown_places.ShownPlaces.forget.Goals as goal

pub returns : goal.returns
returns c =
    let inside = c.self.inside in
    let fits : Fits w64 inside.changes = search rules in
    let later = later_change inside.changes c.saturating_add-self-inside.result (omega (arith, fits)) c.saturating_add-self-inside.ensures in
    none_later inside.changes c.saturating_add-self-inside.result inside.lists.items c.self.invariant later.0 later.1
