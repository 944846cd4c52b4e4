use Rattle.std.proofs.Common.{◌≡◌, ◌+◌, false, List, ◌∷◌, ℕ, drop, get_or, ap, sym, ◌∙◌, add-one, arith}
use Rattle.std.proofs.Math.Seq.{drop-cons}
use Rattle.std.proofs.lemmas.List.{drop_all}
use Rattle.record_log.specs.TakingBack.{closed_each}
use Rattle.record_log.proofs.row_changes.open_each.Goals as goal

pub loop-place-preserved : goal.loop-place-preserved
loop-place-preserved c =
    let places = c.args.places.now in
    let i = c.loop-place.place-index in
    let step : drop i places ≡ get_or places i 0 ∷ drop (i + 1) places = drop-cons places i 0 c.loop-place-test.true ∙ ap (λ (n : ℕ). get_or places i 0 ∷ drop n places) (sym (add-one i)) in
    rw c.set_closed.ensures (ap (λ (ps : List ℕ). record c.loop-place.rows { lines = closed_each ps false c.loop-place.rows.lines }) (sym step) ∙ c.loop-place.invariant)

pub returns : goal.returns
returns c =
    let none = drop_all c.loop-place.place-index c.args.places.now (omega arith) in
    ap (λ (ps : List ℕ). record c.loop-place.rows { lines = closed_each ps false c.loop-place.rows.lines }) (sym none) ∙ c.loop-place.invariant
