use Rattle.std.proofs.Common.{◌≡◌, ◌+◌, true, List, ◌∷◌, ℕ, drop, get_or, refl, ap, sym, ◌∙◌, add-one, arith}
use Rattle.std.proofs.Math.Seq.{drop-cons}
use Rattle.std.proofs.lemmas.List.{drop_all}
use Rattle.record_log.specs.TakingBack.{closed_each}
use Rattle.record_log.proofs.row_changes.close_each.Goals as goal

pub loop-place-init : goal.loop-place-init
loop-place-init c = record { rows = refl; tallied = c.requires }

pub close_row-requires : goal.close_row-requires
close_row-requires c = c.loop-place.invariant.tallied

pub loop-place-preserved : goal.loop-place-preserved
loop-place-preserved c =
    let places = c.args.places.now in
    let i = c.loop-place.place-index in
    let step : drop i places ≡ get_or places i 0 ∷ drop (i + 1) places = drop-cons places i 0 c.loop-place-test.true ∙ ap (λ (n : ℕ). get_or places i 0 ∷ drop n places) (sym (add-one i)) in
    record {
      rows = rw c.close_row.ensures.rows (ap (λ (ps : List ℕ). record c.loop-place.rows { lines = closed_each ps true c.loop-place.rows.lines }) (sym step) ∙ c.loop-place.invariant.rows);
      tallied = c.close_row.ensures.tally;
    }

pub returns-clause-rows : goal.returns-clause-rows
returns-clause-rows c =
    let none = drop_all c.loop-place.place-index c.args.places.now (omega arith) in
    ap (λ (ps : List ℕ). record c.loop-place.rows { lines = closed_each ps true c.loop-place.rows.lines }) (sym none) ∙ c.loop-place.invariant.rows

pub returns-clause-tally : goal.returns-clause-tally
returns-clause-tally c = c.loop-place.invariant.tallied
