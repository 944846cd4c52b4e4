use Rattle.std.proofs.Common.{◌≡◌, ◌+◌, ◌<◌, ◌-◌, ℕ, List, drop, filter, get_or, length, ap, arith, sym, ◌∙◌}
use Rattle.std.proofs.lemmas.List.{take_rest}
use Rattle.std.proofs.lemmas.Option.{slice_get-get_or}
use Rattle.record_rows.specs.Asking.{counts_at}
use Rattle.record_rows.specs.Inside.{rows_of}
use Rattle.record_rows.proofs.FewLemmas.{few_counted}
use Rattle.record_rows.proofs.rows.RecordRows.few_at.Goals as goal
use Rattle.record_rows.proofs.rows.RecordRows.few_at.Goals.{else-start-gt0-via-then-start-gt0+else-places-start, else-start-gt0-via-else-start-gt0}

pub returns : goal.returns
returns c =
    let rows = rows_of c.args.self.now in
    let places = c.args.places.now in
    let start = c.saturating_sub-start.result in
    let counted : c.count_at.result ≡ length (filter (counts_at rows) (drop start places)) =
    c.count_at.ensures ∙ ap (λ (l : List ℕ). length (filter (counts_at rows) l)) (take_rest places start) in
    elim c.else-start-gt0.branch [
      | else-start-gt0-via-then-start-gt0+else-places-start w ↦
          let within : start - 1 < length places = omega (arith, w.if-start-gt0.true, c.saturating_sub-start.ensures) in
          let next : (start - 1) + 1 ≡ start = omega (arith, w.if-start-gt0.true) in
          let last = slice_get-get_or places (start - 1) 0 within in
          let few = few_counted rows c.args.cut (start - 1) (get_or places (start - 1) 0) places c.requires.rising c.requires.cut last w.if-places-start.false in
          counted ∙ ap (λ (n : ℕ). length (filter (counts_at rows) (drop n places))) (sym next) ∙ ap length (sym few)
      | else-start-gt0-via-else-start-gt0 w ↦
          let first : start ≡ 0 = omega (arith, w.if-start-gt0.false) in
          counted ∙ ap (λ (n : ℕ). length (filter (counts_at rows) (drop n places))) first
    ]
