use Rattle.std.proofs.Common.{◌-◌, ℕ, List, length, ap, sym, ◌∙◌}
use Rattle.std.specs.Prelude.{slice_get}
use Rattle.record_rows.specs.Index.{is_strong_on, last_key}
use Rattle.record_rows.proofs.IndexLemmas.{last_is_last}
use Rattle.record_rows.proofs.row_index.RowIndex.last_strong.Goals as goal

pub returns : goal.returns
returns c =
    let test = is_strong_on c.args.interface in
    c.as_place.ensures ∙ c.last.ensures ∙ ap (λ (l : List ℕ). slice_get l (length l - 1)) (c.self.invariant.strong.each c.args.interface)
    ∙ sym (last_is_last test c.self.inside.keys) ∙ ap (last_key test) c.self.view_is
