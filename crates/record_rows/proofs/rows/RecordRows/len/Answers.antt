use Rattle.std.proofs.Common.{length, ap, sym, ◌∙◌}
use Rattle.record_rows.specs.Inside.{Kept}
use Rattle.record_rows.proofs.MarkLemmas.{lines_long}
use Rattle.record_rows.proofs.rows.RecordRows.len.Goals as goal

pub returns : goal.returns
returns c =
    let lines = lines_long c.self.inside.cutters.names c.self.inside.cutters.classes c.self.inside.records.items c.self.inside.marks.items c.self.invariant.marked in
    c.len.ensures ∙ c.self.inside.records.ok.0 ∙ sym lines ∙ ap (λ (kept : Kept). length kept.lines) c.self.view_is
