use Rattle.std.proofs.Common.{◌≡◌, ◌-◌, ℕ, List, length, take, ap, sym, ◌∙◌}
use Rattle.std.proofs.lemmas.List.{length-map}
use Rattle.record_rows.specs.Index.{is_key_on, is_other_on}
use Rattle.record_rows.specs.Inside.{cuts_in, key_of, lines_of}
use Rattle.record_rows.specs.Rows.{Line}
use Rattle.record_rows.proofs.MarkLemmas.{lines_long, lines_take, map-take, marked_take, marks_long}
use Rattle.record_rows.proofs.ShownRows.{nothing_shown}
use Rattle.record_rows.proofs.rows.RecordRows.pop.Goals as goal

pub invariant_of-self : goal.invariant_of-self
invariant_of-self c =
    let inside = c.self.inside in
    let names = inside.cutters.names in
    let classes = inside.cutters.classes in
    let long : length inside.index ≡ length inside.records.items = ap length c.self.invariant.keys ∙ length-map inside.marks.items key_of ∙ marks_long names classes inside.records.items inside.marks.items c.self.invariant.marked in
    let left : length inside.index - 1 ≡ c.saturating_sub-left.result = sym (c.saturating_sub-left.ensures ∙ ap (λ (n : ℕ). n - 1) (c.len.ensures ∙ inside.records.ok.0 ∙ sym long)) in
    rw (c.truncate.ensures.items, c.truncate-2.ensures.items) (record {
      marked = marked_take names classes c.saturating_sub-left.result inside.records.items inside.marks.items c.self.invariant.marked;
      keys =
          c.pop.ensures ∙ ap (λ (n : ℕ). take n inside.index) left ∙ ap (take c.saturating_sub-left.result) c.self.invariant.keys
          ∙ sym (map-take key_of c.saturating_sub-left.result inside.marks.items);
      shown = nothing_shown is_key_on (record { lines = lines_of (take c.saturating_sub-left.result inside.records.items) (take c.saturating_sub-left.result inside.marks.items); cuts = cuts_in names classes }) c.pop.new.self c.forget.new.self c.forget.ensures;
      shown_others = nothing_shown is_other_on (record { lines = lines_of (take c.saturating_sub-left.result inside.records.items) (take c.saturating_sub-left.result inside.marks.items); cuts = cuts_in names classes }) c.pop.new.self c.forget-2.new.self c.forget-2.ensures;
    })

pub returns : goal.returns
returns c =
    let inside = c.self.inside in
    let lines = lines_long inside.cutters.names inside.cutters.classes inside.records.items inside.marks.items c.self.invariant.marked in
    let left : c.saturating_sub-left.result ≡ length (lines_of inside.records.items inside.marks.items) - 1 =
    c.saturating_sub-left.ensures ∙ ap (λ (n : ℕ). n - 1) (c.len.ensures ∙ inside.records.ok.0 ∙ sym lines) in
    rw (← c.self.view_is)
    (ap (λ (l : List Line). record { lines = l; names = inside.cutters.names; classes = inside.cutters.classes })
    (rw (c.truncate.ensures.items, c.truncate-2.ensures.items) (lines_take c.saturating_sub-left.result inside.records.items inside.marks.items ∙ ap (λ (n : ℕ). take n (lines_of inside.records.items inside.marks.items)) left)))
