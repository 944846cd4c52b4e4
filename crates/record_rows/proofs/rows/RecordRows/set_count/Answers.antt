use Rattle.std.proofs.Common.{◌≡◌, ◌≤◌, ℕ, List, length, set, ap, subst, sym, ◌∙◌}
use Rattle.open_records.specs.Records.{recounted}
use Rattle.open_records.specs.declared.open_record.KeyedRecord.{KeyedRecord}
use Rattle.record_rows.specs.Index.{is_key_on, is_other_on}
use Rattle.record_rows.specs.Inside.{cuts_in, lines_of}
use Rattle.record_rows.specs.RowsKept.{AreRowsKept}
use Rattle.record_rows.specs.Rows.{Line, counted_at}
use Rattle.record_rows.specs.ShownPlaces.{AreShownPlaces}
use Rattle.record_rows.proofs.MarkLemmas.{counted_past, lines_counted, lines_long, marked_counted}
use Rattle.record_rows.proofs.ShownRows.{shown_recounted}
use Rattle.record_rows.proofs.rows.RecordRows.set_count.Goals as goal

pub invariant_of-self : goal.invariant_of-self
invariant_of-self c =
    let inside = c.self.inside in
    let marked = marked_counted inside.cutters.names inside.cutters.classes inside.records.items inside.marks.items c.args.place c.args.count c.index_mut.result.now c.self.invariant.marked in
    subst (λ (one : KeyedRecord). AreRowsKept inside.cutters.names inside.cutters.classes (set inside.records.items c.args.place (record one { rec = recounted c.args.count one.rec })) inside.marks.items inside.index inside.shown inside.shown_others) (sym c.index_mut.ensures.value)
    (record {
      marked = marked;
      keys = c.self.invariant.keys;
      shown =
          subst (λ (lines : List Line). AreShownPlaces is_key_on (record { lines = lines; cuts = cuts_in inside.cutters.names inside.cutters.classes }) inside.index inside.shown)
          (sym (lines_counted inside.records.items inside.marks.items c.args.place c.args.count c.index_mut.result.now))
          (shown_recounted is_key_on (record { lines = lines_of inside.records.items inside.marks.items; cuts = cuts_in inside.cutters.names inside.cutters.classes }) inside.index inside.shown c.args.place c.args.count c.self.invariant.shown);
      shown_others =
          subst (λ (lines : List Line). AreShownPlaces is_other_on (record { lines = lines; cuts = cuts_in inside.cutters.names inside.cutters.classes }) inside.index inside.shown_others)
          (sym (lines_counted inside.records.items inside.marks.items c.args.place c.args.count c.index_mut.result.now))
          (shown_recounted is_other_on (record { lines = lines_of inside.records.items inside.marks.items; cuts = cuts_in inside.cutters.names inside.cutters.classes }) inside.index inside.shown_others c.args.place c.args.count c.self.invariant.shown_others);
    })

pub returns-then-place-len : goal.returns-then-place-len
returns-then-place-len c =
    let inside = c.self.inside in
    let counted = lines_counted inside.records.items inside.marks.items c.args.place c.args.count c.index_mut.result.now in
    let one : lines_of (set inside.records.items c.args.place (record c.index_mut.result.now { rec = recounted c.args.count c.index_mut.result.now.rec })) inside.marks.items ≡ counted_at c.args.place c.args.count (lines_of inside.records.items inside.marks.items) =
    ap (λ (one : KeyedRecord). lines_of (set inside.records.items c.args.place (record one { rec = recounted c.args.count one.rec })) inside.marks.items) c.index_mut.ensures.value ∙ counted in
    rw (← c.self.view_is) (ap (λ (lines : List Line). record { lines = lines; names = inside.cutters.names; classes = inside.cutters.classes }) one)

pub returns-else-place-len : goal.returns-else-place-len
returns-else-place-len c =
    let inside = c.self.inside in
    let long : length (lines_of inside.records.items inside.marks.items) ≡ c.len.result =
    lines_long inside.cutters.names inside.cutters.classes inside.records.items inside.marks.items c.self.invariant.marked ∙ sym (c.len.ensures ∙ inside.records.ok.0) in
    let past : length (lines_of inside.records.items inside.marks.items) ≤ c.args.place = subst (λ (n : ℕ). n ≤ c.args.place) (sym long) c.if-place-len.false in
    rw (← c.self.view_is)
    (ap (λ (lines : List Line). record { lines = lines; names = inside.cutters.names; classes = inside.cutters.classes })
    (sym (counted_past (lines_of inside.records.items inside.marks.items) c.args.place c.args.count past)))
