use Rattle.std.proofs.Common.{◌≡◌, ℕ, Bool, None, ap, subst, sym, ◌∙◌}
use Rattle.std.specs.Bool.{then_some}
use Rattle.std.specs.Prelude.{Option, unwrap_or}
use Rattle.open_records.specs.Interfaces.{Interface}
use Rattle.record_rows.specs.Index.{is_key_on, is_other_on}
use Rattle.record_rows.specs.Inside.{cuts_in, lines_of}
use Rattle.record_rows.specs.Rows.{Cuts, RowsView}
use Rattle.record_rows.specs.ShownPlaces.{AreShownPlaces}
use Rattle.record_rows.proofs.CutRows.{ClassCutOrNot, class_keys_cut, class_marked_cut, class_rows_cut, given_or_not, weak_alone}
use Rattle.record_rows.proofs.ShownRows.{forgotten_or_same, nothing_shown, other_rows, others_shown}
use Rattle.record_rows.proofs.rows.RecordRows.cut_interface.Goals as goal

pub invariant_of-self : goal.invariant_of-self
invariant_of-self c =
    let inside = c.self.inside in
    record {
      marked = class_marked_cut c.cut_interface.result (c.args.handle, c.args.guid) (λ before. (c.len-place.result, unwrap_or c.then_some.result before.1)) inside.cutters c.cut_interface.new.self inside.records.items inside.marks.items c.cut_interface.ensures c.self.invariant.marked;
      keys = c.self.invariant.keys;
      shown = nothing_shown is_key_on (record { lines = lines_of c.self.inside.records.items c.self.inside.marks.items; cuts = cuts_in c.cut_interface.new.self.names c.cut_interface.new.self.classes }) c.self.inside.index c.forget.new.self c.forget.ensures;
      shown_others =
          forgotten_or_same c.args.all is_other_on (record { lines = lines_of c.self.inside.records.items c.self.inside.marks.items; cuts = cuts_in c.cut_interface.new.self.names c.cut_interface.new.self.classes }) inside.index inside.shown_others c.forget_if.new.self c.forget_if.ensures.forgotten c.forget_if.ensures.same
          (λ weak.
          (let rows : RowsView = record { lines = lines_of inside.records.items inside.marks.items; cuts = cuts_in inside.cutters.names inside.cutters.classes } in
          let given : c.then_some.result ≡ None = c.then_some.ensures ∙ ap (λ (b : Bool). then_some b c.len-place.result) weak in
          let cut = weak_alone c.cut_interface.result (c.args.handle, c.args.guid) c.len-place.result (λ before. (c.len-place.result, unwrap_or c.then_some.result before.1)) inside.cutters c.cut_interface.new.self c.cut_interface.ensures
          (ap (λ (o : Option ℕ). (c.len-place.result, unwrap_or o (rows.cuts.other (c.args.handle, c.args.guid)))) given) in
          subst (λ (cuts : Cuts). AreShownPlaces is_other_on (record rows { cuts = cuts }) inside.index inside.shown_others) (sym cut.1)
          (others_shown (c.args.handle, c.args.guid) cut.0 rows inside.index inside.shown_others (rw (c.self.invariant.keys) (other_rows inside.cutters.names inside.cutters.classes inside.records.items inside.marks.items c.self.invariant.marked)) c.self.invariant.shown_others)));
    }

pub returns-clause-cut : goal.returns-clause-cut
returns-clause-cut c =
    let inside = c.self.inside in
    let interface : Interface = (c.args.handle, c.args.guid) in
    let cut : ClassCutOrNot c.cut_interface.result interface (λ (before : ℕ × ℕ). (c.len-place.result, unwrap_or (then_some c.args.all c.len-place.result) before.1)) inside.cutters c.cut_interface.new.self =
    subst (λ (other : Option ℕ). ClassCutOrNot c.cut_interface.result interface (λ (before : ℕ × ℕ). (c.len-place.result, unwrap_or other before.1)) inside.cutters c.cut_interface.new.self) c.then_some.ensures c.cut_interface.ensures in
    rw (← c.len-place.ensures, ← c.self.view_is)
    (class_rows_cut c.args.all c.cut_interface.result interface c.len-place.result inside.cutters c.cut_interface.new.self inside.records.items inside.marks.items
    (given_or_not c.args.all c.cut_interface.result interface c.len-place.result inside.cutters c.cut_interface.new.self cut) c.self.invariant.marked)

pub returns-clause-keys : goal.returns-clause-keys
returns-clause-keys c =
    let inside = c.self.inside in
    rw (← c.self.view_is) (class_keys_cut c.cut_interface.result (c.args.handle, c.args.guid) (λ before. (c.len-place.result, unwrap_or c.then_some.result before.1)) inside.cutters c.cut_interface.new.self (lines_of inside.records.items inside.marks.items) c.cut_interface.ensures)
