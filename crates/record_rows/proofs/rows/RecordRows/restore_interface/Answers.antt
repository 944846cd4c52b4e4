use Rattle.std.proofs.Common.{◌≡◌, ℕ, Bool, true, false, not, nat_eq, refl, ap, subst, sym, ◌∙◌}
use Rattle.std.proofs.lemmas.Bool.{eqb-true}
use Rattle.record_rows.specs.Asking.{HasClass}
use Rattle.record_rows.specs.Index.{is_key_on, is_other_on}
use Rattle.record_rows.specs.Inside.{cuts_in, lines_of}
use Rattle.record_rows.specs.Rows.{Cuts, RowsView}
use Rattle.record_rows.specs.ShownPlaces.{AreShownPlaces}
use Rattle.record_rows.proofs.CutRows.{class_keys_cut, class_marked_cut, class_rows_restored, weak_alone}
use Rattle.record_rows.proofs.ShownRows.{forgotten_or_same, nothing_shown, other_rows, others_shown}
use Rattle.record_rows.proofs.rows.RecordRows.restore_interface.Goals as goal

pub invariant_of-self : goal.invariant_of-self
invariant_of-self c =
    let inside = c.self.inside in
    record {
      marked = class_marked_cut c.cut_interface.result (c.args.handle, c.args.guid) (λ before. c.args.before) inside.cutters c.cut_interface.new.self inside.records.items inside.marks.items c.cut_interface.ensures c.self.invariant.marked;
      keys = c.self.invariant.keys;
      shown = nothing_shown is_key_on (record { lines = lines_of c.self.inside.records.items c.self.inside.marks.items; cuts = cuts_in c.cut_interface.new.self.names c.cut_interface.new.self.classes }) c.self.inside.index c.forget.new.self c.forget.ensures;
      shown_others =
          forgotten_or_same (not (nat_eq c.other_cut.result c.args.before.1)) is_other_on (record { lines = lines_of c.self.inside.records.items c.self.inside.marks.items; cuts = cuts_in c.cut_interface.new.self.names c.cut_interface.new.self.classes }) inside.index inside.shown_others c.forget_if.new.self c.forget_if.ensures.forgotten c.forget_if.ensures.same
          (λ weak.
          (let rows : RowsView = record { lines = lines_of inside.records.items inside.marks.items; cuts = cuts_in inside.cutters.names inside.cutters.classes } in
          let cut = weak_alone c.cut_interface.result (c.args.handle, c.args.guid) c.args.before.0 (λ before. c.args.before) inside.cutters c.cut_interface.new.self c.cut_interface.ensures
          (ap (λ (n : ℕ). (c.args.before.0, n)) (sym (eqb-true c.other_cut.result c.args.before.1 (kept weak)) ∙ c.other_cut.ensures)) in
          subst (λ (cuts : Cuts). AreShownPlaces is_other_on (record rows { cuts = cuts }) inside.index inside.shown_others) (sym cut.1)
          (others_shown (c.args.handle, c.args.guid) cut.0 rows inside.index inside.shown_others (rw (c.self.invariant.keys) (other_rows inside.cutters.names inside.cutters.classes inside.records.items inside.marks.items c.self.invariant.marked)) c.self.invariant.shown_others)));
    }
  where
    kept_is : (b : Bool) → not b ≡ false → b ≡ true
    kept_is true is = refl
    kept_is false is = absurd cc

    kept : not (nat_eq c.other_cut.result c.args.before.1) ≡ false → nat_eq c.other_cut.result c.args.before.1 ≡ true
    kept is = kept_is (nat_eq c.other_cut.result c.args.before.1) is

pub returns-clause-restored : goal.returns-clause-restored
returns-clause-restored c =
    let inside = c.self.inside in
    let has = subst (HasClass (c.args.handle, c.args.guid)) (sym c.self.view_is) c.requires in
    rw (← c.self.view_is) (class_rows_restored c.cut_interface.result (c.args.handle, c.args.guid) c.args.before inside.cutters c.cut_interface.new.self (lines_of inside.records.items inside.marks.items) c.cut_interface.ensures has)

pub returns-clause-keys : goal.returns-clause-keys
returns-clause-keys c =
    let inside = c.self.inside in
    rw (← c.self.view_is) (class_keys_cut c.cut_interface.result (c.args.handle, c.args.guid) (λ before. c.args.before) inside.cutters c.cut_interface.new.self (lines_of inside.records.items inside.marks.items) c.cut_interface.ensures)
