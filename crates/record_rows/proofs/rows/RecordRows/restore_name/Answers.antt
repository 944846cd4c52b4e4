use Rattle.std.proofs.Common.{subst, sym}
use Rattle.record_rows.specs.Asking.{HasName}
use Rattle.record_rows.specs.Index.{is_key_on, is_other_on}
use Rattle.record_rows.specs.Inside.{cuts_in, lines_of}
use Rattle.record_rows.proofs.CutRows.{keys_cut, marked_cut, rows_restored}
use Rattle.record_rows.proofs.ShownRows.{nothing_shown}
use Rattle.record_rows.proofs.rows.RecordRows.restore_name.Goals as goal

pub invariant_of-self : goal.invariant_of-self
invariant_of-self c =
    record {
      marked = marked_cut c.cut_name.result c.args.name c.args.before c.self.inside.cutters c.cut_name.new.self c.self.inside.records.items c.self.inside.marks.items c.cut_name.ensures c.self.invariant.marked;
      keys = c.self.invariant.keys;
      shown = nothing_shown is_key_on (record { lines = lines_of c.self.inside.records.items c.self.inside.marks.items; cuts = cuts_in c.cut_name.new.self.names c.cut_name.new.self.classes }) c.self.inside.index c.forget.new.self c.forget.ensures;
      shown_others = nothing_shown is_other_on (record { lines = lines_of c.self.inside.records.items c.self.inside.marks.items; cuts = cuts_in c.cut_name.new.self.names c.cut_name.new.self.classes }) c.self.inside.index c.forget-2.new.self c.forget-2.ensures;
    }

pub returns-clause-restored : goal.returns-clause-restored
returns-clause-restored c =
    let inside = c.self.inside in
    let has = subst (HasName c.args.name) (sym c.self.view_is) c.requires in
    rw (← c.self.view_is) (rows_restored c.cut_name.result c.args.name c.args.before inside.cutters c.cut_name.new.self (lines_of inside.records.items inside.marks.items) c.cut_name.ensures has)

pub returns-clause-keys : goal.returns-clause-keys
returns-clause-keys c =
    let inside = c.self.inside in
    let lines = lines_of inside.records.items inside.marks.items in
    rw (← c.self.view_is) (keys_cut c.cut_name.result c.args.name c.args.before inside.cutters c.cut_name.new.self lines c.cut_name.ensures)
