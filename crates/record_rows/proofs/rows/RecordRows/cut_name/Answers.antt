use Rattle.record_rows.specs.Index.{is_key_on, is_other_on}
use Rattle.record_rows.specs.Inside.{cuts_in, lines_of}
use Rattle.record_rows.proofs.CutRows.{keys_cut, marked_cut, rows_cut}
use Rattle.record_rows.proofs.ShownRows.{nothing_shown}
use Rattle.record_rows.proofs.rows.RecordRows.cut_name.Goals as goal

pub invariant_of-self : goal.invariant_of-self
invariant_of-self c =
    record {
      marked = marked_cut c.cut_name.result c.args.name c.len-place.result c.self.inside.cutters c.cut_name.new.self c.self.inside.records.items c.self.inside.marks.items c.cut_name.ensures c.self.invariant.marked;
      keys = c.self.invariant.keys;
      shown = nothing_shown is_key_on (record { lines = lines_of c.self.inside.records.items c.self.inside.marks.items; cuts = cuts_in c.cut_name.new.self.names c.cut_name.new.self.classes }) c.self.inside.index c.forget.new.self c.forget.ensures;
      shown_others = nothing_shown is_other_on (record { lines = lines_of c.self.inside.records.items c.self.inside.marks.items; cuts = cuts_in c.cut_name.new.self.names c.cut_name.new.self.classes }) c.self.inside.index c.forget-2.new.self c.forget-2.ensures;
    }

pub returns-clause-cut : goal.returns-clause-cut
returns-clause-cut c =
    let inside = c.self.inside in
    let done = rows_cut c.cut_name.result c.args.name c.len-place.result inside.cutters c.cut_name.new.self inside.records.items inside.marks.items c.cut_name.ensures c.self.invariant.marked in
    rw (← c.len-place.ensures, ← c.self.view_is) done

pub returns-clause-keys : goal.returns-clause-keys
returns-clause-keys c =
    let inside = c.self.inside in
    let lines = lines_of inside.records.items inside.marks.items in
    rw (← c.self.view_is) (keys_cut c.cut_name.result c.args.name c.len-place.result inside.cutters c.cut_name.new.self lines c.cut_name.ensures)
