use Rattle.std.proofs.Common.{◌≡◌, ◌||◌, Bool, true, false, nat_eq, None, refl, sym, ◌∙◌}
use Rattle.open_records.specs.Changing.{is_open}
use Rattle.record_rows.specs.Index.{RowKey, is_key}
use Rattle.record_rows.proofs.CutLemmas.{nat_itself}
use Rattle.record_rows.proofs.KeptRows.{alike_at, no_line_named, no_line_on}
use Rattle.record_rows.proofs.Walks.{last_by_index, none_last, none_open, none_open_on, open_rows}
use Rattle.record_rows.proofs.rows.RecordRows.last_by.Goals as goal

pub returns-in_err-interface : goal.returns-in_err-interface
returns-in_err-interface c =
    let opener = c.args.opener in
    let lines = c.args.self.now.lines in
    let none = no_line_on c.self.invariant c.self.view_is (c.args.handle, c.args.guid) c.in_err-interface.ensures in
    c.from_residual.ensures
    ∙ sym (none_last (is_open c.args.handle c.args.guid opener.0 opener.1 opener.2) 0 None lines (none_open_on c.args.handle c.args.guid opener.0 opener.1 opener.2 lines none))

pub returns-in_err-agent : goal.returns-in_err-agent
returns-in_err-agent c =
    let opener = c.args.opener in
    let lines = c.args.self.now.lines in
    let none = no_line_named c.self.invariant c.self.view_is opener.0 c.in_err-agent.ensures in
    let named : (nat_eq opener.0 opener.0 || nat_eq opener.1 opener.0) ≡ true = rw (nat_itself opener.0) refl in
    c.from_residual-in_err-agent.ensures
    ∙ sym (none_last (is_open c.args.handle c.args.guid opener.0 opener.1 opener.2) 0 None lines (none_open c.args.handle c.args.guid opener.0 opener.1 opener.2 opener.0 named lines none))

pub returns-in_err-controller : goal.returns-in_err-controller
returns-in_err-controller c =
    let opener = c.args.opener in
    let lines = c.args.self.now.lines in
    let none = no_line_named c.self.invariant c.self.view_is opener.1 c.in_err-controller.ensures in
    let named : (nat_eq opener.0 opener.1 || nat_eq opener.1 opener.1) ≡ true = rw (nat_itself opener.1) (or_true (nat_eq opener.0 opener.1)) in
    c.from_residual-in_err-controller.ensures
    ∙ sym (none_last (is_open c.args.handle c.args.guid opener.0 opener.1 opener.2) 0 None lines (none_open c.args.handle c.args.guid opener.0 opener.1 opener.2 opener.1 named lines none))
  where
    or_true : (b : Bool) → (b || true) ≡ true
    or_true true = refl
    or_true false = refl

pub returns : goal.returns
returns c =
    let inside = c.self.inside in
    let opener = c.args.opener in
    let test = is_open c.args.handle c.args.guid opener.0 opener.1 opener.2 in
    let key : RowKey = (c.in_ok-interface.interface, c.in_ok-agent.agent, c.in_ok-controller.controller, opener.2) in
    let alike = alike_at c.self.invariant c.self.view_is (is_key key) test
    (open_rows inside.cutters.names inside.cutters.classes c.soundness.ensures.names c.soundness.ensures.classes (c.args.handle, c.args.guid) c.in_ok-interface.interface c.in_ok-interface.ensures
    opener.0 opener.1 opener.2 c.in_ok-agent.agent c.in_ok-controller.controller c.in_ok-agent.ensures c.in_ok-controller.ensures inside.records.items inside.marks.items c.self.invariant.marked) in
    c.last.ensures ∙ last_by_index (is_key key) test inside.index c.args.self.now.lines alike
