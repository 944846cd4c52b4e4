use Rattle.std.proofs.Common.{◌≡◌, ◌+◌, ◌≤◌, ◌∙◌, [], Err, ap, arith, refl, rules}
use Rattle.std.specs.Str.Lines.{lines}
use Rattle.script_text.specs.declared.script.TheConstants.{MOST_LINES}
use Rattle.pci_model.specs.BoardRules.{board_fault}
use Rattle.script_text.specs.declared.script.Script.{Script}
use Rattle.script_text.specs.ScriptGrammar.{with_item}
use Rattle.script_text.proofs.ScriptLemmas.{ReadSoFar-end, ReadSoFar-line, ReadSoFar-refused, lines-empty, script_of-legal}
use Rattle.script_text.proofs.read.parse.Goals as goal

pub loop-text-init : goal.loop-text-init
loop-text-init c =
    record {
      before = [];
      whole = refl;
      refusal = refl;
      given = c.empty_script-script.ensures;
      counted = refl;
      small = omega arith;
      board = ap (λ (s : Script). board_fault s.board) c.empty_script-script.ensures ∙ c.lines_are_checked.ensures.none;
    }

pub loop-text-preserved : goal.loop-text-preserved
loop-text-preserved c =
    let script = c.loop-text.script in
    let number = c.loop-text.number in
    let line = c.first_line.result.0.now in
    let rest = c.first_line.result.1.now in
    let kept : c.keep.new.script ≡ with_item script c.in_ok-item.item = c.in_ok-keep.ensures in
    let counts : number ≤ MOST_LINES → c.saturating_add-number.result ≡ number + 1 = λ small. omega arith in
    ReadSoFar-line c.lines_are_checked.ensures.more c.args.bytes.now c.loop-text.text.now rest line script c.keep.new.script number c.saturating_add-number.result c.in_ok-item.item
    c.loop-text.invariant c.first_line.ensures.lines c.in_ok-item.ensures kept counts

pub returns : goal.returns
returns c =
    let none : lines c.loop-text.text.now ≡ [] = lines-empty c.loop-text.text.now (search rules) in
    let whole = ReadSoFar-end c.args.bytes.now c.loop-text.text.now c.loop-text.script c.loop-text.number c.loop-text.invariant none in
    record {
      script = whole;
      board = c.loop-text.invariant.board;
      budgets = script_of-legal c.args.bytes.now c.loop-text.script whole;
    }

pub returns-in_err-item : goal.returns-in_err-item
returns-in_err-item c =
    let fault : c.from_residual.result ≡ Err c.in_err-item.field-0.0 = search rules in
    rw fault (record {
      script = ReadSoFar-refused c.args.bytes.now c.loop-text.text.now c.first_line.result.0.now (lines c.first_line.result.1.now) c.loop-text.script c.loop-text.number c.in_err-item.field-0.0
          c.loop-text.invariant c.first_line.ensures.lines c.in_err-item.ensures;
      board = tt;
      budgets = tt;
    })
