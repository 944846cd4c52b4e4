use Rattle.std.proofs.Common.{◌≡◌, true, ap, sym, ◌∙◌}
use Rattle.std.specs.List.{list_all}
use Rattle.script_text.specs.Numbers.{is_digit}
use Rattle.replay_shell.proofs.WordLemmas.{number_is}
use Rattle.replay_shell.proofs.words.number_in.Goals as goal

pub returns-then-are_digits : goal.returns-then-are_digits
returns-then-are_digits c =
    let word = c.args.word.now in
    let digits : list_all (is_digit 10) word ≡ true =
    ap (list_all (is_digit 10)) (sym c.as_bytes.ensures.value) ∙ sym c.are_digits.ensures ∙ c.if-are_digits.true in
    c.ok.ensures.value ∙ number_is word c.parse.result c.requires digits c.parse.ensures.value.0
