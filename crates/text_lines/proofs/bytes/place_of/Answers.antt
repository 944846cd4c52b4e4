use Rattle.std.proofs.Common.{length, eqb, arith, sym, rules}
use Rattle.std.proofs.lemmas.List.Sums.{position_or_len_is}
use Rattle.text_lines.proofs.bytes.place_of.Goals as goal

pub returns-clause-value : goal.returns-clause-value
returns-clause-value c =
    sym (position_or_len_is (λ b. eqb b c.args.byte) c.args.text.now (length c.args.text.now) 0 (omega arith) (search rules) (λ h. absurd (omega (arith, h))))
