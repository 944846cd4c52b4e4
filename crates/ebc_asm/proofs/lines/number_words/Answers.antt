use Rattle.std.proofs.Common.{rules, tests, length, nat_lt}
use Rattle.std.proofs.lemmas.Iterator.Consumers.{map_from_collect, YieldsList-from_filter}
use Rattle.std.proofs.lemmas.Iterator.Splits.{YieldsList-from_slice_split}
use Rattle.ebc_asm.specs.Assembly.{is_break}
use Rattle.ebc_asm.proofs.lines.number_words.Goals as goal

-- the chain yields the parts that are some word
pub returns : goal.returns
returns c =
    map_from_collect _ c.collect.ensures.ran (YieldsList-from_filter _ (λ word. nat_lt 0 (length word)) (YieldsList-from_slice_split _ is_break c.args.text.now (cc) (cc) (cc) (λ x r q k. search (rules, tests))) c.filter.ensures.closure (λ x r q k. search (rules, tests)))
