use Rattle.std.proofs.Common.{◌+◌, arith}
use Rattle.text_lines.proofs.LinesLemmas.{lines-feed, lines-last, rest_whole}
use Rattle.text_lines.proofs.lines.first_line.Goals as goal

pub returns-then-n-text-clause-lines : goal.returns-then-n-text-clause-lines
returns-then-n-text-clause-lines c =
    rw (rest_whole c.args.text.now (c.place_of-n.result + 1), c.without_return.ensures) (lines-feed c.args.text.now c.place_of-n.result c.place_of-n.ensures.value c.if-n-text.true)

pub returns-else-n-text-clause-lines : goal.returns-else-n-text-clause-lines
returns-else-n-text-clause-lines c =
    rw (rest_whole c.args.text.now c.place_of-n.result) (lines-last c.args.text.now c.place_of-n.result c.place_of-n.ensures.value (omega arith) (omega arith))
