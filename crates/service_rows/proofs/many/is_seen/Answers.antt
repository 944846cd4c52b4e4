use Rattle.std.proofs.Common.{◌∙◌, sym}
use Rattle.service_model.specs.Many.{is_named, pair_name}
use Rattle.service_rows.proofs.RangeLines.{any_here, any_on}
use Rattle.service_rows.proofs.many.is_seen.Goals as goal

pub returns-then-is_named : goal.returns-then-is_named
returns-then-is_named c =
    let holds = sym c.is_named.ensures ∙ c.if-is_named.true in
    sym (any_here (λ i. is_named c.args.name (pair_name c.args.list i c.args.w.now.now)) c.loop-i.i c.args.seen c.loop-i-test.true holds) ∙ c.loop-i.invariant

pub loop-i-preserved : goal.loop-i-preserved
loop-i-preserved c =
    let fails = sym c.is_named.ensures ∙ c.if-is_named.false in
    sym (any_on (λ i. is_named c.args.name (pair_name c.args.list i c.args.w.now.now)) c.loop-i.i c.args.seen c.loop-i-test.true fails) ∙ c.loop-i.invariant
