use Rattle.std.proofs.Common.{◌∙◌, sym}
use Rattle.std.proofs.lemmas.Result.{err_from_is_err_and}
use Rattle.service_model.specs.Many.{pair_installed_on}
use Rattle.service_rows.proofs.RangeLines.{each_on, each_stop}
use Rattle.service_rows.proofs.many.all_installed_on.Goals as goal

pub returns-in_err-pair_installed_on : goal.returns-in_err-pair_installed_on
returns-in_err-pair_installed_on c =
    let stops = sym c.pair_installed_on.ensures ∙ c.in_err-pair_installed_on.was in
    let p = err_from_is_err_and c.from_residual.result c.from_residual.ensures.1 in
    rw (p.1, p.2) (sym (each_stop (pair_installed_on c.args.handle c.args.list c.args.w.now.now) c.loop-i.i c.args.count _ c.loop-i-test.true stops) ∙ c.loop-i.invariant)

pub loop-i-preserved : goal.loop-i-preserved
loop-i-preserved c =
    let on = sym c.pair_installed_on.ensures ∙ c.in_ok-pair_installed_on.was in
    sym (each_on (pair_installed_on c.args.handle c.args.list c.args.w.now.now) c.loop-i.i c.args.count c.loop-i-test.true on) ∙ c.loop-i.invariant
