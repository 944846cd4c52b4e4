use Rattle.std.proofs.Common.{◌∙◌, sym}
use Rattle.std.proofs.lemmas.Result.{err_from_is_err_and}
use Rattle.service_model.specs.Many.{name_readable}
use Rattle.service_rows.proofs.RangeLines.{each_on, each_stop}
use Rattle.service_rows.proofs.many.names_readable.Goals as goal

pub returns-in_err-name_readable : goal.returns-in_err-name_readable
returns-in_err-name_readable c =
    let stops = sym c.name_readable.ensures ∙ c.in_err-name_readable.was in
    let p = err_from_is_err_and c.from_residual.result c.from_residual.ensures.1 in
    rw (p.1, p.2) (sym (each_stop (name_readable c.args.list c.args.w.now.now) c.loop-i.i c.args.count _ c.loop-i-test.true stops) ∙ c.loop-i.invariant)

pub loop-i-preserved : goal.loop-i-preserved
loop-i-preserved c =
    let on = sym c.name_readable.ensures ∙ c.in_ok-name_readable.was in
    sym (each_on (name_readable c.args.list c.args.w.now.now) c.loop-i.i c.args.count c.loop-i-test.true on) ∙ c.loop-i.invariant
