use Rattle.std.proofs.Common.{◌<◌, length, ap, sym, ◌∙◌, arith}
use Rattle.std.specs.Prelude.{Some}
use Rattle.std.proofs.lemmas.Option.{slice_get-get_or}
use Rattle.record_rows.proofs.PairLemmas.{pairs_long, pairs_second}
use Rattle.record_rows.proofs.cut_list.CutList.cut.Goals as goal

pub index-requires : goal.index-requires
index-requires g c =
    let long = pairs_long c.self.inside.owners c.self.inside.cuts.items c.self.invariant in
    omega (arith, c.requires, ap length c.self.view_is, long, c.self.invariant, c.self.inside.cuts.ok.0)

pub returns : goal.returns
returns g c =
    let cuts = c.self.inside.cuts.items in
    let long = pairs_long c.self.inside.owners cuts c.self.invariant in
    let within : c.args.number < length cuts = omega (arith, c.requires, ap length c.self.view_is, long, c.self.invariant) in
    rw (← c.self.view_is)
    (pairs_second c.self.inside.owners cuts c.args.number c.self.invariant ∙ slice_get-get_or cuts c.args.number c.index.result.now within ∙ ap Some (sym c.index.ensures))
