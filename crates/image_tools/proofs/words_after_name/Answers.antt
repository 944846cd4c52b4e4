use Rattle.std.proofs.Common.{◌≡◌, length, refl}
use Rattle.std.specs.Vec.Iter.{into_iter_items, into_iter_len}
use Rattle.std.proofs.lemmas.Iterator.{items_from_collect}
use Rattle.std.proofs.lemmas.Iterator.Adapters.{YieldsList-from_vec, YieldsList-from_skip}
use Rattle.std.proofs.lemmas.Iterator.Consumers.{YieldsList-at}
use Rattle.image_tools.proofs.words_after_name.Goals as goal

-- the chain yields the words without the first
pub returns : goal.returns
returns c =
    let sizes : into_iter_len c.args.args ≡ length (into_iter_items c.args.args) = c.args.args.rest.ok.0 in
    items_from_collect _ c.collect.ensures.ran (YieldsList-from_skip 1 (YieldsList-at c.skip.ensures.source (YieldsList-from_vec (into_iter_items c.args.args) refl sizes)) c.skip.ensures.count)
