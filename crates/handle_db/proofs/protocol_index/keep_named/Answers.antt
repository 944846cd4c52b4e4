use Rattle.std.proofs.Common.{◌≡◌, filter, rules}
use Rattle.std.proofs.lemmas.Fn.{filter_same}
use Rattle.handle_db.specs.Database.{has_in}
use Rattle.handle_db.specs.ProtocolIndex.{Naming}
use Rattle.handle_db.proofs.IndexLemmas.{kept_contains}
use Rattle.handle_db.proofs.protocol_index.keep_named.Goals as goal

-- those for which the closure says so stay
pub returns : goal.returns
returns c =
    let kept : c.retain.new.self.keys ≡ filter (λ (one : Naming). has_in one.1 one.0 c.args.entries.now) c.args.index.now.keys =
    filter_same _ _ _ (λ x b f' k. search rules) _ _ c.retain.ensures.filtered in
    kept_contains c.args.entries.now c.args.index.now c.retain.new.self kept
