use Rattle.handle_db.proofs.IndexLemmas.{forward}
use Rattle.handle_db.proofs.protocol_index.first_named.Goals as goal

-- the part begins at handle 1
pub range-requires : goal.range-requires
range-requires c = forward c.args.guid c.firmware.result c.args.next c.firmware.ensures c.requires
