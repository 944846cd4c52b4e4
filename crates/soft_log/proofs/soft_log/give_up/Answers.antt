use Rattle.std.proofs.Common.{◌≡◌, ap, ◌∙◌}
use Rattle.fw_types.specs.declared.limits.TheConstants.{MOST_RECORDS}
use Rattle.open_records.specs.OpenRecords.{RecordTable}
use Rattle.open_records.specs.Parties.{with_live_parties}
use Rattle.handle_db.specs.Database.{Database}
use Rattle.soft_log.proofs.Merged.{given_up}
use Rattle.soft_log.proofs.soft_log.give_up.Goals as goal

pub returns : goal.returns
returns c =
    let table : RecordTable = c.clear-2.new.self.now in
    let left : c.drop_dead.new.self.now ≡ with_live_parties c.args.soft.now.database table = c.drop_dead.ensures.now ∙ ap (λ (db : Database). with_live_parties db table) c.db.ensures in
    let limit : table.limit ≡ MOST_RECORDS = ap (λ (t : RecordTable). t.limit) c.clear-2.ensures.now ∙ c.requires in
    given_up c.args.soft.now c.clear.new.self.marks table c.drop_dead.new.self c.clear.ensures c.drop_dead.ensures.marks left c.soundness.ensures limit
