use Rattle.std.proofs.Common.{◌≡◌, ◌<◌, ◌∙◌, add-one, ap, arith, length, sym}
use Rattle.std.proofs.lemmas.List.{drop_all}
use Rattle.open_records.specs.Managing.{manager_numbers, records_on}
use Rattle.open_records.specs.NumberLists.{joined}
use Rattle.open_records.specs.Keyed.{records_of}
use Rattle.std.specs.Option.{option_to_list}
use Rattle.open_records.proofs.LawProofs.{one_strong}
use Rattle.open_records.proofs.DistinctNumbers.{once_joined}
use Rattle.open_records.proofs.ManagingLemmas.{managers_at, managing_is}
use Rattle.record_rows.specs.Inside.{rows_of}
use Rattle.record_rows.specs.Rows.{entries_of}
use Rattle.record_log.proofs.managing.managers_on.Goals as goal

pub loop-guid-preserved : goal.loop-guid-preserved
loop-guid-preserved c =
    let i = c.loop-guid.guid-index in
    let protocol = c.loop-guid-item.result in
    let within : i < length c.args.protocols.now = omega arith in
    let step = managers_at (entries_of (rows_of c.args.rows.now)) c.args.handle c.args.protocols.now i protocol within c.loop-guid-item.is c.loop-guid.found.items in
    let records = records_of (entries_of (rows_of c.args.rows.now)) c.args.handle protocol.0 in
    let mine : c.add_manager.new.found.items ≡ joined c.loop-guid.found.items (manager_numbers records) =
    c.in_ok-add_manager.ensures ∙ ap (λ o. joined c.loop-guid.found.items (manager_numbers (option_to_list o))) c.holder.ensures
    ∙ ap (joined c.loop-guid.found.items) (managing_is records (one_strong (entries_of (rows_of c.args.rows.now)) c.requires.1.table.apart c.args.handle protocol.0)) in
    rw (add-one, mine) (sym step ∙ c.loop-guid.invariant)

pub returns : goal.returns
returns c =
    let none = drop_all c.loop-guid.guid-index c.args.protocols.now (omega arith) in
    let rest = ap (λ l. joined c.loop-guid.found.items (manager_numbers (records_on (entries_of (rows_of c.args.rows.now)) c.args.handle l))) none in
    sym rest ∙ c.loop-guid.invariant ∙ once_joined (manager_numbers (records_on (entries_of (rows_of c.args.rows.now)) c.args.handle c.args.protocols.now))
