use Rattle.std.proofs.Common.{◌≡◌, ◌<◌, ◌∙◌, add-one, ap, arith, length, sym}
use Rattle.std.proofs.lemmas.List.{drop_all}
use Rattle.open_records.specs.Managing.{child_numbers, records_on}
use Rattle.open_records.specs.NumberLists.{joined}
use Rattle.open_records.specs.Keyed.{records_of}
use Rattle.open_records.proofs.DistinctNumbers.{once_joined}
use Rattle.open_records.proofs.ManagingLemmas.{children_at}
use Rattle.record_rows.specs.Inside.{rows_of}
use Rattle.record_rows.specs.Rows.{entries_of}
use Rattle.record_log.proofs.managing.children_on.Goals as goal

pub loop-guid-preserved : goal.loop-guid-preserved
loop-guid-preserved c =
    let i = c.loop-guid.guid-index in
    let protocol = c.loop-guid-item.result in
    let within : i < length c.args.protocols.now = omega arith in
    let step = children_at (entries_of (rows_of c.args.rows.now)) c.args.handle c.args.protocols.now i protocol within c.loop-guid-item.is c.args.agent c.loop-guid.found in
    let mine : c.add_children_on.new.found ≡ joined c.loop-guid.found (child_numbers c.args.agent (records_of (entries_of (rows_of c.args.rows.now)) c.args.handle protocol.0)) = c.in_ok-add_children_on.ensures in
    rw (add-one, mine) (sym step ∙ c.loop-guid.invariant)

pub returns : goal.returns
returns c =
    let none = drop_all c.loop-guid.guid-index c.args.protocols.now (omega arith) in
    let rest = ap (λ l. joined c.loop-guid.found (child_numbers c.args.agent (records_on (entries_of (rows_of c.args.rows.now)) c.args.handle l))) none in
    c.into_list.ensures ∙ sym rest ∙ c.loop-guid.invariant ∙ once_joined (child_numbers c.args.agent (records_on (entries_of (rows_of c.args.rows.now)) c.args.handle c.args.protocols.now))
