use Rattle.std.proofs.Common.{◌≡◌, ap, refl, sym, ◌∙◌}
use Rattle.std.specs.Prelude.{Ok, not, is_ok, is_some, unwrap_or}
use Rattle.handle_db.specs.Installing.{install_refusals}
use Rattle.handle_db.specs.declared.handle_entry.Interface.{Interface}
use Rattle.world_model.specs.declared.change.Change.{Change}
use Rattle.world_model.specs.declared.change.Change.TheVariants.{Install}
use Rattle.world_model.specs.Interfaces.{install_answer, interface}
use Rattle.world_model.specs.UndoLaws.{IsNoted}
use Rattle.world_model.proofs.UndoNoted.{install_is_noted}
use Rattle.soft_log.specs.Keeping.{MarkedSoft, merged}
use Rattle.soft_log.proofs.Merged.{noted_inside}
use Rattle.world_model.specs.Kept.{AreRecordsKept, IsKept}
use Rattle.world_model.specs.Records.{with_records}
use Rattle.world_model.proofs.KeepingInterfaces.{installing}
use Rattle.world_model.proofs.KeepingRecords.{kept_with}
use Rattle.soft_log.proofs.Noting.{flipped, kept_noted, unless_value}
use Rattle.soft_log.proofs.soft_log.SoftLog.install.Goals as goal

pub invariant_of-self-2 : goal.invariant_of-self-2
invariant_of-self-2 c =
    let inside = c.self.inside in
    let change : Change = Install c.in_ok-on.on c.args.guid c.is_none-made.result in
    let answer : install_answer c.args.handle c.args.guid inside.soft ≡ Ok c.in_ok-on.on = c.in_ok-on.ensures.answer in
    let on : c.in_ok-on.on ≡ unwrap_or c.args.handle inside.soft.database.next = sym (unless_value (install_refusals c.args.handle c.args.guid inside.soft.database) (unwrap_or c.args.handle inside.soft.database.next) c.in_ok-on.on answer) in
    let made : c.is_none-made.result ≡ not (is_some c.args.handle) = flipped c.is_none-made.result (is_some c.args.handle) c.is_none-made.ensures in
    let new : Interface = interface c.args.guid c.args.interface c.args.owner in
    let is : IsNoted change inside.soft c.install.new.self = rw (on, made, c.in_ok-on.ensures.ok) (install_is_noted inside.soft c.args.handle new c.is_kept.ensures (ap is_ok answer)) in
    let there : IsKept (with_records inside.records.now inside.soft) = kept_with inside.soft inside.records.now c.is_kept.ensures c.self.invariant.now in
    let now : AreRecordsKept c.install.new.self.database inside.records.now = rw c.in_ok-on.ensures.ok (installing (with_records inside.records.now inside.soft) c.args.handle new there (ap is_ok answer)).records in
    rw (c.note.ensures, c.reserve.ensures.marks) (noted_inside inside.log.marks change inside.soft c.install.new.self inside.records inside.records c.is_kept.ensures c.is_kept-2.ensures is refl now c.self.invariant)

pub returns-clause-marks : goal.returns-clause-marks
returns-clause-marks c =
    let inside = c.self.inside in
    let change : Change = Install c.in_ok-on.on c.args.guid c.is_none-made.result in
    let answer : install_answer c.args.handle c.args.guid inside.soft ≡ Ok c.in_ok-on.on = c.in_ok-on.ensures.answer in
    let on : c.in_ok-on.on ≡ unwrap_or c.args.handle inside.soft.database.next = sym (unless_value (install_refusals c.args.handle c.args.guid inside.soft.database) (unwrap_or c.args.handle inside.soft.database.next) c.in_ok-on.on answer) in
    let made : c.is_none-made.result ≡ not (is_some c.args.handle) = flipped c.is_none-made.result (is_some c.args.handle) c.is_none-made.ensures in
    let new : Interface = interface c.args.guid c.args.interface c.args.owner in
    let is : IsNoted change inside.soft c.install.new.self = rw (on, made, c.in_ok-on.ensures.ok) (install_is_noted inside.soft c.args.handle new c.is_kept.ensures (ap is_ok answer)) in
    rw (c.note.ensures, c.reserve.ensures.marks) (ap (merged inside.records.marks) (kept_noted inside.log.marks change inside.soft c.install.new.self c.is_kept.ensures c.is_kept-2.ensures is))
    ∙ ap (λ (v : MarkedSoft). v.marks) c.self.view_is
