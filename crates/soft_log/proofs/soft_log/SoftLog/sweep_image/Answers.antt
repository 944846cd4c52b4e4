use Rattle.std.proofs.Common.{◌≡◌, ℕ, not, [], Option, Some, None, ap, sym, refl, ◌∙◌}
use Rattle.open_records.specs.OpenRecords.{RecordTable}
use Rattle.open_records.specs.Parties.{belongs_to}
use Rattle.open_records.specs.declared.open_record.KeyedRecord.{KeyedRecord}
use Rattle.world_model.specs.declared.image.LoadedImage.{LoadedImage}
use Rattle.world_model.specs.ImageSweep.{database_without, image_swept, swept_of}
use Rattle.world_model.specs.Images.{image_of}
use Rattle.world_model.specs.Kept.{AreRecordsKept}
use Rattle.world_model.specs.Records.{with_records}
use Rattle.world_model.proofs.KeepingRecords.{live_kept}
use Rattle.world_model.proofs.KeepingSweeps.{records-in_turn}
use Rattle.world_model.proofs.RecordParties.{records-filter}
use Rattle.soft_log.specs.Keeping.{MarkedSoft, kept_from}
use Rattle.soft_log.proofs.Merged.{none_inside, none_merged}
use Rattle.soft_log.proofs.soft_log.SoftLog.sweep_image.Goals as goal

pub returns-in_default-clause-now : goal.returns-in_default-clause-now
unfolding image_swept
returns-in_default-clause-now c =
    let inside = c.self.inside in
    let found : image_of c.args.handle inside.soft.images ≡ None = ap (λ (n : ℕ). image_of n inside.soft.images) (sym c.get.ensures.value) ∙ sym c.loaded_image.ensures.image ∙ c.in_default.is in
    rw (← c.self.view_is, found) refl

pub drop_agents-requires : goal.drop_agents-requires
drop_agents-requires c =
    let inside = c.self.inside in
    record { unmarked = (none_merged inside.records.marks (kept_from [] inside.log.marks inside.soft) c.self.invariant.older (ap (λ (v : MarkedSoft). v.marks) c.self.view_is ∙ c.requires.unmarked)).0 }

-- the records that are left are of the database that is left
swept_records : (c : goal.After-drop_dead) → AreRecordsKept c.sweep_image-swept.new.self.database c.drop_dead.new.self.now
swept_records c =
    let inside = c.self.inside in
    let fewer = records-filter (λ (one : KeyedRecord). not (belongs_to c.in-Some.image.handle c.known-guid.result c.db.result.now one.rec.agent)) inside.soft.database inside.records.now c.self.invariant.now in
    rw (c.drop_dead.ensures.now, c.db-2.ensures, c.drop_agents.ensures.now) (live_kept c.sweep_image-swept.new.self.database _ fewer.sound fewer.limit)

pub invariant_of-self : goal.invariant_of-self
invariant_of-self c =
    let inside = c.self.inside in
    (none_inside inside.log.marks inside.soft c.sweep_image-swept.new.self inside.records c.drop_dead.new.self c.args.self.now.marks c.self.invariant (ap (λ (v : MarkedSoft). v.marks) c.self.view_is) c.requires.unmarked c.drop_dead.ensures.marks (swept_records c)).0

pub returns-clause-now : goal.returns-clause-now
unfolding image_swept
returns-clause-now c =
    let inside = c.self.inside in
    let one : LoadedImage = c.in-Some.image in
    let found : image_of c.args.handle inside.soft.images ≡ Some one = ap (λ (n : ℕ). image_of n inside.soft.images) (sym c.get.ensures.value) ∙ sym c.loaded_image.ensures.image ∙ c.in-Some.is in
    let after : c.sweep_image-swept.new.self ≡ swept_of (Some one) inside.soft = c.sweep_image-swept.ensures.now ∙ ap (λ (image : Option LoadedImage). swept_of image inside.soft) found in
    rw (c.drop_dead.ensures.now, c.db-2.ensures, c.drop_agents.ensures.now, c.db.ensures, c.known-guid.ensures, after, ← c.self.view_is, found)
    (ap (λ (table : RecordTable). with_records table (swept_of (Some one) inside.soft)) (records-in_turn one.handle inside.soft.database (database_without one.handle inside.soft.database) inside.records.now))

pub returns-clause-marks : goal.returns-clause-marks
returns-clause-marks c =
    let inside = c.self.inside in
    (none_inside inside.log.marks inside.soft c.sweep_image-swept.new.self inside.records c.drop_dead.new.self c.args.self.now.marks c.self.invariant (ap (λ (v : MarkedSoft). v.marks) c.self.view_is) c.requires.unmarked c.drop_dead.ensures.marks (swept_records c)).1
