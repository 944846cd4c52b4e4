-- Soft parts with their open records: what marks keep of both.
use Rattle.std.proofs.Common.{◌≡◌, ℕ, Bool, true, false, ◌||◌, cond, List, [], ◌∷◌, filter, length, nat_lt, suc, refl, sym, ap, subst, ◌∙◌}
use Rattle.std.specs.Prelude.{Result, Ok, Err, OnOk, OnErr, is_some}
use Rattle.fw_types.specs.Attr.{is_legal}
use Rattle.fw_types.specs.declared.limits.TheConstants.{MOST_RECORDS}
use Rattle.handle_db.specs.Database.{interface_of, is_live}
use Rattle.open_records.specs.Adding.{Gives as GivesRecord, added, is_full as is_table_full}
use Rattle.open_records.specs.OpenRecords.{IsSound as RecordsAreSound, RecordTable, records_of}
use Rattle.open_records.specs.Parties.{is_none_or_live, with_live_parties}
use Rattle.open_records.specs.Verdicts.{judge, may_enter}
use Rattle.open_records.specs.declared.fault.RecFault.{RecFault}
use Rattle.open_records.specs.declared.open_record.KeyedRecord.{KeyedRecord}
use Rattle.world_model.proofs.KeepingRecords.{entering, kept_with, live_kept, none_kept as none_have}
use Rattle.world_model.proofs.RecordParties.{has_from, records-filter}
use Rattle.record_log.specs.MarkedRecords.{MarkedRecords, newest_of as newest_records, older_marks as older_records}
use Rattle.soft_log.specs.Keeping.{AreKept, AreRecordsOf, IsInside, kept_from, merged, newest_of}
use Rattle.soft_log.specs.declared.moment.Moment.{Moment}
use Rattle.soft_log.proofs.Noting.{are_noted, kept_noted}
use Rattle.soft_log.proofs.TakingBack.{none_kept}
use Rattle.undo_log.specs.Log.{Section, noted}
use Rattle.world_model.specs.declared.change.Change.{Change}
use Rattle.world_model.specs.BusChildren.{child_noted}
use Rattle.world_model.specs.Kept.{AreRecordsKept, IsKept}
use Rattle.world_model.specs.Marks.{older_marks}
use Rattle.world_model.specs.Records.{no_records, with_records}
use Rattle.world_model.specs.Stacks.{has_stack, is_marked_stack}
use Rattle.world_model.specs.UndoLaws.{IsNoted}
use Rattle.world_model.specs.World.{Soft}

-- ---- soft parts and records

pub length-softs : (tables : List RecordTable) (softs : List Soft) → AreRecordsOf tables softs → length (merged tables softs) ≡ length softs
length-softs [] [] are = refl
length-softs [] (soft ∷ softs) are = absurd are
length-softs (table ∷ tables) [] are = absurd are
length-softs (table ∷ tables) (soft ∷ softs) are = ap suc (length-softs tables softs are.1)

pub length-tables : (tables : List RecordTable) (softs : List Soft) → AreRecordsOf tables softs → length (merged tables softs) ≡ length tables
length-tables [] [] are = refl
length-tables [] (soft ∷ softs) are = absurd are
length-tables (table ∷ tables) [] are = absurd are
length-tables (table ∷ tables) (soft ∷ softs) are = ap suc (length-tables tables softs are.1)

pub newest_merged : (tables : List RecordTable) (softs : List Soft) (table : RecordTable) (soft : Soft) → AreRecordsOf tables softs
    → newest_of (merged tables softs) (with_records table soft) ≡ with_records (newest_records tables table) (newest_of softs soft)
newest_merged [] [] table soft are = refl
newest_merged [] (first ∷ softs) table soft are = absurd are
newest_merged (first ∷ tables) [] table soft are = absurd are
newest_merged (first ∷ tables) (second ∷ softs) table soft are = refl

pub older_merged : (tables : List RecordTable) (softs : List Soft) → AreRecordsOf tables softs → merged (older_records tables) (older_marks softs) ≡ older_marks (merged tables softs)
older_merged [] [] are = refl
older_merged [] (first ∷ softs) are = absurd are
older_merged (first ∷ tables) [] are = absurd are
older_merged (first ∷ tables) (second ∷ softs) are = refl

pub older_are : (tables : List RecordTable) (softs : List Soft) → AreRecordsOf tables softs → AreRecordsOf (older_records tables) (older_marks softs)
older_are [] [] are = tt
older_are [] (first ∷ softs) are = absurd are
older_are (first ∷ tables) [] are = absurd are
older_are (first ∷ tables) (second ∷ softs) are = are.1

-- the records of the newest mark are of the soft part that it keeps
pub newest_are : (tables : List RecordTable) (softs : List Soft) (table : RecordTable) (soft : Soft) → AreRecordsOf tables softs → AreRecordsKept soft.database table
    → AreRecordsKept (newest_of softs soft).database (newest_records tables table)
newest_are [] [] table soft are now = now
newest_are [] (first ∷ softs) table soft are now = absurd are
newest_are (first ∷ tables) [] table soft are now = absurd are
newest_are (first ∷ tables) (second ∷ softs) table soft are now = are.0

-- stacks have nothing to do with records
pub marked_stack_merged : (level : ℕ) (tables : List RecordTable) (softs : List Soft) → AreRecordsOf tables softs → is_marked_stack level (merged tables softs) ≡ is_marked_stack level softs
marked_stack_merged level [] [] are = refl
marked_stack_merged level [] (soft ∷ softs) are = absurd are
marked_stack_merged level (table ∷ tables) [] are = absurd are
marked_stack_merged level (table ∷ tables) (soft ∷ softs) are = ap (λ (later : Bool). has_stack level soft.memory || later) (marked_stack_merged level tables softs are.1)

-- if neither keeps anything, no mark is open
pub none_merged : (tables : List RecordTable) (softs : List Soft) → AreRecordsOf tables softs → merged tables softs ≡ [] → (tables ≡ []) × (softs ≡ [])
none_merged [] [] are none = (refl, refl)
none_merged [] (soft ∷ softs) are none = absurd are
none_merged (table ∷ tables) [] are none = absurd are
none_merged (table ∷ tables) (soft ∷ softs) are none = absurd cc

-- ---- a change is noted

-- with other records now, and those that the marks keep as before
pub noted_inside : (marks : List (Section Change Moment)) (change : Change) (before after : Soft) (old new : MarkedRecords) → IsKept before → IsKept after → IsNoted change before after
    → new.marks ≡ old.marks → AreRecordsKept after.database new.now → IsInside before marks old → IsInside after (noted change marks) new
noted_inside marks change before after old new kept still is same now inside = record {
  part = are_noted marks change before after kept still is inside.part;
  now = now;
  older = rw (same, kept_noted marks change before after kept still is) inside.older;
}

-- with the same records, if the database stays
pub noted_here : (marks : List (Section Change Moment)) (change : Change) (before after : Soft) (records : MarkedRecords) → IsKept before → IsKept after → IsNoted change before after
    → after.database ≡ before.database → IsInside before marks records → IsInside after (noted change marks) records
noted_here marks change before after records kept still is same inside =
    noted_inside marks change before after records records kept still is refl (rw same inside.now) inside

-- ---- what no log notes

-- what the marks keep stays
pub still_inside : (marks : List (Section Change Moment)) (before after : Soft) (records : MarkedRecords) → AreKept [] marks after × (kept_from [] marks after ≡ kept_from [] marks before) → after.database ≡ before.database
    → IsInside before marks records → IsInside after marks records
still_inside marks before after records part same inside = record {
  part = part.0;
  now = rw same inside.now;
  older = rw part.1 inside.older;
}

-- no mark is open
pub none_inside : (marks : List (Section Change Moment)) (before after : Soft) (old new : MarkedRecords) (kept : List Soft) → IsInside before marks old → merged old.marks (kept_from [] marks before) ≡ kept → kept ≡ []
    → new.marks ≡ [] → AreRecordsKept after.database new.now → IsInside after marks new × (merged new.marks (kept_from [] marks after) ≡ kept)
none_inside marks before after old new kept inside is none same now =
    let both = none_merged old.marks (kept_from [] marks before) inside.older (is ∙ none) in
    let part : AreKept [] marks after × (kept_from [] marks after ≡ []) = none_kept marks before after [] both.1 refl in
    (record { part = part.0; now = now; older = rw (same, part.1) tt }, ap (λ (tables : List RecordTable). merged tables (kept_from [] marks after)) same ∙ sym none)

-- with the same records
pub none_here : (marks : List (Section Change Moment)) (before after : Soft) (records : MarkedRecords) (kept : List Soft) → IsInside before marks records → merged records.marks (kept_from [] marks before) ≡ kept → kept ≡ []
    → after.database ≡ before.database → IsInside after marks records × (merged records.marks (kept_from [] marks after) ≡ kept)
none_here marks before after records kept inside is none same =
    let both = none_merged records.marks (kept_from [] marks before) inside.older (is ∙ none) in
    none_inside marks before after records records kept inside is none both.0 (rw same inside.now)

-- ---- the records change

-- some records are removed, or none
pub fewer_inside : {T E : Type 0} (result : Result T E) (test : KeyedRecord → Bool) (soft : Soft) (marks : List (Section Change Moment)) (old new : MarkedRecords) → IsInside soft marks old → new.marks ≡ old.marks
    → OnOk result (new.now ≡ record old.now { entries = filter test old.now.entries }) → OnErr result (new ≡ old) → IsInside soft marks new
fewer_inside (Ok done) test soft marks old new inside same ok err = record {
  part = inside.part;
  now = subst (AreRecordsKept soft.database) (sym ok) (records-filter test soft.database old.now inside.now);
  older = rw same inside.older;
}
fewer_inside (Err error) test soft marks old new inside same ok err = rw err inside

-- one more open, or none
pub entered_inside : (result : Result (Unit {0}) RecFault) (soft : Soft) (marks : List (Section Change Moment)) (old new : MarkedRecords) (handle : ℕ) (guid : List ℕ) (agent controller attr : ℕ) → IsKept soft → IsInside soft marks old
    → is_some (interface_of handle guid soft.database) ≡ true → is_live agent soft.database ≡ true → is_none_or_live controller soft.database ≡ true
    → may_enter (judge (records_of old.now.entries handle guid) agent controller attr) ≡ true → is_legal attr ≡ true
    → GivesRecord result (is_table_full handle guid agent controller attr old.now) → OnOk result (new.now ≡ added handle guid agent controller attr old.now) → new.marks ≡ old.marks → OnErr result (new ≡ old)
    → IsInside soft marks new
entered_inside (Ok done) soft marks old new handle guid agent controller attr kept inside there live none enters legal gives ok same err = record {
  part = inside.part;
  now =
      subst (AreRecordsKept soft.database) (sym ok)
      (entering (with_records old.now soft) handle guid agent controller attr (kept_with soft old.now kept inside.now) (has_from handle guid soft.database there) live none enters legal gives).records;
  older = rw same inside.older;
}
entered_inside (Err refusal) soft marks old new handle guid agent controller attr kept inside there live none enters legal gives ok same err = rw err inside

-- all marks are given up, and the records of what is not there
pub given_up : (soft : Soft) (marks : List (Section Change Moment)) (table : RecordTable) (new : MarkedRecords) → marks ≡ [] → new.marks ≡ [] → new.now ≡ with_live_parties soft.database table → RecordsAreSound table → table.limit ≡ MOST_RECORDS
    → IsInside soft marks new
unfolding AreKept kept_from
given_up soft [] table new none same is sound limit = record {
  part = tt;
  now = subst (AreRecordsKept soft.database) (sym is) (live_kept soft.database table sound limit);
  older = rw same tt;
}
given_up soft (newest ∷ older) table new none same is sound limit = absurd cc

-- no mark was made yet, and there are no records
pub opening_inside : (soft : Soft) (marks : List (Section Change Moment)) (records : MarkedRecords) → marks ≡ [] → records ≡ record { now = no_records; marks = [] } → IsInside soft marks records
unfolding AreKept kept_from
opening_inside soft [] records none is = subst (IsInside soft []) (sym is) (record { part = tt; now = none_have soft.database; older = tt })
opening_inside soft (newest ∷ older) records none is = absurd cc

-- ---- databases

-- a child that is noted leaves the database
either_database : (room : Bool) (first second : Soft) → first.database ≡ second.database → (cond room first second).database ≡ second.database
either_database true first second same = same
either_database false first second same = refl

pub noted_database : (soft : Soft) (handle function : ℕ) → (child_noted handle function soft).database ≡ soft.database
noted_database soft handle function = either_database (nat_lt function (length soft.bus_lists)) (record soft { bus_children = _ }) soft refl
