-- Entering and leaving open records leave what holds of every soft part.
use Rattle.std.proofs.Common.{◌≡◌, ℕ, Bool, true, false, cond, ◌&&◌, not, nat_eq, List, [], ◌∷◌, filter, Some, None, refl, arith}
use Rattle.std.specs.List.{list_all}
use Rattle.open_records.specs.declared.open_record.KeyedRecord.{KeyedRecord}
use Rattle.open_records.specs.declared.open_record.Rec.{Rec}
use Rattle.open_records.specs.OpenRecords.{RecordTable, is_of}
use Rattle.open_records.specs.Adding.{added}
use Rattle.open_records.specs.Leaving.{cut, cut_on, is_meant}
use Rattle.open_records.proofs.LawProofs.{adding_keeps}
use Rattle.open_records.proofs.RemovalLemmas.{filter_sound}
use Rattle.world_model.specs.World.{Soft}
use Rattle.fw_types.specs.declared.attr.TheConstants.Attr.{ALL_BITS, BY_CHILD_CONTROLLER, WEAK_BITS}
use Rattle.world_model.specs.Records.{with_records}
use Rattle.world_model.specs.Kept.{AreRecordsKept, IsKept, are_parties_live}
use Rattle.world_model.specs.Keeping.{AllLeavingKeeps, ChildLeavingKeeps, EnteringKeeps, LeavingKeeps, LivePartiesAreKept, NoRecordsAreKept, WeakDroppingKeeps}
use Rattle.world_model.proofs.RecordParties.{parties-added, records-filter}

-- other records
pub kept_with : (soft : Soft) (table : RecordTable) → IsKept soft → AreRecordsKept soft.database table → IsKept (with_records table soft)
kept_with soft table kept opens = record {
  memory = kept.memory;
  images = kept.images;
  database = kept.database;
  thunks = kept.thunks;
  records = opens;
  children = kept.children;
  ranges = kept.ranges;
}

pub none_kept : NoRecordsAreKept
none_kept db = record {
  sound = record { rising = refl; apart = refl; kept = refl; few = omega arith };
  limit = refl;
  parties = refl;
}

-- those that pass a test
all-passing-more : (test : KeyedRecord → Bool) (one : KeyedRecord) (rest : List KeyedRecord) (passes : Bool) → test one ≡ passes → list_all test (filter test rest) ≡ true → list_all test (cond passes (one ∷ filter test rest) (filter test rest)) ≡ true
all-passing-more test one rest true is later = rw is later
all-passing-more test one rest false is later = later

all-passing : (test : KeyedRecord → Bool) (entries : List KeyedRecord) → list_all test (filter test entries) ≡ true
all-passing test [] = refl
all-passing test (one ∷ rest) = all-passing-more test one rest (test one) refl (all-passing test rest)

pub live_kept : LivePartiesAreKept
live_kept db table sound limit = record {
  sound = filter_sound (are_parties_live db) table sound;
  limit = limit;
  parties = all-passing (are_parties_live db) table.entries;
}

pub entering : EnteringKeeps
entering soft handle guid agent controller attr kept there live none enters legal room =
    kept_with soft (added handle guid agent controller attr soft.records) kept (record {
      sound = adding_keeps soft.records kept.records.sound handle guid agent controller attr enters legal room;
      limit = kept.records.limit;
      parties = parties-added handle guid agent controller attr soft.database soft.records kept.records.parties there live none;
    })

-- fewer records of one interface, and of one handle
fewer : (soft : Soft) (handle : ℕ) (guid : List ℕ) (test : Rec → Bool) → IsKept soft → IsKept (with_records (cut handle guid test soft.records) soft)
fewer soft handle guid test kept =
    kept_with soft (cut handle guid test soft.records) kept (records-filter (λ (one : KeyedRecord). not (is_of handle guid one && test one.rec)) soft.database soft.records kept.records)

fewer_on : (soft : Soft) (handle : ℕ) (test : Rec → Bool) → IsKept soft → IsKept (with_records (cut_on handle test soft.records) soft)
fewer_on soft handle test kept =
    kept_with soft (cut_on handle test soft.records) kept (records-filter (λ (one : KeyedRecord). not (nat_eq one.handle handle && test one.rec)) soft.database soft.records kept.records)

pub leaving : LeavingKeeps
leaving soft handle guid agent controller kept = fewer soft handle guid (is_meant (Some agent) (Some controller) ALL_BITS) kept

pub all_leaving : AllLeavingKeeps
all_leaving soft handle agent kept = fewer_on soft handle (is_meant (Some agent) None ALL_BITS) kept

pub child_leaving : ChildLeavingKeeps
child_leaving soft handle agent child kept = fewer_on soft handle (is_meant (Some agent) (Some child) BY_CHILD_CONTROLLER) kept

pub weak_dropping : WeakDroppingKeeps
weak_dropping soft handle guid kept = fewer soft handle guid (is_meant None None WEAK_BITS) kept
