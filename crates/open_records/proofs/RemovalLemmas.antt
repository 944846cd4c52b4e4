-- Records that are removed: what stays is sound.
use Rattle.std.proofs.Common.{ℕ, Bool, not, ◌&&◌, nat_eq, List, filter, arith}
use Rattle.open_records.specs.OpenRecords.{RecordTable, IsSound, clash, is_kept}
use Rattle.open_records.specs.Keyed.{falls, is_of}
use Rattle.open_records.specs.Leaving.{cut, cut_on, is_named, swept}
use Rattle.open_records.specs.declared.open_record.KeyedRecord.{KeyedRecord}
use Rattle.open_records.specs.declared.open_record.Rec.{Rec}
use Rattle.open_records.proofs.ListLemmas.{all_filter, length-filter-le, no_pair-filter}

-- fewer records of a sound table are sound
pub filter_sound : (test : KeyedRecord → Bool) (table : RecordTable) → IsSound table → IsSound (record table { entries = filter test table.entries })
filter_sound test table sound = record {
  rising = no_pair-filter falls test table.entries sound.rising;
  apart = no_pair-filter clash test table.entries sound.apart;
  kept = all_filter test is_kept table.entries sound.kept;
  few = omega (arith, length-filter-le test table.entries, sound.few);
}

pub cut_sound : (handle : ℕ) (guid : List ℕ) (test : Rec → Bool) (table : RecordTable) → IsSound table → IsSound (cut handle guid test table)
cut_sound handle guid test table sound = filter_sound (λ (one : KeyedRecord). not (is_of handle guid one && test one.rec)) table sound

pub cut_on_sound : (handle : ℕ) (test : Rec → Bool) (table : RecordTable) → IsSound table → IsSound (cut_on handle test table)
cut_on_sound handle test table sound = filter_sound (λ (one : KeyedRecord). not (nat_eq one.handle handle && test one.rec)) table sound

pub swept_sound : (name : ℕ) (table : RecordTable) → IsSound table → IsSound (swept name table)
swept_sound name table sound = filter_sound (λ (one : KeyedRecord). not (is_named name one.rec)) table sound
