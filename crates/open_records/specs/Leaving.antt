-- Records that are removed (UEFI 2.8, 7.3: CloseProtocol, and the handles that are removed).
use Rattle.std.specs.Prelude.{ℕ, Bool, ◌&&◌, not, nat_eq, List, filter}
pub use Rattle.open_records.specs.Records.{fits, is_meant, is_named}
use Rattle.open_records.specs.OpenRecords.{RecordTable}
use Rattle.open_records.specs.Keyed.{is_of}
use Rattle.open_records.specs.declared.open_record.Rec.{Rec}
use Rattle.open_records.specs.declared.open_record.KeyedRecord.{KeyedRecord}

-- without the records that are of an interface and pass a test
abbrev pub without : ℕ → List ℕ → (Rec → Bool) → List KeyedRecord → List KeyedRecord
without handle guid test entries = filter (λ (one : KeyedRecord). not (is_of handle guid one && test one.rec)) entries

-- the table without the records that are of an interface and pass a test
abbrev pub cut : ℕ → List ℕ → (Rec → Bool) → RecordTable → RecordTable
cut handle guid test table = record table { entries = without handle guid test table.entries }

-- without the records of a handle that pass a test, on any interface
abbrev pub without_on : ℕ → (Rec → Bool) → List KeyedRecord → List KeyedRecord
without_on handle test entries = filter (λ (one : KeyedRecord). not (nat_eq one.handle handle && test one.rec)) entries

-- the table without the records of a handle that pass a test, on any interface
abbrev pub cut_on : ℕ → (Rec → Bool) → RecordTable → RecordTable
cut_on handle test table = record table { entries = without_on handle test table.entries }

-- ---- a handle that is removed

-- without the records that name a handle
abbrev pub without_name : ℕ → List KeyedRecord → List KeyedRecord
without_name name entries = filter (λ (one : KeyedRecord). not (is_named name one.rec)) entries

-- the table without the records that name a handle
abbrev pub swept : ℕ → RecordTable → RecordTable
swept name table = record table { entries = without_name name table.entries }
