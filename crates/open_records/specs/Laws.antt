-- What the single changes of the records leave as it was, and what they mean for one interface.
use Rattle.std.specs.Prelude.{◌≡◌, ℕ, ◌≤◌, Bool, true, false, not, nat_eq, List, [], filter, count_by, None}
use Rattle.std.specs.List.{list_any}
use Rattle.fw_types.specs.Attr.{is_legal}
use Rattle.fw_types.specs.declared.attr.TheConstants.Attr.{ALL_BITS}
pub use Rattle.open_records.specs.Keyed.{is_same, records_of}
use Rattle.open_records.specs.OpenRecords.{RecordTable, IsSound, is_equal, is_strong}
use Rattle.open_records.specs.Verdicts.{judge, may_enter}
use Rattle.open_records.specs.Adding.{added, entered, is_full}
use Rattle.open_records.specs.Leaving.{cut, cut_on, is_meant, is_named, swept}
use Rattle.open_records.specs.declared.open_record.KeyedRecord.{KeyedRecord}
use Rattle.open_records.specs.declared.open_record.Rec.{Rec}

-- ---- a sound table

-- an interface has at most one record with BY_DRIVER or EXCLUSIVE
abbrev pub OneHolder : Type 0
OneHolder =
    (table : RecordTable) → IsSound table → (handle : ℕ) (guid : List ℕ)
    → count_by is_strong (records_of table.entries handle guid) ≤ 1

-- and at most one of an agent for a controller with an attribute
abbrev pub NoEqualRecords : Type 0
NoEqualRecords =
    (table : RecordTable) → IsSound table → (handle : ℕ) (guid : List ℕ) (agent controller attr : ℕ)
    → count_by (is_equal agent controller attr) (records_of table.entries handle guid) ≤ 1

-- ---- what stays sound

-- after an open that may be entered, if there is room for it
abbrev pub AddingKeeps : Type 0
AddingKeeps =
    (table : RecordTable) → IsSound table → (handle : ℕ) (guid : List ℕ) (agent controller attr : ℕ)
    → may_enter (judge (records_of table.entries handle guid) agent controller attr) ≡ true
    → is_legal attr ≡ true → is_full handle guid agent controller attr table ≡ false
    → IsSound (added handle guid agent controller attr table)

-- after records of one interface are removed
abbrev pub CuttingKeeps : Type 0
CuttingKeeps =
    (table : RecordTable) → IsSound table → (handle : ℕ) (guid : List ℕ) (test : Rec → Bool)
    → IsSound (cut handle guid test table)

-- after records of all interfaces of a handle are removed
abbrev pub CuttingOnKeeps : Type 0
CuttingOnKeeps =
    (table : RecordTable) → IsSound table → (handle : ℕ) (test : Rec → Bool) → IsSound (cut_on handle test table)

-- after the records that name a handle are removed
abbrev pub SweepingKeeps : Type 0
SweepingKeeps = (table : RecordTable) → IsSound table → (name : ℕ) → IsSound (swept name table)

-- ---- one interface, and the others

-- an open is one more record of its interface, or is counted there
abbrev pub AddedHere : Type 0
AddedHere =
    (table : RecordTable) → IsSound table → (handle : ℕ) (guid : List ℕ) (agent controller attr : ℕ)
    → records_of (added handle guid agent controller attr table).entries handle guid
    ≡ entered agent controller attr (records_of table.entries handle guid)

-- and leaves the records of every other interface
abbrev pub AddedNotElsewhere : Type 0
AddedNotElsewhere =
    (table : RecordTable) → IsSound table
    → (handle : ℕ) (guid : List ℕ) (agent controller attr other_handle : ℕ) (other_guid : List ℕ)
    → is_same handle guid other_handle other_guid ≡ false
    → records_of (added handle guid agent controller attr table).entries other_handle other_guid
    ≡ records_of table.entries other_handle other_guid

-- a cut leaves the records of its interface that fail the test
abbrev pub CutHere : Type 0
CutHere =
    (table : RecordTable) (handle : ℕ) (guid : List ℕ) (test : Rec → Bool)
    → records_of (cut handle guid test table).entries handle guid
    ≡ filter (λ (rec : Rec). not (test rec)) (records_of table.entries handle guid)

-- and all records of every other interface
abbrev pub CutNotElsewhere : Type 0
CutNotElsewhere =
    (table : RecordTable) (handle : ℕ) (guid : List ℕ) (test : Rec → Bool)
    → (other_handle : ℕ) (other_guid : List ℕ) → is_same handle guid other_handle other_guid ≡ false
    → records_of (cut handle guid test table).entries other_handle other_guid
    ≡ records_of table.entries other_handle other_guid

-- a cut on a handle leaves, of each interface of that handle, the records that fail the test
abbrev pub CutOnHere : Type 0
CutOnHere =
    (table : RecordTable) (handle : ℕ) (test : Rec → Bool) (guid : List ℕ)
    → records_of (cut_on handle test table).entries handle guid
    ≡ filter (λ (rec : Rec). not (test rec)) (records_of table.entries handle guid)

-- and all records of the interfaces of every other handle
abbrev pub CutOnNotElsewhere : Type 0
CutOnNotElsewhere =
    (table : RecordTable) (handle : ℕ) (test : Rec → Bool)
    → (other_handle : ℕ) (other_guid : List ℕ) → nat_eq handle other_handle ≡ false
    → records_of (cut_on handle test table).entries other_handle other_guid
    ≡ records_of table.entries other_handle other_guid

-- a sweep leaves, of every interface, the records that do not name the handle
abbrev pub SweptEverywhere : Type 0
SweptEverywhere =
    (table : RecordTable) (name handle : ℕ) (guid : List ℕ)
    → records_of (swept name table).entries handle guid
    ≡ filter (λ (rec : Rec). not (is_named name rec)) (records_of table.entries handle guid)

-- ---- what is removed

-- after a cut for any agent and controller, with any of the six bits, an interface has no record
abbrev pub AllCut : Type 0
AllCut =
    (table : RecordTable) → IsSound table → (handle : ℕ) (guid : List ℕ)
    → records_of (cut handle guid (is_meant None None ALL_BITS) table).entries handle guid ≡ []

-- after a sweep no record names the handle
abbrev pub NoneNamed : Type 0
NoneNamed =
    (table : RecordTable) (name : ℕ)
    → list_any (λ (one : KeyedRecord). is_named name one.rec) (swept name table).entries ≡ false
