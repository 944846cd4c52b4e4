-- Entering an open (UEFI 2.8, 7.3: OpenProtocol).
use Rattle.std.specs.Prelude.{◌≡◌, ℕ, Bool, true, false, ◌&&◌, not, nat_le, List, [], ◌∷◌, ◌++◌, length, map, Result, Ok, Err, if◌then◌else◌}
use Rattle.std.specs.List.{list_any}
pub use Rattle.open_records.specs.Changing.{most, raised, raised_where, with_new, with_raised}
use Rattle.open_records.specs.OpenRecords.{RecordTable, is_equal}
use Rattle.open_records.specs.Keyed.{records_of}
use Rattle.open_records.specs.declared.open_record.Rec.{Rec}
use Rattle.open_records.specs.declared.open_record.KeyedRecord.{KeyedRecord}
use Rattle.open_records.specs.declared.fault.RecFault.{RecFault}
use Rattle.open_records.specs.declared.fault.RecFault.TheVariants.{Full, OutOfMemory}

-- a record's first open
abbrev pub first : (agent controller attr : ℕ) → Rec
first agent controller attr = record { agent = agent; controller = controller; attr = attr; count = 1 }

-- the records of one interface with one more open: one more record at the end, or one more in the
-- count of an equal record
abbrev pub entered : (agent controller attr : ℕ) → List Rec → List Rec
entered agent controller attr records =
    if list_any (is_equal agent controller attr) records then map (raised_where (is_equal agent controller attr)) records
    else records ++ first agent controller attr ∷ []

-- all records with one more open of an interface
abbrev pub with_open : ℕ → List ℕ → (agent controller attr : ℕ) → List KeyedRecord → List KeyedRecord
with_open handle guid agent controller attr entries =
    if list_any (is_equal agent controller attr) (records_of entries handle guid)
    then with_raised handle guid (is_equal agent controller attr) entries
    else with_new (record { handle = handle; guid = guid; rec = first agent controller attr }) entries

abbrev pub added : ℕ → List ℕ → (agent controller attr : ℕ) → RecordTable → RecordTable
added handle guid agent controller attr table =
    record table { entries = with_open handle guid agent controller attr table.entries }

-- whether an open would need a record when there are already as many as there may be
abbrev pub is_full : ℕ → List ℕ → (agent controller attr : ℕ) → RecordTable → Bool
is_full handle guid agent controller attr table =
    not (list_any (is_equal agent controller attr) (records_of table.entries handle guid))
    && nat_le table.limit (length table.entries)

-- a call gives this answer, unless it runs out of memory
abbrev pub Gives : Result (Unit {0}) RecFault → (full : Bool) → Type 0
Gives (Ok done) full = full ≡ false
Gives (Err Full) full = full ≡ true
Gives (Err OutOfMemory) full = Unit {0}
