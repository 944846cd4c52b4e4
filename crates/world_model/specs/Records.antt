-- The open records of the world (UEFI 2.8, 7.3: OpenProtocol, CloseProtocol): which agent has which
-- interface open, for which controller and how.
use Rattle.std.specs.Prelude.{ℕ, List, [], Some, None, if◌then◌else◌}
use Rattle.fw_types.specs.declared.attr.TheConstants.Attr.{ALL_BITS, BY_CHILD_CONTROLLER, WEAK_BITS}
use Rattle.fw_types.specs.declared.limits.TheConstants.{MOST_RECORDS}
use Rattle.handle_db.specs.Database.{Database, is_live}
use Rattle.open_records.specs.OpenRecords.{RecordTable}
use Rattle.open_records.specs.Adding.{added}
use Rattle.open_records.specs.Leaving.{cut, cut_on, is_meant, swept}
pub use Rattle.open_records.specs.Parties.{is_none_or_live}
use Rattle.world_model.specs.World.{Soft}

-- no records
abbrev pub no_records : RecordTable
no_records = record { entries = []; limit = MOST_RECORDS }

-- a change of the records alone
abbrev pub with_records : RecordTable → Soft → Soft
with_records records soft = record soft { records = records }

-- ---- entering

-- one more open of an interface
abbrev pub record_entered : ℕ → List ℕ → (agent controller attr : ℕ) → Soft → Soft
record_entered handle guid agent controller attr soft = with_records (added handle guid agent controller attr soft.records) soft

-- ---- leaving

-- an agent's records for a controller are removed from an interface
abbrev pub records_left : ℕ → List ℕ → (agent controller : ℕ) → Soft → Soft
records_left handle guid agent controller soft = with_records (cut handle guid (is_meant (Some agent) (Some controller) ALL_BITS) soft.records) soft

-- an agent's records are removed from all interfaces of a handle
abbrev pub all_left : ℕ → (agent : ℕ) → Soft → Soft
all_left handle agent soft = with_records (cut_on handle (is_meant (Some agent) None ALL_BITS) soft.records) soft

-- an agent's records for a child are removed from all interfaces of a handle
abbrev pub child_left : ℕ → (agent child : ℕ) → Soft → Soft
child_left handle agent child soft = with_records (cut_on handle (is_meant (Some agent) (Some child) BY_CHILD_CONTROLLER) soft.records) soft

-- the records that keep nobody out are removed from an interface
abbrev pub weak_dropped : ℕ → List ℕ → Soft → Soft
weak_dropped handle guid soft = with_records (cut handle guid (is_meant None None WEAK_BITS) soft.records) soft

-- ---- interfaces that are removed

-- without the records that name a handle, unless it is live
abbrev pub unless_live : ℕ → Database → RecordTable → RecordTable
unless_live handle db records = if is_live handle db then records else swept handle records

-- All records of an interface are removed with it. If its handle is then no longer live, so are those that
-- name the handle.
abbrev pub records_removed : ℕ → List ℕ → Database → RecordTable → RecordTable
records_removed handle guid after records = unless_live handle after (cut handle guid (is_meant None None ALL_BITS) records)
