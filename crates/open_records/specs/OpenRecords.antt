-- The open records (UEFI 2.8, 7.3: OpenProtocol): which agent has which interface open.
use Rattle.std.specs.Prelude.{◌≡◌, ℕ, ◌≤◌, Bool, true, ◌&&◌, ◌||◌, nat_lt, List, length}
use Rattle.std.specs.List.{list_all}
use Rattle.fw_types.specs.Attr.{is_legal}
pub use Rattle.open_records.specs.Records.{is_equal, is_strong}
pub use Rattle.open_records.specs.Keyed.{falls, interface_order, is_after, is_before, is_of, no_pair, records_of, rise}
use Rattle.open_records.specs.declared.open_record.KeyedRecord.{KeyedRecord}

-- all records, each with the handle and the GUID of its interface: by rising handle, then by GUID, then in
-- order of their making; and how many records there may be
pub record RecordTable : Type 0 where
  pub entries : List KeyedRecord
  pub limit : ℕ

-- ---- what holds of every table

-- whether two records exclude each other: they are of one interface, and both have BY_DRIVER or EXCLUSIVE or
-- are equal in agent, controller and attribute
abbrev pub clash : KeyedRecord → KeyedRecord → Bool
clash one other =
    is_of one.handle one.guid other
    && ((is_strong one.rec && is_strong other.rec) || is_equal one.rec.agent one.rec.controller one.rec.attr other.rec)

abbrev pub stand_apart : List KeyedRecord → Bool
stand_apart entries = no_pair clash entries

-- whether a record has one of the seven attributes, and a count from 1
abbrev pub is_kept : KeyedRecord → Bool
is_kept one = is_legal one.rec.attr && nat_lt 0 one.rec.count

-- The interfaces rise. An interface has at most one record with BY_DRIVER or EXCLUSIVE, and no two equal ones.
-- There are no more records than there may be.
pub record IsSound (table : RecordTable) : Type 0 where
  pub rising : rise table.entries ≡ true
  pub apart : stand_apart table.entries ≡ true
  pub kept : list_all is_kept table.entries ≡ true
  pub few : length table.entries ≤ table.limit
