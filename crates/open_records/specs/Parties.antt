-- The parties to a record, as the handle database has them: its interface, its agent, and its controller if it has one.
use Rattle.std.specs.Prelude.{ℕ, Bool, ◌&&◌, ◌||◌, not, nat_eq, List, filter}
use Rattle.std.specs.List.{list_any}
use Rattle.fw_types.specs.Attr.{has_bit_of}
use Rattle.fw_types.specs.declared.attr.TheConstants.Attr.{AGENT_BITS}
use Rattle.handle_db.specs.Database.{Database, has, interface_of, is_live}
use Rattle.handle_db.specs.OwnedInterfaces.{is_owned_by}
use Rattle.open_records.specs.OpenRecords.{RecordTable}
use Rattle.open_records.specs.declared.open_record.KeyedRecord.{KeyedRecord}

-- ---- whether they are there

-- whether an open may be for a controller: for none, or for a live one
abbrev pub is_none_or_live : ℕ → Database → Bool
is_none_or_live controller db = nat_eq controller 0 || is_live controller db

-- whether a record's interface is there, its agent is live, and so is its controller if it has one
abbrev pub are_parties_live : Database → KeyedRecord → Bool
are_parties_live db keyed = has keyed.handle keyed.guid db && (is_live keyed.rec.agent db && is_none_or_live keyed.rec.controller db)

-- the table without the records whose parties are not all there
abbrev pub with_live_parties : Database → RecordTable → RecordTable
with_live_parties db table = record table { entries = filter (are_parties_live db) table.entries }

-- ---- the agents of an image (UEFI 2.8, 7.4: EFI_BOOT_SERVICES.UnloadImage())

-- whether a handle belongs to an image: it is the image's own, or the image owns its interface of a protocol
abbrev pub belongs_to : (image : ℕ) (guid : List ℕ) → Database → (handle : ℕ) → Bool
belongs_to image guid db handle = nat_eq handle image || is_owned_by image (interface_of handle guid db)

-- the table without the records whose agents belong to an image
abbrev pub without_agents_of : (image : ℕ) (guid : List ℕ) → Database → RecordTable → RecordTable
without_agents_of image guid db table =
    record table { entries = filter (λ (one : KeyedRecord). not (belongs_to image guid db one.rec.agent)) table.entries }

-- Whether a record is one of BY_DRIVER, EXCLUSIVE or BY_CHILD_CONTROLLER, and its agent belongs to an image or the image
-- owns its interface.
abbrev pub is_use_of : (image : ℕ) (guid : List ℕ) → Database → KeyedRecord → Bool
is_use_of image guid db one =
    has_bit_of AGENT_BITS one.rec.attr && (belongs_to image guid db one.rec.agent || is_owned_by image (interface_of one.handle one.guid db))

-- whether there is such a record
abbrev pub has_use_of : (image : ℕ) (guid : List ℕ) → Database → RecordTable → Bool
has_use_of image guid db table = list_any (is_use_of image guid db) table.entries
