-- When the open records of a database are legal (UEFI 2.8, 7.3: OpenProtocol, 'Attributes'). The records
-- are seen where they belong: each handle with its interfaces, and each interface with its records.
use Rattle.std.specs.Prelude.{◌≡◌, ℕ, ◌≤◌, Bool, true, false, ◌&&◌, ◌||◌, nat_eq, bytes_eq, List, map, count_by}
use Rattle.std.specs.List.{All, list_all, list_any}
use Rattle.handle_db.specs.declared.handle_entry.HandleEntry.{HandleEntry}
use Rattle.handle_db.specs.declared.handle_entry.Interface.{Interface}
use Rattle.handle_db.specs.Database.{is_live}
use Rattle.open_records.specs.OpenRecords.{is_equal, is_strong, records_of}
use Rattle.open_records.specs.Leaving.{is_named}
use Rattle.open_records.specs.declared.open_record.KeyedRecord.{KeyedRecord}
use Rattle.open_records.specs.declared.open_record.Rec.{Rec}
use Rattle.world_model.specs.World.{Soft}
use Rattle.world_model.specs.Kept.{IsKept}

-- an interface with its records, in order of their making
pub record InterfaceNode : Type 0 where
  pub guid : List ℕ
  pub interface : ℕ
  pub owner : ℕ
  pub records : List Rec

-- a handle with its interfaces, in order of installation
pub record HandleNode : Type 0 where
  pub handle : ℕ
  pub interfaces : List InterfaceNode

abbrev pub interface_view : List KeyedRecord → ℕ → Interface → InterfaceNode
interface_view entries handle listed = record {
  guid = listed.guid;
  interface = listed.interface;
  owner = listed.owner;
  records = records_of entries handle listed.guid;
}

abbrev pub handle_view : List KeyedRecord → HandleEntry → HandleNode
handle_view entries entry = record { handle = entry.handle; interfaces = map (interface_view entries entry.handle) entry.interfaces }

-- the database with the records, by rising handle
abbrev pub nested : Soft → List HandleNode
nested soft = map (handle_view soft.records.entries) soft.database.handles

-- ---- legal

-- whether a number is that of a handle
abbrev pub is_among : List HandleNode → ℕ → Bool
is_among handles number = list_any (λ (one : HandleNode). nat_eq one.handle number) handles

-- whether a record's agent is live, and its controller if it has one
abbrev pub names_live : List HandleNode → Rec → Bool
names_live handles rec = is_among handles rec.agent && (nat_eq rec.controller 0 || is_among handles rec.controller)

-- An interface has at most one record with BY_DRIVER or EXCLUSIVE, at most one of an agent for a controller
-- with an attribute, and none that names a handle that is not live.
pub record IsLegalAt (handles : List HandleNode) (one : InterfaceNode) : Type 0 where
  pub holder : count_by is_strong one.records ≤ 1
  pub apart : (agent controller attr : ℕ) → count_by (is_equal agent controller attr) one.records ≤ 1
  pub live : list_all (names_live handles) one.records ≡ true

-- each interface of each handle is legal
abbrev pub IsLegal : List HandleNode → Type 0
IsLegal handles = All (λ (one : HandleNode). All (IsLegalAt handles) one.interfaces) handles

-- ---- laws

-- every database is legal
abbrev pub EveryoneIsLegal : Type 0
EveryoneIsLegal = (soft : Soft) → IsKept soft → IsLegal (nested soft)

-- whether a record is among those of its interface
abbrev pub has_record : List HandleNode → KeyedRecord → Bool
has_record handles keyed =
    list_any (λ (one : HandleNode).
    nat_eq one.handle keyed.handle
    && list_any (λ (listed : InterfaceNode). bytes_eq listed.guid keyed.guid && list_any (is_equal keyed.rec.agent keyed.rec.controller keyed.rec.attr) listed.records) one.interfaces) handles

-- each record is with its interface
abbrev pub NoneIsLost : Type 0
NoneIsLost = (soft : Soft) → IsKept soft → list_all (has_record (nested soft)) soft.records.entries ≡ true

-- a handle that is not live is named by no record
abbrev pub DeadIsNotNamed : Type 0
DeadIsNotNamed =
    (soft : Soft) (handle : ℕ) → IsKept soft → nat_eq handle 0 ≡ false → is_live handle soft.database ≡ false
    → list_any (λ (one : KeyedRecord). is_named handle one.rec) soft.records.entries ≡ false
