-- The lines of a dump of the handle database: each handle by rising number, with its interfaces in order of installation,
-- and with each of these its open records in order of their making (UEFI 2.8, 7.3: ProtocolsPerHandle,
-- OpenProtocolInformation).
use Rattle.std.specs.Prelude.{ℕ, List, ◌∷◌, flat_map, map, None}
use Rattle.fw_types.specs.declared.dump.DumpLine.{DumpLine}
use Rattle.fw_types.specs.declared.dump.DumpLine.TheVariants.{Handle, Proto, Entry}
use Rattle.handle_db.specs.Database.{handles_with, protocols_of}
use Rattle.open_records.specs.OpenRecords.{records_of}
use Rattle.open_records.specs.declared.open_record.Rec.{Rec}
use Rattle.world_model.specs.World.{Soft}

abbrev pub record_line : Rec → DumpLine
record_line rec = Entry rec.agent rec.controller rec.attr rec.count

-- an interface of a handle, and its records
abbrev pub interface_lines : Soft → (handle : ℕ) → (guid : List ℕ) → (interface owner : ℕ) → List DumpLine
interface_lines soft handle guid interface owner = Proto guid interface owner ∷ map record_line (records_of soft.records.entries handle guid)

abbrev pub protocol_lines : Soft → (handle : ℕ) → List ℕ × ℕ × ℕ → List DumpLine
protocol_lines soft handle (guid, interface, owner) = interface_lines soft handle guid interface owner

-- a handle, and its interfaces
abbrev pub handle_lines : Soft → (handle : ℕ) → List DumpLine
handle_lines soft handle = Handle handle ∷ flat_map (protocol_lines soft handle) (protocols_of handle soft.database)

-- all handles
abbrev pub dump_of : Soft → List DumpLine
dump_of soft = flat_map (handle_lines soft) (handles_with None soft.database)
