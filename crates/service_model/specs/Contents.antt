-- What a service writes of handles, open records and protocols.
use Rattle.std.specs.Prelude.{ℕ, ◌+◌, ◌*◌, List, ◌++◌, length, map}
use Rattle.std.specs.List.{flat_map, range_with_len}
use Rattle.byteorder.specs.Endian.{little_bytes}
use Rattle.uuid.specs.Parts.{swap_fields}
use Rattle.handle_db.specs.Database.{handles_with, protocols_of}
use Rattle.open_records.specs.OpenRecords.{records_of}
use Rattle.open_records.specs.declared.open_record.Rec.{Rec}
use Rattle.world_model.specs.World.{State}
use Rattle.service_model.specs.declared.plan.Contents.{Contents}
use Rattle.service_model.specs.declared.plan.Contents.TheVariants.{Handles, Opens, Protocols}

-- numbers in 8 bytes each
abbrev pub number_bytes : List ℕ → List ℕ
number_bytes numbers = flat_map (little_bytes 8) numbers

-- a record in 24 bytes (UEFI 2.8, 7.3: EFI_OPEN_PROTOCOL_INFORMATION_ENTRY)
abbrev pub record_bytes : Rec → List ℕ
record_bytes rec = little_bytes 8 rec.agent ++ little_bytes 8 rec.controller ++ little_bytes 4 rec.attr ++ little_bytes 4 rec.count

abbrev pub records_bytes : List Rec → List ℕ
records_bytes records = flat_map record_bytes records

-- the GUIDs of a handle's protocols, in order of installation
abbrev pub names_of : ℕ → State → List (List ℕ)
names_of handle w = map (λ (listed : List ℕ × ℕ × ℕ). listed.0) (protocols_of handle w.soft.database)

-- where the GUIDs lie after so many pointers to them, in a block at an address
abbrev pub name_places : (at n : ℕ) → List ℕ
name_places at n = map (λ i. at + 8 * n + 16 * i) (range_with_len 0 n)

-- pointers to GUIDs, and then the GUIDs
abbrev pub names_bytes : (at : ℕ) → List (List ℕ) → List ℕ
names_bytes at names = number_bytes (name_places at (length names)) ++ flat_map swap_fields names

-- the bytes of a block that will lie at the next address
abbrev pub contents_bytes : Contents → State → List ℕ
contents_bytes (Handles name) w = number_bytes (handles_with name w.soft.database)
contents_bytes (Opens handle name) w = records_bytes (records_of w.soft.records.entries handle name)
contents_bytes (Protocols handle) w = names_bytes w.soft.next_block (names_of handle w)

-- how many items they are
abbrev pub contents_count : Contents → State → ℕ
contents_count (Handles name) w = length (handles_with name w.soft.database)
contents_count (Opens handle name) w = length (records_of w.soft.records.entries handle name)
contents_count (Protocols handle) w = length (protocols_of handle w.soft.database)
