-- Who manages a handle, and the children that were made for it (UEFI 2.8, 7.3: DisconnectController).
use Rattle.std.specs.Prelude.{ℕ, Bool, ◌&&◌, not, nat_eq, List, [], ◌∷◌, map, filter, Option}
use Rattle.std.specs.List.{flat_map}
use Rattle.fw_types.specs.Attr.{has_bit_of}
use Rattle.fw_types.specs.declared.attr.TheConstants.Attr.{BY_CHILD_CONTROLLER, BY_DRIVER}
use Rattle.handle_db.specs.Database.{Database, protocols_of}
use Rattle.open_records.specs.Keyed.{records_of}
use Rattle.open_records.specs.Leaving.{fits}
use Rattle.open_records.specs.declared.open_record.Rec.{Rec}
use Rattle.open_records.specs.declared.open_record.KeyedRecord.{KeyedRecord}

-- the records on a handle: by its protocols in order of installation, then in order of their making
abbrev pub records_on : List KeyedRecord → ℕ → List (List ℕ × ℕ × ℕ) → List Rec
records_on entries handle protocols =
    flat_map (λ (protocol : List ℕ × ℕ × ℕ). records_of entries handle protocol.0) protocols

-- each number of a list once, at its first place
abbrev pub once_each : List ℕ → List ℕ
once_each [] = []
once_each (number ∷ numbers) = number ∷ filter (λ other. not (nat_eq number other)) (once_each numbers)

-- whether a record is BY_CHILD_CONTROLLER for a controller, of an agent if one is given
abbrev pub is_child : Option ℕ → Rec → Bool
is_child agent rec = nat_eq rec.attr BY_CHILD_CONTROLLER && fits agent rec.agent && not (nat_eq rec.controller 0)

-- the controllers of such records
abbrev pub child_numbers : Option ℕ → List Rec → List ℕ
child_numbers agent records = map (λ (rec : Rec). rec.controller) (filter (is_child agent) records)

-- the children of a handle
abbrev pub children : List KeyedRecord → Database → ℕ → Option ℕ → List ℕ
children entries db handle agent =
    once_each (child_numbers agent (records_on entries handle (protocols_of handle db)))

-- whether a record has BY_DRIVER
abbrev pub is_managing : Rec → Bool
is_managing rec = has_bit_of BY_DRIVER rec.attr

-- the agents of such records
abbrev pub manager_numbers : List Rec → List ℕ
manager_numbers records = map (λ (rec : Rec). rec.agent) (filter is_managing records)

-- the agents that manage a handle
abbrev pub managers : List KeyedRecord → Database → ℕ → List ℕ
managers entries db handle =
    once_each (manager_numbers (records_on entries handle (protocols_of handle db)))
