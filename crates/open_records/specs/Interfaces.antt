-- Interfaces: a handle and the GUID of a protocol that it may have.
use Rattle.std.specs.Prelude.{ℕ, Bool, List}
use Rattle.std.specs.declared.cmp.Ordering.{Ordering}
use Rattle.open_records.specs.declared.open_record.Rec.{Rec}
use Rattle.open_records.specs.Keyed.{interface_order, is_of}
use Rattle.open_records.specs.declared.open_record.KeyedRecord.{KeyedRecord}

abbrev pub Interface : Type 0
Interface = ℕ × List ℕ

-- by handle, then by GUID
abbrev pub interface_cmp : Interface → Interface → Ordering
interface_cmp x y = interface_order x.0 x.1 y.0 y.1

abbrev pub interface_of : KeyedRecord → Interface
interface_of one = (one.handle, one.guid)

-- whether a record is on an interface
abbrev pub is_on : Interface → KeyedRecord → Bool
is_on interface one = is_of interface.0 interface.1 one

-- a record with its interface
abbrev pub keyed : Interface → Rec → KeyedRecord
keyed interface rec = record { handle = interface.0; guid = interface.1; rec = rec }
