-- All open records in one list, each with the interface that it is of.
use Rattle.std.specs.Prelude.{ℕ, Bool, true, ◌&&◌, not, nat_eq, List, [], ◌∷◌, map, filter, bytes_eq}
use Rattle.std.specs.List.{list_any}
use Rattle.std.specs.declared.cmp.Ordering.{Ordering}
use Rattle.std.specs.Ordering.{nat_cmp, ordering_then, is_lt, is_gt}
use Rattle.std.specs.Cmp.Lexicographic.{slice_cmp}
use Rattle.open_records.specs.declared.open_record.Rec.{Rec}
use Rattle.open_records.specs.declared.open_record.KeyedRecord.{KeyedRecord}

-- ---- looking

-- whether a record is of an interface
abbrev pub is_of : ℕ → List ℕ → KeyedRecord → Bool
is_of handle guid one = nat_eq one.handle handle && bytes_eq one.guid guid

-- the records of an interface, in order of their making
abbrev pub records_of : List KeyedRecord → ℕ → List ℕ → List Rec
records_of entries handle guid = map (λ (one : KeyedRecord). one.rec) (filter (is_of handle guid) entries)

-- ---- the order of interfaces

-- by handle, then by the bytes of the GUID in the order of its text form
abbrev pub interface_order : ℕ → List ℕ → ℕ → List ℕ → Ordering
interface_order handle guid other_handle other_guid =
    ordering_then (nat_cmp handle other_handle) (slice_cmp nat_cmp guid other_guid)

-- whether a record's interface comes before another, or after it
abbrev pub is_before : ℕ → List ℕ → KeyedRecord → Bool
is_before handle guid one = is_lt (interface_order one.handle one.guid handle guid)

abbrev pub is_after : ℕ → List ℕ → KeyedRecord → Bool
is_after handle guid one = is_gt (interface_order one.handle one.guid handle guid)

-- whether two interfaces are the same
abbrev pub is_same : ℕ → List ℕ → ℕ → List ℕ → Bool
is_same handle guid other_handle other_guid = nat_eq handle other_handle && bytes_eq guid other_guid

-- ---- a list in this order

-- whether no record and a later one pass a test
abbrev pub no_pair : (KeyedRecord → KeyedRecord → Bool) → List KeyedRecord → Bool
no_pair test [] = true
no_pair test (one ∷ entries) = not (list_any (test one) entries) && no_pair test entries

-- whether the interfaces rise: none comes before that of an earlier record
abbrev pub falls : KeyedRecord → KeyedRecord → Bool
falls one later = is_before one.handle one.guid later

abbrev pub rise : List KeyedRecord → Bool
rise entries = no_pair falls entries
