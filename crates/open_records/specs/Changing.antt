-- All records, when those of one interface change.
use Rattle.std.specs.Prelude.{ℕ, ◌+◌, ◌-◌, ◌^◌, Bool, ◌&&◌, min, List, ◌∷◌, ◌++◌, map, filter, if◌then◌else◌}
use Rattle.fw_types.specs.declared.attr.TheConstants.Attr.{WEAK_BITS}
use Rattle.open_records.specs.Records.{has_bits, is_equal}
use Rattle.open_records.specs.declared.open_record.Rec.{Rec}
use Rattle.open_records.specs.Interfaces.{Interface, is_on}
use Rattle.open_records.specs.Keyed.{is_after, is_before, is_of}
use Rattle.open_records.specs.declared.open_record.KeyedRecord.{KeyedRecord}

-- ---- one more record, and other records

-- a record after those of its interface, which are between those of the interfaces before and after
abbrev pub with_new : KeyedRecord → List KeyedRecord → List KeyedRecord
with_new new entries =
    filter (is_before new.handle new.guid) entries
    ++ (filter (is_of new.handle new.guid) entries ++ new ∷ filter (is_after new.handle new.guid) entries)

-- whether a record is a weak one of an interface
abbrev pub is_weak_on : Interface → KeyedRecord → Bool
is_weak_on interface one = is_on interface one && has_bits WEAK_BITS one.rec

-- ---- counts

-- the largest count
abbrev pub most : ℕ
most = 2 ^ 32 - 1

-- a record that counts one more open; the largest count stays
abbrev pub raised : Rec → Rec
raised rec = record rec { count = min (rec.count + 1) most }

-- a record, which counts one more open if it passes a test
abbrev pub raised_where : (Rec → Bool) → Rec → Rec
raised_where test rec = if test rec then raised rec else rec

-- all records, of which those that are of an interface and pass a test count one more open
abbrev pub with_raised : ℕ → List ℕ → (Rec → Bool) → List KeyedRecord → List KeyedRecord
with_raised handle guid test entries =
    map (λ (one : KeyedRecord). if is_of handle guid one && test one.rec then record one { rec = raised one.rec } else one) entries

-- whether a record is of an interface, with an agent, a controller and an attribute
abbrev pub is_open : ℕ → List ℕ → (agent controller attr : ℕ) → KeyedRecord → Bool
is_open handle guid agent controller attr one = is_of handle guid one && is_equal agent controller attr one.rec

-- a record that passes a test, with another count
abbrev pub counted : (KeyedRecord → Bool) → ℕ → KeyedRecord → KeyedRecord
counted test count one = if test one then record one { rec = record one.rec { count = count } } else one
