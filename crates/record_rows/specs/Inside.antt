-- How the rows are kept: the records, and beside each a mark with the numbers of what can cut it.
use Rattle.std.specs.Prelude.{◌≡◌, ◌<◌, ℕ, Bool, nat_eq, List, [], ◌∷◌, map, option_map, Some, slice_get, if◌then◌else◌}
use Rattle.std.specs.declared.ops.Bound.{Bound}
use Rattle.std.specs.declared.ops.Bound.TheVariants.{Excluded, Included, Unbounded}
use Rattle.open_records.specs.Records.{is_named}
use Rattle.open_records.specs.Interfaces.{Interface, interface_of}
use Rattle.open_records.specs.Keyed.{is_same}
use Rattle.open_records.specs.declared.open_record.KeyedRecord.{KeyedRecord}
use Rattle.record_rows.specs.Index.{RowKey}
use Rattle.record_rows.specs.Numbers.{IsAbsent}
use Rattle.record_rows.specs.Rows.{Cuts, Line, RowsView, with_both_cuts, with_name_cut}
use Rattle.record_rows.specs.declared.cutters.Mark.{Mark}

-- the records with their marks
abbrev pub lines_of : List KeyedRecord → List Mark → List Line
lines_of [] marks = []
lines_of (one ∷ records) [] = []
lines_of (one ∷ records) (mark ∷ marks) = record { keyed = one; closed = mark.closed } ∷ lines_of records marks

-- handle numbers with their cuts, and interfaces with the cuts of their weak records and of their others; and the lines
pub record Kept : Type 0 where
  pub lines : List Line
  pub names : List (ℕ × ℕ)
  pub classes : List (Interface × (ℕ × ℕ))

-- two lists as one of pairs, as far as both go
abbrev pub pairs : {X Y : Type 0} → List X → List Y → List (X × Y)
pairs [] ys = []
pairs (x ∷ xs) [] = []
pairs (x ∷ xs) (y ∷ ys) = (x, y) ∷ pairs xs ys

-- what belongs to a key, by a test of keys; and what is given for a key that is not there
abbrev pub cut_in : {K C : Type 0} → (K → K → Bool) → C → List (K × C) → K → C
cut_in is_it none [] key = none
cut_in is_it none (entry ∷ entries) key = if is_it key entry.0 then entry.1 else cut_in is_it none entries key

-- whether an interface is another
abbrev pub is_interface : Interface → Interface → Bool
is_interface interface other = is_same interface.0 interface.1 other.0 other.1

-- the cut of a handle number; 0 for one that is not there
abbrev pub name_cut_in : List (ℕ × ℕ) → ℕ → ℕ
name_cut_in names name = cut_in nat_eq 0 names name

-- the two cuts of an interface
abbrev pub class_cut_in : List (Interface × (ℕ × ℕ)) → Interface → ℕ × ℕ
class_cut_in classes interface = cut_in is_interface (0, 0) classes interface

abbrev pub cuts_in : List (ℕ × ℕ) → List (Interface × (ℕ × ℕ)) → Cuts
cuts_in names classes = record {
  name = λ (name : ℕ). name_cut_in names name;
  weak = λ (interface : Interface). (class_cut_in classes interface).0;
  other = λ (interface : Interface). (class_cut_in classes interface).1;
}

abbrev pub rows_of : Kept → RowsView
rows_of kept = record { lines = kept.lines; cuts = cuts_in kept.names kept.classes }

-- whether a key has a number
abbrev pub HasNumber : {K C : Type 0} → List (K × C) → K → ℕ → Type 0
HasNumber {K} {C} entries key number = option_map (λ (entry : K × C). entry.0) (slice_get entries number) ≡ Some key

-- a mark has the numbers of its record's agent, of its controller and of its interface
pub record IsMarkOf (names : List (ℕ × ℕ)) (classes : List (Interface × (ℕ × ℕ))) (one : KeyedRecord) (mark : Mark) : Type 0 where
  pub agent : HasNumber names one.rec.agent mark.agent
  pub controller : HasNumber names one.rec.controller mark.controller
  pub interface : HasNumber classes (interface_of one) mark.interface
  pub attr : mark.attr ≡ one.rec.attr

-- each record has its mark
abbrev pub AreMarked : List (ℕ × ℕ) → List (Interface × (ℕ × ℕ)) → List KeyedRecord → List Mark → Type 0
AreMarked names classes [] [] = Unit {0}
AreMarked names classes [] (mark ∷ marks) = ⊥
AreMarked names classes (one ∷ records) [] = ⊥
AreMarked names classes (one ∷ records) (mark ∷ marks) = IsMarkOf names classes one mark × AreMarked names classes records marks

-- what a row with a mark is found by
abbrev pub key_of : Mark → RowKey
key_of mark = (mark.interface, mark.agent, mark.controller, mark.attr)

pub record CuttersValue : Type 0 where
  pub names : List (ℕ × ℕ)
  pub classes : List (Interface × (ℕ × ℕ))

-- more keys have numbers, and each has the cuts from before
pub record Grows (old new : CuttersValue) : Type 0 where
  pub names : (name number : ℕ) → HasNumber old.names name number → HasNumber new.names name number
  pub classes : (interface : Interface) (number : ℕ) → HasNumber old.classes interface number → HasNumber new.classes interface number
  pub cuts : cuts_in new.names new.classes ≡ cuts_in old.names old.classes

-- The cut of a handle number was this, and is another one now. The numbers stay.
pub record IsNameCut (name place before : ℕ) (old new : CuttersValue) : Type 0 where
  pub there : IsAbsent name (map (λ (entry : ℕ × ℕ). entry.0) old.names) → ⊥
  pub was : (cuts_in old.names old.classes).name name ≡ before
  pub cuts : cuts_in new.names new.classes ≡ with_name_cut name place (cuts_in old.names old.classes)
  pub names : map (λ (entry : ℕ × ℕ). entry.0) new.names ≡ map (λ (entry : ℕ × ℕ). entry.0) old.names
  pub classes : new.classes ≡ old.classes

-- The cuts of an interface were these, and are others now. The numbers stay.
pub record IsClassCut (interface : Interface) (before after : ℕ × ℕ) (old new : CuttersValue) : Type 0 where
  pub there : IsAbsent interface (map (λ (entry : Interface × (ℕ × ℕ)). entry.0) old.classes) → ⊥
  pub was : class_cut_in old.classes interface ≡ before
  pub cuts : cuts_in new.names new.classes ≡ with_both_cuts interface after (cuts_in old.names old.classes)
  pub classes : map (λ (entry : Interface × (ℕ × ℕ)). entry.0) new.classes ≡ map (λ (entry : Interface × (ℕ × ℕ)). entry.0) old.classes
  pub names : new.names ≡ old.names

-- whether a row's record names a handle
abbrev pub names_line : ℕ → Line → Bool
names_line name line = is_named name line.keyed.rec

-- ---- the interfaces of a handle

-- a bound before each interface of a handle, and one after each
abbrev pub BeginsBefore : (handle : ℕ) → Bound Interface → Type 0
BeginsBefore handle (Included interface) = interface.0 < handle
BeginsBefore handle (Excluded interface) = interface.0 < handle
BeginsBefore handle Unbounded = Unit {0}

abbrev pub EndsAfter : (handle : ℕ) → Bound Interface → Type 0
EndsAfter handle (Included interface) = handle < interface.0
EndsAfter handle (Excluded interface) = handle < interface.0
EndsAfter handle Unbounded = Unit {0}

-- Some GUIDs have that of each interface of a handle that has a number.
pub record HasProtocols (handle : ℕ) (classes : List (Interface × (ℕ × ℕ))) (guids : List (List ℕ)) : Type 0 where
  pub each : (guid : List ℕ) (number : ℕ) → HasNumber classes (handle, guid) number → (place : ℕ) × (slice_get guids place ≡ Some guid)
