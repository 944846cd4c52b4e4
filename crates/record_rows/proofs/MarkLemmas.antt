-- Records with their marks.
use Rattle.std.proofs.Common.{◌≡◌, ◌≤◌, ℕ, Bool, false, get_or, zero, suc, List, [], ◌∷◌, ◌++◌, length, map, set, take, Some, refl, sym, ap, subst, ◌∙◌, arith}
use Rattle.std.specs.Prelude.{None, Option, option_map, slice_get}
use Rattle.open_records.specs.Records.{recounted}
use Rattle.open_records.specs.Interfaces.{Interface, interface_of}
use Rattle.open_records.specs.declared.open_record.KeyedRecord.{KeyedRecord}
use Rattle.record_rows.specs.Asking.{passes_at}
use Rattle.record_rows.specs.Rows.{Line, closed_at, counted_at, map_at}
use Rattle.record_rows.specs.Inside.{AreMarked, CuttersValue, Grows, IsMarkOf, key_of, lines_of}
use Rattle.record_rows.specs.declared.cutters.Mark.{Mark}

module _ (names : List (ℕ × ℕ)) (owners : List (Interface × (ℕ × ℕ))) where
  pub marks_long : (records : List KeyedRecord) (marks : List Mark) → AreMarked names owners records marks → length marks ≡ length records
  marks_long [] [] are = refl
  marks_long [] (mark ∷ marks) are = absurd are
  marks_long (one ∷ records) [] are = absurd are
  marks_long (one ∷ records) (mark ∷ marks) are = ap suc (marks_long records marks are.1)

  pub lines_long : (records : List KeyedRecord) (marks : List Mark) → AreMarked names owners records marks → length (lines_of records marks) ≡ length records
  lines_long [] marks are = refl
  lines_long (one ∷ records) [] are = absurd are
  lines_long (one ∷ records) (mark ∷ marks) are = ap suc (lines_long records marks are.1)

  pub marked_take : (n : ℕ) (records : List KeyedRecord) (marks : List Mark) → AreMarked names owners records marks → AreMarked names owners (take n records) (take n marks)
  marked_take zero records marks are = tt
  marked_take (suc n) [] [] are = tt
  marked_take (suc n) [] (mark ∷ marks) are = absurd are
  marked_take (suc n) (one ∷ records) [] are = absurd are
  marked_take (suc n) (one ∷ records) (mark ∷ marks) are = (are.0, marked_take n records marks are.1)

  pub marked_pushed : (records : List KeyedRecord) (marks : List Mark) (one : KeyedRecord) (mark : Mark) → AreMarked names owners records marks → IsMarkOf names owners one mark
      → AreMarked names owners (records ++ one ∷ []) (marks ++ mark ∷ [])
  marked_pushed [] [] one mark are is = (is, tt)
  marked_pushed [] (other ∷ marks) one mark are is = absurd are
  marked_pushed (first ∷ records) [] one mark are is = absurd are
  marked_pushed (first ∷ records) (other ∷ marks) one mark are is = (are.0, marked_pushed records marks one mark are.1 is)

pub lines_take : (n : ℕ) (records : List KeyedRecord) (marks : List Mark) → lines_of (take n records) (take n marks) ≡ take n (lines_of records marks)
lines_take zero records marks = refl
lines_take (suc n) [] marks = refl
lines_take (suc n) (one ∷ records) [] = refl
lines_take (suc n) (one ∷ records) (mark ∷ marks) = ap (λ l. record { keyed = one; closed = mark.closed } ∷ l) (lines_take n records marks)

pub lines_pushed : (names : List (ℕ × ℕ)) (owners : List (Interface × (ℕ × ℕ))) (records : List KeyedRecord) (marks : List Mark) (one : KeyedRecord) (mark : Mark) → AreMarked names owners records marks
    → lines_of (records ++ one ∷ []) (marks ++ mark ∷ []) ≡ lines_of records marks ++ record { keyed = one; closed = mark.closed } ∷ []
lines_pushed names owners [] [] one mark are = refl
lines_pushed names owners [] (other ∷ marks) one mark are = absurd are
lines_pushed names owners (first ∷ records) [] one mark are = absurd are
lines_pushed names owners (first ∷ records) (other ∷ marks) one mark are = ap (λ l. record { keyed = first; closed = other.closed } ∷ l) (lines_pushed names owners records marks one mark are.1)

pub marked_grown : (old new : CuttersValue) (records : List KeyedRecord) (marks : List Mark) → Grows old new → AreMarked old.names old.classes records marks → AreMarked new.names new.classes records marks
marked_grown old new [] [] grows are = tt
marked_grown old new [] (mark ∷ marks) grows are = absurd are
marked_grown old new (one ∷ records) [] grows are = absurd are
marked_grown old new (one ∷ records) (mark ∷ marks) grows are = (
  record {
    agent = grows.names one.rec.agent mark.agent are.0.agent;
    controller = grows.names one.rec.controller mark.controller are.0.controller;
    interface = grows.classes (interface_of one) mark.interface are.0.interface;
    attr = are.0.attr;
  },
  marked_grown old new records marks grows are.1,
)

-- ---- one row

set_none : {X : Type 0} (place : ℕ) (x : X) → set [] place x ≡ []
set_none zero x = refl
set_none (suc place) x = refl

map_none : {X : Type 0} (place : ℕ) (f : X → X) → map_at place f [] ≡ []
map_none zero f = refl
map_none (suc place) f = refl

pub lines_closed : (records : List KeyedRecord) (marks : List Mark) (place : ℕ) (mark : Mark) → lines_of records (set marks place mark) ≡ closed_at place mark.closed (lines_of records marks)
lines_closed [] marks place mark = sym (map_none place (λ (line : Line). record line { closed = mark.closed }))
lines_closed (one ∷ records) [] place mark = ap (lines_of (one ∷ records)) (set_none place mark) ∙ sym (map_none place (λ (line : Line). record line { closed = mark.closed }))
lines_closed (one ∷ records) (other ∷ marks) zero mark = refl
lines_closed (one ∷ records) (other ∷ marks) (suc place) mark = ap (λ l. record { keyed = one; closed = other.closed } ∷ l) (lines_closed records marks place mark)

pub lines_counted : (records : List KeyedRecord) (marks : List Mark) (place count : ℕ) (default : KeyedRecord)
    → lines_of (set records place (record (get_or records place default) { rec = recounted count (get_or records place default).rec })) marks ≡ counted_at place count (lines_of records marks)
lines_counted [] marks place count default =
    ap (λ l. lines_of l marks) (set_none place (record (get_or [] place default) { rec = recounted count (get_or [] place default).rec }))
    ∙ sym (map_none place (λ (line : Line). record line { keyed = record line.keyed { rec = recounted count line.keyed.rec } }))
lines_counted (one ∷ records) [] zero count default = refl
lines_counted (one ∷ records) [] (suc place) count default = refl
lines_counted (one ∷ records) (mark ∷ marks) zero count default = refl
lines_counted (one ∷ records) (mark ∷ marks) (suc place) count default = ap (λ l. record { keyed = one; closed = mark.closed } ∷ l) (lines_counted records marks place count default)

module _ (names : List (ℕ × ℕ)) (owners : List (Interface × (ℕ × ℕ))) where
  pub marked_closed : (records : List KeyedRecord) (marks : List Mark) (place : ℕ) (closed : Bool) (default : Mark) → AreMarked names owners records marks
      → AreMarked names owners records (set marks place (record (get_or marks place default) { closed = closed }))
  marked_closed records [] place closed default are = subst (AreMarked names owners records) (sym (set_none place (record (get_or [] place default) { closed = closed }))) are
  marked_closed [] (mark ∷ marks) place closed default are = absurd are
  marked_closed (one ∷ records) (mark ∷ marks) zero closed default are = (record { agent = are.0.agent; controller = are.0.controller; interface = are.0.interface; attr = are.0.attr }, are.1)
  marked_closed (one ∷ records) (mark ∷ marks) (suc place) closed default are = (are.0, marked_closed records marks place closed default are.1)

  pub marked_counted : (records : List KeyedRecord) (marks : List Mark) (place count : ℕ) (default : KeyedRecord) → AreMarked names owners records marks
      → AreMarked names owners (set records place (record (get_or records place default) { rec = recounted count (get_or records place default).rec })) marks
  marked_counted [] marks place count default are = subst (λ l. AreMarked names owners l marks) (sym (set_none place (record (get_or [] place default) { rec = recounted count (get_or [] place default).rec }))) are
  marked_counted (one ∷ records) [] place count default are = absurd are
  marked_counted (one ∷ records) (mark ∷ marks) zero count default are = (record { agent = are.0.agent; controller = are.0.controller; interface = are.0.interface; attr = are.0.attr }, are.1)
  marked_counted (one ∷ records) (mark ∷ marks) (suc place) count default are = (are.0, marked_counted records marks place count default are.1)

-- where no row is, nothing changes
pub closed_past : (lines : List Line) (place : ℕ) (closed : Bool) → length lines ≤ place → closed_at place closed lines ≡ lines
closed_past [] place closed le = map_none place (λ (line : Line). record line { closed = closed })
closed_past (line ∷ lines) zero closed le = absurd (omega (arith, le))
closed_past (line ∷ lines) (suc place) closed le = ap (λ l. line ∷ l) (closed_past lines place closed (omega (arith, le)))

pub counted_past : (lines : List Line) (place count : ℕ) → length lines ≤ place → counted_at place count lines ≡ lines
counted_past [] place count le = map_none place (λ (line : Line). record line { keyed = record line.keyed { rec = recounted count line.keyed.rec } })
counted_past (line ∷ lines) zero count le = absurd (omega (arith, le))
counted_past (line ∷ lines) (suc place) count le = ap (λ l. line ∷ l) (counted_past lines place count (omega (arith, le)))

-- ---- the keys of the marks

pub keys_stay : (marks : List Mark) (place : ℕ) (closed : Bool) (default : Mark) → map key_of (set marks place (record (get_or marks place default) { closed = closed })) ≡ map key_of marks
keys_stay [] place closed default = ap (map key_of) (set_none place (record (get_or [] place default) { closed = closed }))
keys_stay (mark ∷ marks) zero closed default = refl
keys_stay (mark ∷ marks) (suc place) closed default = ap (λ l. key_of mark ∷ l) (keys_stay marks place closed default)

pub map-take : {X Y : Type 0} (f : X → Y) (n : ℕ) (xs : List X) → map f (take n xs) ≡ take n (map f xs)
map-take f zero xs = refl
map-take f (suc n) [] = refl
map-take f (suc n) (x ∷ xs) = ap (λ l. f x ∷ l) (map-take f n xs)

pub keys_pushed : (marks : List Mark) (mark : Mark) → map key_of (marks ++ mark ∷ []) ≡ map key_of marks ++ key_of mark ∷ []
keys_pushed [] mark = refl
keys_pushed (other ∷ marks) mark = ap (λ l. key_of other ∷ l) (keys_pushed marks mark)

-- ---- the row at a place

abbrev pub holds_in : (KeyedRecord → Bool) → Option KeyedRecord → Bool
holds_in test None = false
holds_in test (Some one) = test one

module _ (names : List (ℕ × ℕ)) (owners : List (Interface × (ℕ × ℕ))) where
  -- the record of a mark, and the row of both
  pub record HasRow (records : List KeyedRecord) (marks : List Mark) (place : ℕ) (one : KeyedRecord) (mark : Mark) : Type 0 where
    pub keyed : slice_get records place ≡ Some one
    pub is : IsMarkOf names owners one mark
    pub row : slice_get (lines_of records marks) place ≡ Some (record { keyed = one; closed = mark.closed })

  pub row_of_mark : (records : List KeyedRecord) (marks : List Mark) (place : ℕ) (mark : Mark) → AreMarked names owners records marks → slice_get marks place ≡ Some mark → (one : KeyedRecord) × HasRow records marks place one mark
  row_of_mark [] [] place mark are is = absurd cc
  row_of_mark [] (other ∷ marks) place mark are is = absurd are
  row_of_mark (one ∷ records) [] place mark are is = absurd are
  row_of_mark (one ∷ records) (other ∷ marks) zero mark are is =
      let same : other ≡ mark = cc in
      (one, record { keyed = refl; is = subst (IsMarkOf names owners one) same are.0; row = ap (λ (m : Mark). Some (record { keyed = one; closed = m.closed })) same })
  row_of_mark (one ∷ records) (other ∷ marks) (suc place) mark are is =
      let rest = row_of_mark records marks place mark are.1 is in
      (rest.0, record { keyed = rest.1.keyed; is = rest.1.is; row = rest.1.row })

  pub no_row : (records : List KeyedRecord) (marks : List Mark) (place : ℕ) → AreMarked names owners records marks → slice_get marks place ≡ None → slice_get (lines_of records marks) place ≡ None
  no_row [] marks place are is = refl
  no_row (one ∷ records) [] place are is = absurd are
  no_row (one ∷ records) (other ∷ marks) zero are is = absurd cc
  no_row (one ∷ records) (other ∷ marks) (suc place) are is = no_row records marks place are.1 is

  pub rec_at : (records : List KeyedRecord) (marks : List Mark) (place : ℕ) → AreMarked names owners records marks
      → option_map (λ (line : Line). line.keyed.rec) (slice_get (lines_of records marks) place) ≡ option_map (λ (one : KeyedRecord). one.rec) (slice_get records place)
  rec_at [] marks place are = refl
  rec_at (one ∷ records) [] place are = absurd are
  rec_at (one ∷ records) (other ∷ marks) zero are = refl
  rec_at (one ∷ records) (other ∷ marks) (suc place) are = rec_at records marks place are.1

  pub keyed_at : (records : List KeyedRecord) (marks : List Mark) (place : ℕ) → AreMarked names owners records marks
      → option_map (λ (line : Line). line.keyed) (slice_get (lines_of records marks) place) ≡ slice_get records place
  keyed_at [] marks place are = refl
  keyed_at (one ∷ records) [] place are = absurd are
  keyed_at (one ∷ records) (other ∷ marks) zero are = refl
  keyed_at (one ∷ records) (other ∷ marks) (suc place) are = keyed_at records marks place are.1

  pub keyed_passes : (test : KeyedRecord → Bool) (records : List KeyedRecord) (marks : List Mark) (place : ℕ) (found : Option KeyedRecord) → AreMarked names owners records marks → slice_get records place ≡ found
      → passes_at test (lines_of records marks) place ≡ holds_in test found
  keyed_passes test [] marks place found are at = let none : None ≡ found = at in ap (holds_in test) none
  keyed_passes test (one ∷ records) [] place found are at = absurd are
  keyed_passes test (one ∷ records) (other ∷ marks) zero found are at = let some : Some one ≡ found = at in ap (holds_in test) some
  keyed_passes test (one ∷ records) (other ∷ marks) (suc place) found are at = keyed_passes test records marks place found are.1 at
