-- Which rows count, as rows and cuts change.
use Rattle.std.proofs.Common.{◌≡◌, ◌+◌, ◌<◌, ◌≤◌, ℕ, zero, suc, Bool, true, false, not, ◌&&◌, ◌||◌, nat_eq, nat_le, List, [], ◌∷◌, ◌++◌, length, filter, map, refl, sym, ap, ◌∙◌, inl, inr, arith, if◌then◌else◌}
use Rattle.std.specs.List.{list_any}
use Rattle.std.proofs.lemmas.Bool.{cases_Bool, or_parts}
use Rattle.std.proofs.lemmas.Bool.Decides.{nat_tests}
use Rattle.open_records.specs.Records.{is_named}
use Rattle.open_records.specs.Changing.{counted, is_weak_on}
use Rattle.open_records.specs.Interfaces.{Interface, is_on}
use Rattle.open_records.specs.declared.open_record.KeyedRecord.{KeyedRecord}
use Rattle.open_records.proofs.ListLemmas.{filter_stays}
use Rattle.record_rows.specs.Rows.{AreWithin, Cuts, IsOnlyOne, Line, RowsView, class_cut, closed_at, counted_at, counts, is_weak, shown, shown_from, with_line, with_name_cut, with_other_cut, with_weak_cut}

-- ---- one more row

pub shown-append : (place : ℕ) (cuts : Cuts) (lines others : List Line) → shown_from place cuts (lines ++ others) ≡ shown_from place cuts lines ++ shown_from (place + length lines) cuts others
shown-append place cuts [] others = let same : place ≡ place + 0 = omega arith in ap (λ (n : ℕ). shown_from n cuts others) same
shown-append place cuts (line ∷ lines) others =
    let on : (place + 1) + length lines ≡ place + length (line ∷ lines) = omega arith in
    let rest : shown_from (place + 1) cuts (lines ++ others) ≡ shown_from (place + 1) cuts lines ++ shown_from (place + length (line ∷ lines)) cuts others =
    shown-append (place + 1) cuts lines others ∙ ap (λ (n : ℕ). shown_from (place + 1) cuts lines ++ shown_from n cuts others) on in
    elim (cases_Bool (counts cuts place line)) [
      | inl here ↦ rw here (ap (λ l. line.keyed ∷ l) rest)
      | inr gone ↦ rw gone rest
    ]

le_true : (a b : ℕ) → a ≤ b → nat_le a b ≡ true
le_true a b le = grind (arith, nat_tests, le)

-- a row that was just made counts
pub last_counts : (cuts : Cuts) (one : KeyedRecord) (place : ℕ) → AreWithin cuts place → counts cuts place (record { keyed = one; closed = false }) ≡ true
last_counts cuts one place within = elim (cases_Bool (is_weak one.rec)) [
  | inl weak ↦ rw (weak, le_true _ place (within.name one.rec.agent), le_true _ place (within.name one.rec.controller), le_true _ place (within.weak (one.handle, one.guid))) refl
  | inr other ↦ rw (other, le_true _ place (within.name one.rec.agent), le_true _ place (within.name one.rec.controller), le_true _ place (within.other (one.handle, one.guid))) refl
]

pub shown-pushed : (rows : RowsView) (one : KeyedRecord) → AreWithin rows.cuts (length rows.lines) → shown (with_line one rows) ≡ shown rows ++ one ∷ []
shown-pushed rows one within =
    let last : shown_from (0 + length rows.lines) rows.cuts (record { keyed = one; closed = false } ∷ []) ≡ one ∷ [] =
    (let same : 0 + length rows.lines ≡ length rows.lines = omega arith in
    let fits : counts rows.cuts (0 + length rows.lines) (record { keyed = one; closed = false }) ≡ true = ap (λ (n : ℕ). counts rows.cuts n (record { keyed = one; closed = false })) same ∙ last_counts rows.cuts one (length rows.lines) within in
    rw fits refl) in
    shown-append 0 rows.cuts rows.lines (record { keyed = one; closed = false } ∷ []) ∙ ap (λ l. shown rows ++ l) last

-- ---- fewer rows that count

-- If just those of the rows that count which pass a test go on to count, the records are those that pass it.
pub shown-filter : (cuts after : Cuts) (stays : KeyedRecord → Bool) (first : ℕ) (lines : List Line)
    → ((place : ℕ) (line : Line) → place < first + length lines → counts after place line ≡ (counts cuts place line && stays line.keyed))
    → shown_from first after lines ≡ filter stays (shown_from first cuts lines)
shown-filter cuts after stays first [] each = refl
shown-filter cuts after stays first (line ∷ lines) each =
    let rest = shown-filter cuts after stays (first + 1) lines (λ place other lt. each place other (omega (arith, lt))) in
    let here = each first line (omega arith) in
    elim (cases_Bool (counts cuts first line)) [
      | inl was ↦ elim (cases_Bool (stays line.keyed)) [
        | inl on ↦ let too : counts after first line ≡ true = here ∙ rw (was, on) refl in rw (was, too, on) (ap (λ l. line.keyed ∷ l) rest)
        | inr off ↦ let gone : counts after first line ≡ false = here ∙ rw (was, off) refl in rw (was, gone, off) rest
      ]
      | inr out ↦ let neither : counts after first line ≡ false = here ∙ rw out refl in rw (out, neither) rest
    ]

-- a cut after all rows leaves none of those that it is for
le_cut : (same : Bool) (cut count place : ℕ) → place < count → nat_le (if same then count else cut) place ≡ (not same && nat_le cut place)
le_cut true cut count place lt = grind (arith, nat_tests, lt)
le_cut false cut count place lt = refl

-- ---- a handle number

pub shown-swept : (rows : RowsView) (name : ℕ)
    → shown (record rows { cuts = with_name_cut name (length rows.lines) rows.cuts }) ≡ filter (λ (one : KeyedRecord). not (is_named name one.rec)) (shown rows)
shown-swept rows name =
    shown-filter rows.cuts (with_name_cut name (length rows.lines) rows.cuts) (λ (one : KeyedRecord). not (is_named name one.rec)) 0 rows.lines
    (λ place line lt.
    (let below : place < length rows.lines = omega (arith, lt) in
    rw (
      le_cut (nat_eq line.keyed.rec.agent name) (rows.cuts.name line.keyed.rec.agent) (length rows.lines) place below,
      le_cut (nat_eq line.keyed.rec.controller name) (rows.cuts.name line.keyed.rec.controller) (length rows.lines) place below,
    )
    (by_tests line.closed (nat_eq line.keyed.rec.agent name) (nat_eq line.keyed.rec.controller name)
    (nat_le (rows.cuts.name line.keyed.rec.agent) place) (nat_le (rows.cuts.name line.keyed.rec.controller) place) (nat_le (class_cut rows.cuts line.keyed) place))))
  where
    by_tests : (closed a b p q r : Bool) → (not closed && (not a && p) && (not b && q) && r) ≡ ((not closed && p && q && r) && not (a || b))
    by_tests true a b p q r = refl
    by_tests false true b p q r = swap_false (p && q && r)
      where
        swap_false : (x : Bool) → false ≡ (x && false)
        swap_false true = refl
        swap_false false = refl
    by_tests false false true true q r = swap_false (q && r)
      where
        swap_false : (x : Bool) → false ≡ (x && false)
        swap_false true = refl
        swap_false false = refl
    by_tests false false true false q r = refl
    by_tests false false false p q r = swap_true (p && q && r)
      where
        swap_true : (x : Bool) → x ≡ (x && true)
        swap_true true = refl
        swap_true false = refl

-- ---- the two classes of an interface

-- the records of one class on an interface are cut at the end of the rows
by_class : (closed mine on p q : Bool) (cut other count place : ℕ) → place < count
    → (not closed && p && q && nat_le (if mine then (if on then count else cut) else other) place) ≡ ((not closed && p && q && nat_le (if mine then cut else other) place) && not (on && mine))
by_class true mine on p q cut other count place lt = refl
by_class false mine on false q cut other count place lt = refl
by_class false mine on true false cut other count place lt = refl
by_class false true true true true cut other count place lt = le_cut true cut count place lt ∙ none (nat_le cut place)
  where
    none : (x : Bool) → false ≡ (x && false)
    none true = refl
    none false = refl
by_class false true false true true cut other count place lt = same (nat_le cut place)
  where
    same : (x : Bool) → x ≡ (x && true)
    same true = refl
    same false = refl
by_class false false on true true cut other count place lt = same on (nat_le other place)
  where
    same : (o x : Bool) → x ≡ (x && not (o && false))
    same true true = refl
    same true false = refl
    same false true = refl
    same false false = refl

pub shown-unweak : (rows : RowsView) (interface : Interface)
    → shown (record rows { cuts = with_weak_cut interface (length rows.lines) rows.cuts }) ≡ filter (λ (one : KeyedRecord). not (is_weak_on interface one)) (shown rows)
shown-unweak rows interface =
    shown-filter rows.cuts (with_weak_cut interface (length rows.lines) rows.cuts) (λ (one : KeyedRecord). not (is_weak_on interface one)) 0 rows.lines
    (λ place line lt.
    by_class line.closed (is_weak line.keyed.rec) (is_on interface line.keyed) (nat_le (rows.cuts.name line.keyed.rec.agent) place) (nat_le (rows.cuts.name line.keyed.rec.controller) place)
    (rows.cuts.weak (line.keyed.handle, line.keyed.guid)) (rows.cuts.other (line.keyed.handle, line.keyed.guid)) (length rows.lines) place (omega (arith, lt)))

abbrev pub is_lasting_on : Interface → KeyedRecord → Bool
is_lasting_on interface one = is_on interface one && not (is_weak one.rec)

pub shown-unlasting : (rows : RowsView) (interface : Interface)
    → shown (record rows { cuts = with_other_cut interface (length rows.lines) rows.cuts }) ≡ filter (λ (one : KeyedRecord). not (is_lasting_on interface one)) (shown rows)
shown-unlasting rows interface =
    shown-filter rows.cuts (with_other_cut interface (length rows.lines) rows.cuts) (λ (one : KeyedRecord). not (is_lasting_on interface one)) 0 rows.lines
    (λ place line lt.
    by_other line.closed (is_weak line.keyed.rec) (is_on interface line.keyed) (nat_le (rows.cuts.name line.keyed.rec.agent) place) (nat_le (rows.cuts.name line.keyed.rec.controller) place)
    (rows.cuts.weak (line.keyed.handle, line.keyed.guid)) (rows.cuts.other (line.keyed.handle, line.keyed.guid)) (length rows.lines) place (omega (arith, lt)))
  where
    by_other : (closed weak on p q : Bool) (cut other count place : ℕ) → place < count
        → (not closed && p && q && nat_le (if weak then cut else if on then count else other) place) ≡ ((not closed && p && q && nat_le (if weak then cut else other) place) && not (on && not weak))
    by_other closed true on p q cut other count place lt = by_class closed false on p q other cut count place lt
    by_other closed false on p q cut other count place lt = by_class closed true on p q other cut count place lt

-- ---- one row is closed, or counts otherwise

pub shown-closed : (cuts : Cuts) (first place : ℕ) (test : KeyedRecord → Bool) (lines : List Line) → IsOnlyOne cuts first place test lines
    → shown_from first cuts (closed_at place true lines) ≡ filter (λ (one : KeyedRecord). not (test one)) (shown_from first cuts lines)
shown-closed cuts first zero test [] only = refl
shown-closed cuts first (suc place) test [] only = refl
shown-closed cuts first zero test (line ∷ lines) only = rw (only.0, only.1) (sym (filter_stays test (shown_from (first + 1) cuts lines) only.2))
shown-closed cuts first (suc place) test (line ∷ lines) only =
    let rest = shown-closed cuts (first + 1) place test lines only.1 in
    elim (cases_Bool (counts cuts first line)) [
      | inl here ↦ let fails : test line.keyed ≡ false = rw here at only.0 in rw (here, fails) (ap (λ l. line.keyed ∷ l) rest)
      | inr gone ↦ rw gone rest
    ]

map_stays : (test : KeyedRecord → Bool) (count : ℕ) (xs : List KeyedRecord) → list_any test xs ≡ false → map (counted test count) xs ≡ xs
map_stays test count [] none = refl
map_stays test count (x ∷ xs) none =
    let parts = or_parts (test x) (list_any test xs) none in
    rw parts.0 (ap (λ l. x ∷ l) (map_stays test count xs parts.1))

pub shown-counted : (cuts : Cuts) (first place count : ℕ) (test : KeyedRecord → Bool) (lines : List Line) → IsOnlyOne cuts first place test lines
    → shown_from first cuts (counted_at place count lines) ≡ map (counted test count) (shown_from first cuts lines)
shown-counted cuts first zero count test [] only = refl
shown-counted cuts first (suc place) count test [] only = refl
shown-counted cuts first zero count test (line ∷ lines) only =
    rw (only.0, only.1) (ap (λ l. record line.keyed { rec = record line.keyed.rec { count = count } } ∷ l) (sym (map_stays test count (shown_from (first + 1) cuts lines) only.2)))
shown-counted cuts first (suc place) count test (line ∷ lines) only =
    let rest = shown-counted cuts (first + 1) place count test lines only.1 in
    elim (cases_Bool (counts cuts first line)) [
      | inl here ↦ let fails : test line.keyed ≡ false = rw here at only.0 in rw (here, fails) (ap (λ l. line.keyed ∷ l) rest)
      | inr gone ↦ rw gone rest
    ]
