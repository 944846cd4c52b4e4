-- What is listed of interfaces, as rows are made and changed.
use Rattle.std.proofs.Common.{◌≡◌, ◌<◌, ℕ, zero, suc, Bool, true, false, ◌&&◌, not, nat_eq, List, [], ◌∷◌, ◌++◌, length, map, filter, append-nil, Option, Some, None, refl, sym, ap, subst, ◌∙◌, inl, inr, arith, if◌then◌else◌}
use Rattle.std.specs.Prelude.{slice_get}
use Rattle.std.proofs.lemmas.Bool.{and_parts, cases_Bool, eqb-true}
use Rattle.std.proofs.lemmas.Bool.Decides.{nat_tests}
use Rattle.std.proofs.lemmas.List.Elements.{filter-append}
use Rattle.fw_types.specs.Attr.{has_bit_of}
use Rattle.fw_types.specs.declared.attr.TheConstants.Attr.{WEAK_BITS}
use Rattle.open_records.specs.Interfaces.{Interface}
use Rattle.open_records.specs.declared.open_record.KeyedRecord.{KeyedRecord}
use Rattle.record_rows.specs.Asking.{counts_at, counts_in, passes, passes_at}
use Rattle.record_rows.specs.Index.{RowKey, is_other_on, places_of}
use Rattle.record_rows.specs.Inside.{AreMarked, key_of, lines_of}
use Rattle.record_rows.specs.Rows.{Cuts, Line, RowsView, counted_at, counts, is_weak, with_weak_cut}
use Rattle.record_rows.specs.ShownPlaces.{AreShownPlaces, IsListedAt, listed_at, with_place_if}
use Rattle.record_rows.specs.declared.cutters.Mark.{Mark}
use Rattle.record_rows.proofs.IndexLemmas.{place_if, place_passes, places_more, places_within}
use Rattle.record_rows.proofs.NumberLemmas.{get_last}
use Rattle.record_rows.proofs.Walks.{AreAlike}

-- nothing is listed
pub nothing_shown : (by : ℕ → RowKey → Bool) (rows : RowsView) (keys : List RowKey) (listed : List (Option (List ℕ))) → ((number : ℕ) → listed_at number listed ≡ None) → AreShownPlaces by rows keys listed
nothing_shown by rows keys listed none = record { each = λ number places is. absurd (not_some number places is) }
  where
    not_some : (number : ℕ) (places : List ℕ) → listed_at number listed ≡ Some places → ⊥
    not_some number places is = let clash : None ≡ Some places = sym (none number) ∙ is in absurd cc

-- ---- other rows that count alike

filter_alike : (test other : ℕ → Bool) (places : List ℕ) → ((number place : ℕ) → slice_get places number ≡ Some place → test place ≡ other place) → filter test places ≡ filter other places
filter_alike test other [] alike = refl
filter_alike test other (place ∷ places) alike =
    let rest = filter_alike test other places (λ number. alike (suc number)) in
    let here = alike 0 place refl in
    rw (here, rest) refl

-- if those of the rows that are meant count as before, the same is listed
pub shown_alike : (by : ℕ → RowKey → Bool) (rows others : RowsView) (keys : List RowKey) (listed : List (Option (List ℕ)))
    → ((number at place : ℕ) → slice_get (places_of (by number) keys) at ≡ Some place → counts_at others place ≡ counts_at rows place) → AreShownPlaces by rows keys listed → AreShownPlaces by others keys listed
shown_alike by rows others keys listed alike are = record {
  each = λ number places is. are.each number places is ∙ filter_alike (counts_at rows) (counts_at others) (places_of (by number) keys) (λ at place there. sym (alike number at place there));
}

-- another count of a record
counted_alike : (cuts : Cuts) (lines : List Line) (place count at first : ℕ) → counts_in cuts first (slice_get (counted_at place count lines) at) ≡ counts_in cuts first (slice_get lines at)
counted_alike cuts [] zero count at first = refl
counted_alike cuts [] (suc place) count at first = refl
counted_alike cuts (line ∷ lines) zero count zero first = refl
counted_alike cuts (line ∷ lines) zero count (suc at) first = refl
counted_alike cuts (line ∷ lines) (suc place) count zero first = refl
counted_alike cuts (line ∷ lines) (suc place) count (suc at) first = counted_alike cuts lines place count at first

pub shown_recounted : (by : ℕ → RowKey → Bool) (rows : RowsView) (keys : List RowKey) (listed : List (Option (List ℕ))) (place count : ℕ) → AreShownPlaces by rows keys listed → AreShownPlaces by (record rows { lines = counted_at place count rows.lines }) keys listed
shown_recounted by rows keys listed place count are = shown_alike by rows (record rows { lines = counted_at place count rows.lines }) keys listed (λ number n at there. counted_alike rows.cuts rows.lines place count at at) are

-- ---- another cut of weak records

abbrev pub is_other_key : RowKey → Bool
is_other_key key = not (has_bit_of WEAK_BITS key.3)

abbrev pub is_other_record : KeyedRecord → Bool
is_other_record one = not (is_weak one.rec)

-- rows that are not weak count as before
weak_cut_alike : (interface : Interface) (cut : ℕ) (cuts : Cuts) (place : ℕ) (row : Option Line) → passes is_other_record row ≡ true → counts_in (with_weak_cut interface cut cuts) place row ≡ counts_in cuts place row
weak_cut_alike interface cut cuts place None is = refl
weak_cut_alike interface cut cuts place (Some line) is =
    let other : is_weak line.keyed.rec ≡ false = by_test (is_weak line.keyed.rec) is in
    rw other refl
  where
    by_test : (b : Bool) → not b ≡ true → b ≡ false
    by_test false is = refl
    by_test true is = absurd cc

-- a key that passes is that of a row that passes
alike_at : (keys : List RowKey) (lines : List Line) (place : ℕ) (key : RowKey) → AreAlike is_other_key is_other_record keys lines → slice_get keys place ≡ Some key → is_other_key key ≡ true → passes_at is_other_record lines place ≡ true
alike_at [] lines place key alike at is = absurd cc
alike_at (first ∷ keys) [] place key alike at is = absurd alike
alike_at (first ∷ keys) (line ∷ lines) zero key alike at is = let same : first ≡ key = cc in sym alike.0 ∙ ap is_other_key same ∙ is
alike_at (first ∷ keys) (line ∷ lines) (suc place) key alike at is = alike_at keys lines place key alike.1 at is

pub others_shown : (interface : Interface) (cut : ℕ) (rows : RowsView) (keys : List RowKey) (listed : List (Option (List ℕ)))
    → AreAlike is_other_key is_other_record keys rows.lines → AreShownPlaces is_other_on rows keys listed → AreShownPlaces is_other_on (record rows { cuts = with_weak_cut interface cut rows.cuts }) keys listed
others_shown interface cut rows keys listed alike are =
    shown_alike is_other_on rows (record rows { cuts = with_weak_cut interface cut rows.cuts }) keys listed
    (λ number at place there.
    (let passed = place_passes (is_other_on number) keys at place there in
    let other = (and_parts (nat_eq passed.key.0 number) (is_other_key passed.key) passed.passes).1 in
    weak_cut_alike interface cut rows.cuts place (slice_get rows.lines place) (alike_at keys rows.lines place passed.key alike passed.at other)))
    are

-- what is listed was forgotten, or is what was listed
pub forgotten_or_same : (changed : Bool) (by : ℕ → RowKey → Bool) (rows : RowsView) (keys : List RowKey) (old new : List (Option (List ℕ)))
    → (changed ≡ true → (number : ℕ) → listed_at number new ≡ None) → (changed ≡ false → new ≡ old) → (changed ≡ false → AreShownPlaces by rows keys old) → AreShownPlaces by rows keys new
forgotten_or_same true by rows keys old new forgotten same are = nothing_shown by rows keys new (forgotten refl)
forgotten_or_same false by rows keys old new forgotten same are = subst (AreShownPlaces by rows keys) (sym (same refl)) (are refl)

-- ---- one more row

get_within : {X : Type 0} (xs ys : List X) (n : ℕ) → n < length xs → slice_get (xs ++ ys) n ≡ slice_get xs n
get_within [] ys n lt = absurd (omega (arith, lt))
get_within (x ∷ xs) ys zero lt = refl
get_within (x ∷ xs) ys (suc n) lt = get_within xs ys n (omega (arith, lt))

module _ (rows : RowsView) (line : Line) (keys : List RowKey) (key : RowKey) (long : length keys ≡ length rows.lines) where
  abbrev more : RowsView
  more = record rows { lines = rows.lines ++ line ∷ [] }

  last_in : counts_at more (length keys) ≡ counts rows.cuts (length keys) line
  last_in = ap (counts_in rows.cuts (length keys)) (ap (slice_get (rows.lines ++ line ∷ [])) long ∙ get_last rows.lines line)

  places_grow : (by : RowKey → Bool) → filter (counts_at more) (places_of by (keys ++ key ∷ [])) ≡ filter (counts_at rows) (places_of by keys) ++ (if by key && counts rows.cuts (length keys) line then length keys ∷ [] else [])
  places_grow by =
      ap (filter (counts_at more)) (places_more by keys key) ∙ filter-append (counts_at more) (places_of by keys) (place_if by (length keys) key)
      ∙ ap (λ l. l ++ filter (counts_at more) (place_if by (length keys) key)) old ∙ ap (λ l. filter (counts_at rows) (places_of by keys) ++ l) (last (by key) (counts rows.cuts (length keys) line) refl last_in)
    where
      old : filter (counts_at more) (places_of by keys) ≡ filter (counts_at rows) (places_of by keys)
      old = filter_alike (counts_at more) (counts_at rows) (places_of by keys)
          (λ number place there.
          (let within : place < length rows.lines = subst (λ (n : ℕ). place < n) long (places_within by keys number place there) in
          ap (counts_in rows.cuts place) (get_within rows.lines (line ∷ []) place within)))

      last : (mine counted : Bool) → by key ≡ mine → counts_at more (length keys) ≡ counted → filter (counts_at more) (place_if by (length keys) key) ≡ (if mine && counted then length keys ∷ [] else [])
      last true true is counts = rw (is, counts) refl
      last true false is counts = rw (is, counts) refl
      last false counted is counts = rw is refl

  pub shown_pushed : (by : ℕ → RowKey → Bool) (chosen : Bool) (old new : List (Option (List ℕ))) → ((number : ℕ) → nat_eq number key.0 ≡ false → by number key ≡ false)
      → chosen ≡ (by key.0 key && counts rows.cuts (length keys) line) → IsListedAt key.0 (with_place_if chosen (length keys) (listed_at key.0 old)) old new → AreShownPlaces by rows keys old → AreShownPlaces by more (keys ++ key ∷ []) new
  shown_pushed by chosen old new foreign is listed are = record {
    each = λ number places there. (elim (cases_Bool (nat_eq number key.0)) [
      | inl same ↦
          let on : number ≡ key.0 = eqb-true number key.0 same in
          let found = here chosen (listed_at key.0 old) places (listed.here places (ap (λ (n : ℕ). listed_at n new) (sym on) ∙ there)) in
          let was : found.0 ≡ filter (counts_at rows) (places_of (by number) keys) = are.each number found.0 (ap (λ (n : ℕ). listed_at n old) on ∙ found.1) in
          let mine : chosen ≡ (by number key && counts rows.cuts (length keys) line) = is ∙ ap (λ (n : ℕ). by n key && counts rows.cuts (length keys) line) (sym on) in
          found.2 ∙ ap (λ l. l ++ (if chosen then length keys ∷ [] else [])) was
          ∙ ap (λ (b : Bool). filter (counts_at rows) (places_of (by number) keys) ++ (if b then length keys ∷ [] else [])) mine ∙ sym (places_grow (by number))
      | inr differs ↦
          let before = are.each number places (sym (listed.others number differs) ∙ there) in
          let none : (by number key && counts rows.cuts (length keys) line) ≡ false = ap (λ (b : Bool). b && counts rows.cuts (length keys) line) (foreign number differs) in
          before ∙ sym (append-nil (filter (counts_at rows) (places_of (by number) keys)))
          ∙ ap (λ (b : Bool). filter (counts_at rows) (places_of (by number) keys) ++ (if b then length keys ∷ [] else [])) (sym none) ∙ sym (places_grow (by number))
    ]);
  }
    where
      here : (chosen : Bool) (listed : Option (List ℕ)) (places : List ℕ) → with_place_if chosen (length keys) listed ≡ Some places
          → (before : List ℕ) × (listed ≡ Some before) × (places ≡ before ++ (if chosen then length keys ∷ [] else []))
      here true None places is = let clash : None ≡ Some places = is in absurd cc
      here true (Some before) places is = let same : before ++ length keys ∷ [] ≡ places = cc in (before, refl, sym same)
      here false listed places is = (places, is, sym (append-nil places))

-- the keys of rows that are not weak are those of such records
pub other_rows : (names : List (ℕ × ℕ)) (classes : List (Interface × (ℕ × ℕ))) (records : List KeyedRecord) (marks : List Mark) → AreMarked names classes records marks
    → AreAlike is_other_key is_other_record (map key_of marks) (lines_of records marks)
other_rows names classes [] [] are = tt
other_rows names classes [] (mark ∷ marks) are = absurd are
other_rows names classes (one ∷ records) [] are = absurd are
other_rows names classes (one ∷ records) (mark ∷ marks) are = (ap (λ (bits : ℕ). not (has_bit_of WEAK_BITS bits)) are.0.attr, other_rows names classes records marks are.1)

pub other_number : (number interface : ℕ) → nat_eq number interface ≡ false → nat_eq interface number ≡ false
other_number number interface differs = grind (arith, nat_tests, differs)

pub and_swap : (a b : Bool) → (a && b) ≡ (b && a)
and_swap true true = refl
and_swap true false = refl
and_swap false true = refl
and_swap false false = refl
