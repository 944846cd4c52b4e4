-- New rows of the records that count.
use Rattle.std.proofs.Common.{◌≡◌, ◌<◌, ◌+◌, ℕ, zero, suc, Bool, true, false, not, ◌&&◌, nat_le, List, [], ◌∷◌, ◌++◌, length, map, drop, Option, Some, None, refl, sym, ap, subst, ◌∙◌, inl, inr, ◌⊎◌, append_assoc, arith}
use Rattle.std.specs.Prelude.{is_some, option_map, slice_get}
use Rattle.std.specs.List.{list_any}
use Rattle.std.proofs.lemmas.Bool.{and_from, and_parts, cases_Bool, not-true, not_from_false}
use Rattle.std.proofs.lemmas.Bool.Decides.{nat_tests}
use Rattle.std.proofs.lemmas.List.{append-nil}
use Rattle.std.proofs.lemmas.Option.{slice_get-map}
use Rattle.open_records.specs.OpenRecords.{IsSound, clash}
use Rattle.open_records.specs.Keyed.{no_pair}
use Rattle.open_records.specs.declared.open_record.KeyedRecord.{KeyedRecord}
use Rattle.record_rows.specs.Inside.{Kept, rows_of}
use Rattle.record_rows.specs.Rows.{Cuts, Line, RowsView, counts, in_order, is_weak, shown, shown_from}
use Rattle.record_log.specs.declared.tally.Tally.{Tally}
use Rattle.record_log.specs.SoundRows.{IsSoundRows, copied, fresh_of, no_cuts, open_line}
use Rattle.record_log.specs.TakingBack.{Sections, table_of}
use Rattle.record_log.proofs.ChosenLemmas.{any_get}
use Rattle.record_log.proofs.LastCounting.{none_from}
use Rattle.undo_log.specs.Log.{carried}

-- ---- the same records count

fresh_counts : (place : ℕ) (one : KeyedRecord) → counts no_cuts place (open_line one) ≡ true
fresh_counts place one = elim (cases_Bool (is_weak one.rec)) [
  | inl weak ↦ rw (weak, low place) refl
  | inr other ↦ rw (other, low place) refl
]
  where
    low : (n : ℕ) → nat_le 0 n ≡ true
    low n = grind (arith, nat_tests)

shown_open : (first : ℕ) (xs : List KeyedRecord) → shown_from first no_cuts (map open_line xs) ≡ xs
shown_open first [] = refl
shown_open first (x ∷ xs) = rw (fresh_counts first x) (ap (λ l. x ∷ l) (shown_open (first + 1) xs))

pub shown_fresh : (rows : RowsView) → shown (fresh_of rows) ≡ shown rows
shown_fresh rows = shown_open 0 (shown rows)

pub fresh_table : (limit : ℕ) (rows : RowsView) → table_of limit (fresh_of rows) ≡ table_of limit rows
fresh_table limit rows = ap (λ (entries : List KeyedRecord). record { entries = in_order entries; limit = limit }) (shown_fresh rows)

-- ---- and no row excludes a later one

-- of the records that count none excludes a later one
shown_apart : (cuts : Cuts) (first : ℕ) (lines : List Line)
    → ((n m place : ℕ) (line other : Line) → place ≡ first + n → slice_get lines n ≡ Some line → slice_get lines m ≡ Some other → n < m → clash line.keyed other.keyed ≡ true → counts cuts place line ≡ false)
    → no_pair clash (shown_from first cuts lines) ≡ true
shown_apart cuts first [] older = refl
shown_apart cuts first (line ∷ lines) older =
    let rest = shown_apart cuts (first + 1) lines (λ n m place one other at here there lt clashes. older (suc n) (suc m) place one other (omega (arith, at)) here there (omega (arith, lt)) clashes) in
    elim (cases_Bool (counts cuts first line)) [
      | inl here ↦
          let none = none_from cuts (clash line.keyed) (first + 1) lines (λ n place other at there. false_by (counts cuts place other && clash line.keyed other.keyed) (λ both. out n other there here (and_parts (counts cuts place other) (clash line.keyed other.keyed) both).1)) in
          rw here (and_from (not (list_any (clash line.keyed) (shown_from (first + 1) cuts lines))) (no_pair clash (shown_from (first + 1) cuts lines)) (not_from_false _ none) rest)
      | inr gone ↦ rw gone rest
    ]
  where
    false_by : (b : Bool) → (b ≡ true → ⊥) → b ≡ false
    false_by false never = refl
    false_by true never = absurd (never refl)

    out : (n : ℕ) (other : Line) → slice_get lines n ≡ Some other → counts cuts first line ≡ true → clash line.keyed other.keyed ≡ true → ⊥
    out n other there here clashes =
        let gone = older zero (suc n) first line other (omega arith) refl there (omega arith) clashes in
        let both : true ≡ false = sym here ∙ gone in
        cc

-- a record excludes no later one
apart_get : (xs : List KeyedRecord) (n m : ℕ) (one other : KeyedRecord) → no_pair clash xs ≡ true → slice_get xs n ≡ Some one → slice_get xs m ≡ Some other → n < m → clash one other ≡ true → ⊥
apart_get [] n m one other apart here there lt clashes = absurd cc
apart_get (x ∷ xs) n zero one other apart here there lt clashes = absurd (omega (arith, lt))
apart_get (x ∷ xs) zero (suc m) one other apart here there lt clashes =
    let same : x ≡ one = cc in
    let none : list_any (clash x) xs ≡ false = not-true _ (and_parts (not (list_any (clash x) xs)) (no_pair clash xs) apart).0 in
    let some : list_any (clash x) xs ≡ true = any_get (clash x) xs m other there (ap (λ (k : KeyedRecord). clash k other) same ∙ clashes) in
    let both : true ≡ false = sym some ∙ none in
    cc
apart_get (x ∷ xs) (suc n) (suc m) one other apart here there lt clashes =
    apart_get xs n m one other (and_parts (not (list_any (clash x) xs)) (no_pair clash xs) apart).1 here there (omega (arith, lt)) clashes

-- what an option has become
opened : (o : Option KeyedRecord) (line : Line) → option_map open_line o ≡ Some line → o ≡ Some line.keyed
opened None line is = absurd cc
opened (Some one) line is = let same : open_line one ≡ line = cc in ap (λ (l : Line). Some l.keyed) same

pub fresh_sound : (limit : ℕ) (rows : RowsView) → IsSoundRows limit rows → IsSoundRows limit (fresh_of rows)
fresh_sound limit rows sound = record {
  table = subst IsSound (sym (fresh_table limit rows)) sound.table;
  within = record { name = λ n. omega arith; weak = λ i. omega arith; other = λ i. omega arith };
  older = λ place later line other here there lt clashes. absurd (apart_get (shown rows) place later line.keyed other.keyed apart (keyed_at place line here) (keyed_at later other there) lt clashes);
}
  where
    keyed_at : (place : ℕ) (line : Line) → slice_get (map open_line (shown rows)) place ≡ Some line → slice_get (shown rows) place ≡ Some line.keyed
    keyed_at place line here = opened (slice_get (shown rows) place) line (sym (slice_get-map open_line (shown rows) place) ∙ here)

    apart : no_pair clash (shown rows) ≡ true
    apart = shown_apart rows.cuts 0 rows.lines (λ n m place line other at here there lt clashes. from_zero n m place line other at here there lt clashes)
      where
        from_zero : (n m place : ℕ) (line other : Line) → place ≡ 0 + n → slice_get rows.lines n ≡ Some line → slice_get rows.lines m ≡ Some other → n < m → clash line.keyed other.keyed ≡ true → counts rows.cuts place line ≡ false
        from_zero n m place line other at here there lt clashes =
            let same : n ≡ place = omega (arith, at) in
            ap (λ (k : ℕ). counts rows.cuts k line) (sym same) ∙ sound.older n m line other here there lt clashes

-- ---- one row after another

-- the rows that are made of a row and of those after it
pub copied_next : (cuts : Cuts) (place : ℕ) (line : Line) (lines : List Line) → map open_line (shown_from place cuts (line ∷ lines)) ≡ copied cuts place (Some line) ++ map open_line (shown_from (place + 1) cuts lines)
copied_next cuts place line lines = elim (cases_Bool (counts cuts place line)) [
  | inl here ↦ rw here refl
  | inr gone ↦ rw gone refl
]

-- the next of some rows
pub next_line : (lines : List Line) (place : ℕ) → place < length lines → (line : Line) × (slice_get lines place ≡ Some line) × (drop place lines ≡ line ∷ drop (place + 1) lines)
next_line [] place within = absurd (omega (arith, within))
next_line (line ∷ lines) zero within = (line, refl, refl)
next_line (line ∷ lines) (suc place) within =
    let rest = next_line lines place (omega (arith, within)) in
    let at : suc (place + 1) ≡ suc place + 1 = omega arith in
    (rest.0, rest.1, rest.2 ∙ ap (λ (n : ℕ). rest.0 ∷ drop n (line ∷ lines)) at)

-- one more row is copied, or passed over
pub copied_on : (rows fresh new : RowsView) (place : ℕ) → place < length rows.lines → new ≡ record fresh { lines = fresh.lines ++ copied rows.cuts place (slice_get rows.lines place) }
    → ◌≡◌ {A = RowsView} (record fresh { lines = fresh.lines ++ map open_line (shown_from place rows.cuts (drop place rows.lines)) }) (fresh_of rows)
    → ◌≡◌ {A = RowsView} (record new { lines = new.lines ++ map open_line (shown_from (place + 1) rows.cuts (drop (place + 1) rows.lines)) }) (fresh_of rows)
copied_on rows fresh new place within is so_far =
    let next = next_line rows.lines place within in
    let rest = map open_line (shown_from (place + 1) rows.cuts (drop (place + 1) rows.lines)) in
    ap (λ (r : RowsView). record r { lines = r.lines ++ rest }) is
    ∙ ap (λ (lines : List Line). record fresh { lines = lines })
    (append_assoc fresh.lines (copied rows.cuts place (slice_get rows.lines place)) rest
    ∙ ap (λ (o : Option Line). fresh.lines ++ (copied rows.cuts place o ++ rest)) next.1
    ∙ ap (λ (l : List Line). fresh.lines ++ l) (sym (copied_next rows.cuts place next.0 (drop (place + 1) rows.lines)) ∙ ap (λ (l : List Line). map open_line (shown_from place rows.cuts l)) (sym next.2)))
    ∙ so_far

-- none is left
pub copied_all : (rows fresh : RowsView) (place : ℕ) → drop place rows.lines ≡ []
    → ◌≡◌ {A = RowsView} (record fresh { lines = fresh.lines ++ map open_line (shown_from place rows.cuts (drop place rows.lines)) }) (fresh_of rows) → fresh ≡ fresh_of rows
copied_all rows fresh place none all =
    ap (λ (lines : List Line). record fresh { lines = lines }) (sym (append-nil fresh.lines) ∙ ap (λ (l : List Line). fresh.lines ++ map open_line (shown_from place rows.cuts l)) (sym none)) ∙ all

-- ---- rows that may be new

abbrev pub Renewed : Kept → Kept → Type 0
Renewed old new = (new ≡ old) ⊎ (rows_of new ≡ fresh_of (rows_of old))

pub renewed_sound : (limit : ℕ) (old new : Kept) → Renewed old new → IsSoundRows limit (rows_of old) → IsSoundRows limit (rows_of new)
renewed_sound limit old new (inl same) sound = subst (λ (kept : Kept). IsSoundRows limit (rows_of kept)) (sym same) sound
renewed_sound limit old new (inr fresh) sound = subst (IsSoundRows limit) (sym fresh) (fresh_sound limit (rows_of old) sound)

pub renewed_table : (limit : ℕ) (old new : Kept) → Renewed old new → table_of limit (rows_of new) ≡ table_of limit (rows_of old)
renewed_table limit old new (inl same) = ap (λ (kept : Kept). table_of limit (rows_of kept)) same
renewed_table limit old new (inr fresh) = ap (table_of limit) fresh ∙ fresh_table limit (rows_of old)

-- if no mark carries anything, none is open
pub none_carried : {X : Type 0} (f : X → Tally) (o : Option X) (marks : Sections) (empty : Bool) → option_map f o ≡ carried marks → is_some o ≡ not empty → empty ≡ true → marks ≡ []
none_carried f None [] empty is test none = refl
none_carried f None (newest ∷ older) empty is test none = absurd cc
none_carried f (Some x) marks empty is test none = let both : true ≡ false = test ∙ ap not none in absurd cc

pub renewed_count : (old new : Kept) → Renewed old new → length (shown (rows_of new)) ≡ length (shown (rows_of old))
renewed_count old new (inl same) = ap (λ (kept : Kept). length (shown (rows_of kept))) same
renewed_count old new (inr fresh) = ap (λ (rows : RowsView). length (shown rows)) fresh ∙ ap length (shown_fresh (rows_of old))
