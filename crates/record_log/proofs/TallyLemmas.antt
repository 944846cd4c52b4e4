-- How many records count, as rows change.
use Rattle.std.proofs.Common.{◌≡◌, ◌≤◌, ◌+◌, ◌-◌, ℕ, zero, suc, Bool, true, false, not, List, [], ◌∷◌, filter, length, Option, refl, if◌then◌else◌, sym, ap, ◌∙◌, inl, inr, arith}
use Rattle.std.specs.Prelude.{IfSome, slice_get}
use Rattle.std.proofs.lemmas.Bool.{cases_Bool}
use Rattle.open_records.specs.declared.open_record.KeyedRecord.{KeyedRecord}
use Rattle.open_records.proofs.ListLemmas.{length-filter-le}
use Rattle.record_rows.specs.Asking.{counts_at, counts_in}
use Rattle.record_rows.specs.Rows.{Cuts, Line, RowsView, closed_at, counts, shown, shown_from}
use Rattle.record_log.specs.Tallies.{HasFallen, IsTallied}
use Rattle.record_log.specs.declared.tally.Tally.{Tally}

-- no more records than before
pub fewer_tallied : (tally : Tally) (old new : RowsView) → length (shown new) ≤ length (shown old) → IsTallied tally old → IsTallied (record tally { exact = false }) new
fewer_tallied tally old new fewer is = record { most = omega (arith, fewer, is.most); exact = λ no_more. absurd (never no_more) }
  where
    never : false ≡ true → ⊥
    never no_more = cc

-- as many as before
pub same_tallied : (tally : Tally) (old new : RowsView) → length (shown new) ≡ length (shown old) → IsTallied tally old → IsTallied tally new
same_tallied tally old new same is = record { most = omega (arith, same, is.most); exact = λ exact. is.exact exact ∙ sym same }

-- one more
pub more_tallied : (tally : Tally) (old new : RowsView) → length (shown new) ≡ length (shown old) + 1 → IsTallied tally old → IsTallied (record tally { most = tally.most + 1 }) new
more_tallied tally old new more is = record { most = omega (arith, more, is.most); exact = λ exact. ap (λ (n : ℕ). n + 1) (is.exact exact) ∙ sym more }

shown_le : (first : ℕ) (cuts : Cuts) (lines : List Line) → length (shown_from first cuts lines) ≤ length lines
shown_le first cuts [] = omega arith
shown_le first cuts (line ∷ lines) =
    let rest = shown_le (first + 1) cuts lines in
    elim (cases_Bool (counts cuts first line)) [
      | inl here ↦ rw here (omega (arith, rest))
      | inr gone ↦ rw gone (omega (arith, rest))
    ]

-- no more than there are rows
pub rows_tallied : (rows : RowsView) (most : ℕ) → most ≡ length rows.lines → IsTallied (record { most = most; exact = false }) rows
rows_tallied rows most is = record { most = omega (arith, shown_le 0 rows.cuts rows.lines, is); exact = λ no_more. absurd (never no_more) }
  where
    never : false ≡ true → ⊥
    never no_more = cc

-- ---- a row is closed

one_if : (b : Bool) (one : KeyedRecord) (rest : List KeyedRecord) → length (if b then one ∷ rest else rest) ≡ (if b then 1 else 0) + length rest
one_if true one rest = omega arith
one_if false one rest = omega arith

closed_from : (first place n : ℕ) (b : Bool) (cuts : Cuts) (lines : List Line) → n ≡ first + place → counts_in cuts n (slice_get lines place) ≡ b
    → length (shown_from first cuts lines) ≡ (if b then 1 else 0) + length (shown_from first cuts (closed_at place true lines))
closed_from first zero n b cuts [] at is = rw (sym is) refl
closed_from first (suc place) n b cuts [] at is = rw (sym is) refl
closed_from first zero n b cuts (line ∷ lines) at is =
    let same : n ≡ first = omega (arith, at) in
    let here : counts cuts first line ≡ b = ap (λ (m : ℕ). counts cuts m line) (sym same) ∙ is in
    rw here (one_if b line.keyed (shown_from (first + 1) cuts lines))
closed_from first (suc place) n b cuts (line ∷ lines) at is =
    let rest = closed_from (first + 1) place n b cuts lines (omega (arith, at)) is in
    elim (cases_Bool (counts cuts first line)) [
      | inl here ↦ rw here (omega (arith, rest))
      | inr gone ↦ rw gone rest
    ]

-- a row that counts is closed: one record less counts
pub less_tallied : (tally : Tally) (rows : RowsView) (place : ℕ) → counts_at rows place ≡ true → IsTallied tally rows
    → IsTallied (record tally { most = tally.most - 1 }) (record rows { lines = closed_at place true rows.lines })
less_tallied tally rows place counts is =
    let less = closed_from 0 place place true rows.cuts rows.lines (omega arith) counts in
    record { most = omega (arith, less, is.most); exact = λ exact. let same = is.exact exact in omega (arith, less, same) }

-- a row that does not count is closed: as many records count
pub still_tallied : (tally : Tally) (rows : RowsView) (place : ℕ) → counts_at rows place ≡ false → IsTallied tally rows
    → IsTallied tally (record rows { lines = closed_at place true rows.lines })
still_tallied tally rows place counts is =
    let same = closed_from 0 place place false rows.cuts rows.lines (omega arith) counts in
    same_tallied tally rows (record rows { lines = closed_at place true rows.lines }) (omega (arith, same)) is

-- ---- cuts

module _ {X : Type 0} (goes test : X → Bool) (only : (x : X) → goes x ≡ true → test x ≡ true) where
  one_by : (g t : Bool) (x : X) (xs : List X) → goes x ≡ g → test x ≡ t → length (filter (λ y. not (goes y)) xs) + length (filter test xs) ≡ length xs + length (filter test (filter (λ y. not (goes y)) xs))
      → length (filter (λ y. not (goes y)) (x ∷ xs)) + length (filter test (x ∷ xs)) ≡ length (x ∷ xs) + length (filter test (filter (λ y. not (goes y)) (x ∷ xs)))
  one_by true true x xs gone passes rest = rw (gone, passes) (omega (arith, rest))
  one_by true false x xs gone fails rest = let passes : test x ≡ true = only x gone in absurd cc
  one_by false true x xs stays passes rest = rw (stays, passes) (omega (arith, rest))
  one_by false false x xs stays fails rest = rw (stays, fails) (omega (arith, rest))

  -- what goes of some is as many as go of all
  pub left_counted : (xs : List X) → length (filter (λ x. not (goes x)) xs) + length (filter test xs) ≡ length xs + length (filter test (filter (λ x. not (goes x)) xs))
  left_counted [] = refl
  left_counted (x ∷ xs) = one_by (goes x) (test x) x xs refl refl (left_counted xs)

module _ (goes test : KeyedRecord → Bool) (only : (one : KeyedRecord) → goes one ≡ true → test one ≡ true) where
  pub fallen : (old new : RowsView) (before after : Option ℕ) → shown new ≡ filter (λ (one : KeyedRecord). not (goes one)) (shown old)
      → IfSome before (λ count. count ≡ length (filter test (shown old))) → IfSome after (λ count. count ≡ length (filter test (shown new))) → HasFallen before after old new
  fallen old new before after left counted recounted =
      let all = left_counted goes test only (shown old) in
      let is : length (shown new) + length (filter test (shown old)) ≡ length (shown old) + length (filter test (shown new)) = rw left all in
      let fewer : length (shown new) ≤ length (shown old) = rw left (length-filter-le (λ (one : KeyedRecord). not (goes one)) (shown old)) in
      record {
        count = length (filter test (shown old));
        left = length (filter test (shown new));
        counted = counted;
        recounted = recounted;
        fewer = omega (arith, is, fewer);
        all = is;
      }

-- nothing went
pub same_fallen : (test : KeyedRecord → Bool) (old new : RowsView) (before after : Option ℕ) → new ≡ old
    → IfSome before (λ count. count ≡ length (filter test (shown old))) → IfSome after (λ count. count ≡ length (filter test (shown new))) → HasFallen before after old new
same_fallen test old new before after same counted recounted =
    let shows : shown new ≡ shown old = ap shown same in
    let left : length (filter test (shown new)) ≡ length (filter test (shown old)) = ap (λ l. length (filter test l)) shows in
    let long : length (shown new) ≡ length (shown old) = ap length shows in
    record {
      count = length (filter test (shown old));
      left = length (filter test (shown new));
      counted = counted;
      recounted = recounted;
      fewer = omega (arith, left);
      all = omega (arith, left, long);
    }
