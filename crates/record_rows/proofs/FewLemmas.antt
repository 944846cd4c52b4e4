-- Rows of which few were made since a cut of all of them.
use Rattle.std.proofs.Common.{◌≡◌, ◌<◌, ◌≤◌, ◌+◌, ℕ, zero, suc, Bool, true, false, not, ◌&&◌, nat_eq, nat_le, List, [], ◌∷◌, drop, filter, Option, Some, None, refl, sym, ap, subst, ◌∙◌, inl, inr, arith}
use Rattle.std.specs.Prelude.{slice_get}
use Rattle.std.proofs.lemmas.Bool.{and_parts, cases_Bool, cases_lt, eqb-true}
use Rattle.std.proofs.lemmas.Bool.Decides.{nat_tests}
use Rattle.open_records.specs.Records.{is_named}
use Rattle.open_records.specs.Interfaces.{Interface, interface_of, is_on}
use Rattle.open_records.specs.declared.open_record.KeyedRecord.{KeyedRecord}
use Rattle.record_rows.specs.Asking.{AreCutBefore, Rise, counts_at, counts_in, passes, passes_at}
use Rattle.record_rows.specs.Index.{RowKey, places_of}
use Rattle.record_rows.specs.Rows.{Line, RowsView, class_cut, counts, is_weak}
use Rattle.record_rows.proofs.CutLemmas.{exact_class}
use Rattle.record_rows.proofs.Walks.{AreAlike, from_places}

-- if none of the first rows counts, those that count are among the others
none_first : (rows : RowsView) (start : ℕ) (places : List ℕ) → ((number place : ℕ) → number < start → slice_get places number ≡ Some place → counts_at rows place ≡ false)
    → filter (counts_at rows) places ≡ filter (counts_at rows) (drop start places)
none_first rows zero places none = refl
none_first rows (suc start) [] none = refl
none_first rows (suc start) (place ∷ places) none =
    let gone : counts_at rows place ≡ false = none 0 place (omega arith) refl in
    rw gone (none_first rows start places (λ number other lt is. none (suc number) other (omega (arith, lt)) is))

pub few_counted : (rows : RowsView) (cut start last : ℕ) (places : List ℕ) → Rise places → AreCutBefore rows cut places → slice_get places start ≡ Some last → last < cut
    → filter (counts_at rows) places ≡ filter (counts_at rows) (drop (start + 1) places)
few_counted rows cut start last places rising are at before =
    none_first rows (start + 1) places
    (λ number place lt is. elim (cases_lt number start) [
      | inl earlier ↦ let less : place < last = rising number start place last earlier is at in are number place is (omega (arith, less, before))
      | inr reached ↦
          let same : number ≡ start = omega (arith, lt, reached) in
          let both : Some place ≡ Some last = sym is ∙ ap (slice_get places) same ∙ at in
          let here : place ≡ last = cc in
          are number place is (omega (arith, here, before))
    ])

-- the rows that a test picks, if those of them that come before a cut don't count
pub cut_before : (by : RowKey → Bool) (on : KeyedRecord → Bool) (rows : RowsView) (keys : List RowKey) (cut : ℕ) → AreAlike by on keys rows.lines
    → ((place : ℕ) (line : Line) → on line.keyed ≡ true → place < cut → counts rows.cuts place line ≡ false) → AreCutBefore rows cut (places_of by keys)
cut_before by on rows keys cut alike gone number place is lt =
    let at = from_places by on 0 keys rows.lines alike number place is in
    let same : at.0 ≡ place = omega (arith, at.1) in
    by_row (slice_get rows.lines place) refl (subst (λ (p : ℕ). passes_at on rows.lines p ≡ true) same at.2)
  where
    by_row : (row : Option Line) → slice_get rows.lines place ≡ row → passes_at on rows.lines place ≡ true → counts_at rows place ≡ false
    by_row None at passed = ap (counts_in rows.cuts place) at
    by_row (Some line) at passed = ap (counts_in rows.cuts place) at ∙ gone place line (sym (ap (passes on) at) ∙ passed) lt

-- a test that does not hold
fails : (b : Bool) → (b ≡ true → false ≡ true) → b ≡ false
fails false never = refl
fails true never = let clash : false ≡ true = never refl in absurd cc

pub gone_on : (rows : RowsView) (interface : Interface) (cut : ℕ) → cut ≤ rows.cuts.weak interface → cut ≤ rows.cuts.other interface
    → (place : ℕ) (line : Line) → is_on interface line.keyed ≡ true → place < cut → counts rows.cuts place line ≡ false
gone_on rows interface cut weak other place line on lt = fails (counts rows.cuts place line) late
  where
    late : counts rows.cuts place line ≡ true → false ≡ true
    late here =
        let one = and_parts (not line.closed && nat_le (rows.cuts.name line.keyed.rec.agent) place && nat_le (rows.cuts.name line.keyed.rec.controller) place) (nat_le (class_cut rows.cuts line.keyed) place) here in
        let same : interface_of line.keyed ≡ interface = exact_class (interface_of line.keyed) interface on in
        elim (cases_Bool (is_weak line.keyed.rec)) [
          | inl is ↦
              let later : nat_le (rows.cuts.weak (interface_of line.keyed)) place ≡ true = rw is at one.1 in
              let too : nat_le (rows.cuts.weak interface) place ≡ true = ap (λ (i : Interface). nat_le (rows.cuts.weak i) place) (sym same) ∙ later in
              absurd (grind (arith, nat_tests, weak, too, lt))
          | inr is ↦
              let later : nat_le (rows.cuts.other (interface_of line.keyed)) place ≡ true = rw is at one.1 in
              let too : nat_le (rows.cuts.other interface) place ≡ true = ap (λ (i : Interface). nat_le (rows.cuts.other i) place) (sym same) ∙ later in
              absurd (grind (arith, nat_tests, other, too, lt))
        ]

pub gone_named : (rows : RowsView) (name place : ℕ) (line : Line) → is_named name line.keyed.rec ≡ true → place < rows.cuts.name name → counts rows.cuts place line ≡ false
gone_named rows name place line named lt = fails (counts rows.cuts place line) late
  where
    late : counts rows.cuts place line ≡ true → false ≡ true
    late here =
        let front = (and_parts (not line.closed && nat_le (rows.cuts.name line.keyed.rec.agent) place && nat_le (rows.cuts.name line.keyed.rec.controller) place) (nat_le (class_cut rows.cuts line.keyed) place) here).0 in
        let both = and_parts (not line.closed && nat_le (rows.cuts.name line.keyed.rec.agent) place) (nat_le (rows.cuts.name line.keyed.rec.controller) place) front in
        let agent = (and_parts (not line.closed) (nat_le (rows.cuts.name line.keyed.rec.agent) place) both.0).1 in
        elim (cases_Bool (nat_eq line.keyed.rec.agent name)) [
          | inl is ↦
              let later : nat_le (rows.cuts.name name) place ≡ true = ap (λ (n : ℕ). nat_le (rows.cuts.name n) place) (sym (eqb-true line.keyed.rec.agent name is)) ∙ agent in
              absurd (grind (arith, nat_tests, later, lt))
          | inr is ↦
              let other : nat_eq line.keyed.rec.controller name ≡ true = rw is at named in
              let later : nat_le (rows.cuts.name name) place ≡ true = ap (λ (n : ℕ). nat_le (rows.cuts.name n) place) (sym (eqb-true line.keyed.rec.controller name other)) ∙ both.1 in
              absurd (grind (arith, nat_tests, later, lt))
        ]
