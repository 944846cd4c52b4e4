-- Rows that are closed, counted otherwise or made, as changes that can be taken back.
use Rattle.std.proofs.Common.{◌≡◌, ◌≤◌, ◌+◌, ℕ, zero, suc, Bool, true, false, not, ◌&&◌, ◌||◌, nat_eq, nat_le, min, List, [], ◌∷◌, length, filter, map, Option, Some, None, refl, sym, ap, subst, ◌∙◌, inl, inr, ◌⊎◌, arith, length-append, if◌then◌else◌}
use Rattle.std.specs.Prelude.{option_map, slice_get}
use Rattle.std.specs.List.{list_any}
use Rattle.std.specs.Option.{option_to_list}
use Rattle.std.proofs.lemmas.Bool.{and_parts, cases_Bool, eqb-true, not-true}
use Rattle.std.proofs.lemmas.Bool.Decides.{nat_tests}
use Rattle.std.proofs.lemmas.List.{length-map}
use Rattle.std.proofs.lemmas.Option.{slice_get-map, slice_get_within}
use Rattle.fw_types.specs.Attr.{is_legal}
use Rattle.open_records.specs.Records.{is_equal, is_strong, recounted}
use Rattle.open_records.specs.declared.open_record.Rec.{Rec}
use Rattle.open_records.specs.Adding.{added, first, is_full, most}
use Rattle.open_records.specs.OpenRecords.{IsSound, clash}
use Rattle.open_records.specs.Verdicts.{judge, may_enter}
use Rattle.open_records.proofs.AddingLemmas.{clash_swap, no_clash}
use Rattle.open_records.proofs.LawProofs.{adding_keeps}
use Rattle.open_records.specs.Changing.{is_open, raised}
use Rattle.open_records.specs.Keyed.{falls, is_of, records_of}
use Rattle.open_records.specs.declared.open_record.KeyedRecord.{KeyedRecord}
use Rattle.open_records.proofs.ListLemmas.{length-filter-le}
use Rattle.record_rows.specs.Asking.{KeepsKeys, closed_where}
use Rattle.record_rows.specs.Inside.{Kept, rows_of}
use Rattle.record_rows.specs.Rows.{AreWithin, Cuts, Line, RowsView, counted_at, counts, entries_of, in_order, shown, shown_from, with_line}
use Rattle.record_log.specs.SoundRows.{AreChosen, IsChange, IsSoundRows, OlderAreOut, count_in_line, is_among, is_chosen, last_counting, without}
use Rattle.record_log.specs.TakingBack.{back, closed_each, table_of}
use Rattle.record_log.specs.declared.record_change.RecordChange.TheVariants.{Closed, Counted, Made}
use Rattle.record_rows.proofs.InOrder.{in_order-map, in_order-pushed, length_in_order}
use Rattle.record_log.proofs.LastCounting.{IsRow, any_on, chosen_by, chosen_row, last_is_chosen, none_shown, open_excludes}
use Rattle.record_log.proofs.LineLemmas.{closed_each_get, closed_each_long, closed_if, map_at_get, map_at_long, push_get, same_by_places, take_front}
use Rattle.record_rows.proofs.Shown.{shown-pushed}
use Rattle.record_log.proofs.SoundLemmas.{IsFormer, has_shown, left_sound, left_table, older_kept}
use Rattle.record_rows.proofs.Undone.{counted_back}

-- other lines keep what has cuts
pub keys_of_lines : (old new : Kept) (lines : List Line) → new ≡ record old { lines = lines } → KeepsKeys old new
keys_of_lines old new lines is = subst (KeepsKeys old) (sym is) (record { names = λ name has. has; classes = λ interface has. has })

-- ---- which rows are shown of lines that change

-- A row counts if it did and passes a test, and has another record then.
abbrev pub Goes : Cuts → (KeyedRecord → Bool) → (KeyedRecord → KeyedRecord) → (place : ℕ) → (line other : Line) → Type 0
Goes cuts stays f place line other = (counts cuts place other ≡ (counts cuts place line && stays line.keyed)) × (counts cuts place other ≡ true → other.keyed ≡ f line.keyed)

shown_changed : (cuts : Cuts) (stays : KeyedRecord → Bool) (f : KeyedRecord → KeyedRecord) (g : ℕ → Line → Line) (first : ℕ) (lines others : List Line)
    → ((n place : ℕ) → place ≡ first + n → slice_get others n ≡ option_map (g place) (slice_get lines n))
    → ((n place : ℕ) (line : Line) → place ≡ first + n → slice_get lines n ≡ Some line → Goes cuts stays f place line (g place line))
    → shown_from first cuts others ≡ map f (filter stays (shown_from first cuts lines))
shown_changed cuts stays f g first [] [] gets goes = refl
shown_changed cuts stays f g first [] (other ∷ others) gets goes = let clash = gets zero first (omega arith) in absurd cc
shown_changed cuts stays f g first (line ∷ lines) [] gets goes = let clash = gets zero first (omega arith) in absurd cc
shown_changed cuts stays f g first (line ∷ lines) (other ∷ others) gets goes =
    let rest = shown_changed cuts stays f g (first + 1) lines others (λ n place at. gets (suc n) place (omega (arith, at))) (λ n place one at there. goes (suc n) place one (omega (arith, at)) there) in
    let is = gets zero first (omega arith) in
    let same : other ≡ g first line = cc in
    let here : Goes cuts stays f first line other = subst (Goes cuts stays f first line) (sym same) (goes zero first line (omega arith) refl) in
    elim (cases_Bool (counts cuts first line)) [
      | inl was ↦ elim (cases_Bool (stays line.keyed)) [
        | inl on ↦
            let too : counts cuts first other ≡ true = here.0 ∙ rw (was, on) refl in
            rw (was, too, on) (ap (λ (k : KeyedRecord). k ∷ shown_from (first + 1) cuts others) (here.1 too) ∙ ap (λ l. f line.keyed ∷ l) rest)
        | inr off ↦ let gone : counts cuts first other ≡ false = here.0 ∙ rw (was, off) refl in rw (was, gone, off) rest
      ]
      | inr out ↦ let gone : counts cuts first other ≡ false = here.0 ∙ rw out refl in rw (out, gone) rest
    ]

map_same : {X : Type 0} (xs : List X) → map (λ (x : X). x) xs ≡ xs
map_same [] = refl
map_same (x ∷ xs) = ap (λ l. x ∷ l) (map_same xs)

filter_all : {X : Type 0} (xs : List X) → filter (λ (x : X). true) xs ≡ xs
filter_all [] = refl
filter_all (x ∷ xs) = ap (λ l. x ∷ l) (filter_all xs)

-- what an option has become
some_mapped : {X Y : Type 0} (f : X → Y) (o : Option X) (y : Y) → option_map f o ≡ Some y → (x : X) × (o ≡ Some x) × (f x ≡ y)
some_mapped f None y is = absurd cc
some_mapped f (Some x) y is = (x, refl, cc)

-- ---- rows that are closed

-- a row that is closed or stays was that row before
closed_former_is : (rows : RowsView) (lines : List Line) (place : ℕ) (line other : Line) → slice_get rows.lines place ≡ Some line → (closes : Bool) → closed_if closes true line ≡ other
    → IsFormer rows (record rows { lines = lines }) place other
closed_former_is rows lines place line other there closes is = record {
  line = line;
  there = there;
  count = line.keyed.rec.count;
  same = same closes is;
  counted = counted closes is;
}
  where
    same : (closes : Bool) → closed_if closes true line ≡ other → other.keyed ≡ line.keyed
    same true is = ap (λ (l : Line). l.keyed) (sym is)
    same false is = ap (λ (l : Line). l.keyed) (sym is)

    counted : (closes : Bool) → closed_if closes true line ≡ other → counts rows.cuts place other ≡ true → counts rows.cuts place line ≡ true
    counted false is here = ap (counts rows.cuts place) is ∙ here
    counted true is here = let never : false ≡ true = ap (counts rows.cuts place) is ∙ here in absurd cc

module _ (limit : ℕ) (test : KeyedRecord → Bool) (places : List ℕ) (rows : RowsView) (sound : IsSoundRows limit rows) (are : AreChosen test rows places) where
  abbrev closed : RowsView
  closed = record rows { lines = closed_each places true rows.lines }

  closed_goes : (place : ℕ) (line : Line) → slice_get rows.lines place ≡ Some line → Goes rows.cuts (λ (one : KeyedRecord). not (test one)) (λ (one : KeyedRecord). one) place line (closed_if (is_among places place) true line)
  closed_goes place line there = by_tests (is_among places place) (counts rows.cuts place line) (test line.keyed) refl refl refl (are place ∙ chosen_by test rows place line there)
    where
      by_tests : (among counted passes : Bool) → is_among places place ≡ among → counts rows.cuts place line ≡ counted → test line.keyed ≡ passes → is_among places place ≡ (counts rows.cuts place line && test line.keyed)
          → Goes rows.cuts (λ (one : KeyedRecord). not (test one)) (λ (one : KeyedRecord). one) place line (closed_if (is_among places place) true line)
      by_tests true true true a c t is = rw (a, c, t) (refl, λ counted. refl)
      by_tests false true false a c t is = rw (a, c, t) (refl, λ counted. refl)
      by_tests false false passes a c t is = rw (a, c) (refl, λ counted. refl)
      by_tests true true false a c t is = let clash : true ≡ false = rw (a, c, t) at is in absurd cc
      by_tests true false passes a c t is = let clash : true ≡ false = rw (a, c) at is in absurd cc
      by_tests false true true a c t is = let clash : false ≡ true = rw (a, c, t) at is in absurd cc

  pub closed_shown : shown closed ≡ filter (λ (one : KeyedRecord). not (test one)) (shown rows)
  closed_shown =
      shown_changed rows.cuts (λ (one : KeyedRecord). not (test one)) (λ (one : KeyedRecord). one) (λ place line. closed_if (is_among places place) true line) 0 rows.lines (closed_each places true rows.lines)
      (λ n place at. closed_each_get places true n rows.lines ∙ ap (λ m. option_map (closed_if (is_among places m) true) (slice_get rows.lines n)) (from_zero n place at))
      (λ n place line at there. closed_goes place line (ap (slice_get rows.lines) (sym (from_zero n place at)) ∙ there))
      ∙ map_same (filter (λ (one : KeyedRecord). not (test one)) (shown rows))
    where
      from_zero : (n place : ℕ) → place ≡ 0 + n → n ≡ place
      from_zero n place at = omega (arith, at)

  -- a row that is closed was open
  opened_again : (n : ℕ) (o : Option Line) → slice_get rows.lines n ≡ o → option_map (closed_if (is_among places n) false) (option_map (closed_if (is_among places n) true) o) ≡ o
  opened_again n None is = refl
  opened_again n (Some line) is = ap Some (by_among (is_among places n) refl)
    where
      by_among : (among : Bool) → is_among places n ≡ among → closed_if among false (closed_if among true line) ≡ line
      by_among false a = refl
      by_among true a =
          let row = chosen_row test rows n (sym (are n) ∙ a) in
          let some : Some row.line ≡ Some line = sym row.there ∙ is in
          let same : row.line ≡ line = cc in
          let counted : counts rows.cuts n line ≡ true = ap (counts rows.cuts n) (sym same) ∙ row.counted in
          let rec = line.keyed.rec in
          let open_line : line.closed ≡ false = not-true line.closed
          (and_parts (not line.closed) (nat_le (rows.cuts.name rec.agent) n)
          (and_parts (not line.closed && nat_le (rows.cuts.name rec.agent) n) (nat_le (rows.cuts.name rec.controller) n) (and_parts _ _ counted).0).0).0 in
          ap (λ (c : Bool). record line { closed = c }) (sym open_line)

  pub closed_back : closed_each places false (closed_each places true rows.lines) ≡ rows.lines
  closed_back = same_by_places _ rows.lines (λ n.
      closed_each_get places false n (closed_each places true rows.lines) ∙ ap (option_map (closed_if (is_among places n) false)) (closed_each_get places true n rows.lines)
      ∙ opened_again n (slice_get rows.lines n) refl)

  closed_former : (place : ℕ) (other : Line) → slice_get closed.lines place ≡ Some other → IsFormer rows closed place other
  closed_former place other here =
      let before = some_mapped (closed_if (is_among places place) true) (slice_get rows.lines place) other (sym (closed_each_get places true place rows.lines) ∙ here) in
      closed_former_is rows closed.lines place before.0 other before.1 (is_among places place) before.2

  closed_sound : IsSoundRows limit closed
  closed_sound = record {
    table = left_sound limit rows closed test closed_shown sound.table;
    within = subst (AreWithin rows.cuts) (sym (closed_each_long places true rows.lines)) sound.within;
    older = older_kept rows closed closed_former sound.older;
  }

pub closed_change : (limit : ℕ) (test : KeyedRecord → Bool) (places : List ℕ) (old new : Kept) → new ≡ record old { lines = closed_each places true old.lines } → IsSoundRows limit (rows_of old) → AreChosen test (rows_of old) places
    → IsChange limit (Closed places) (without test) old new
closed_change limit test places old new is sound are = record {
  taken_back = ap (λ (kept : Kept). back (Closed places) (rows_of kept)) is ∙ ap (λ (lines : List Line). record (rows_of old) { lines = lines }) (closed_back limit test places (rows_of old) sound are);
  sound = subst (λ (kept : Kept). IsSoundRows limit (rows_of kept)) (sym is) (closed_sound limit test places (rows_of old) sound are);
  table =
      ap (λ (kept : Kept). table_of limit (rows_of kept)) is
      ∙ left_table limit (rows_of old) (record (rows_of old) { lines = closed_each places true old.lines }) test (closed_shown limit test places (rows_of old) sound are);
  known = tt;
  keys = keys_of_lines old new (closed_each places true old.lines) is;
}

-- ---- a row that counts otherwise

module _ (limit : ℕ) (handle : ℕ) (guid : List ℕ) (agent controller attr place : ℕ) (rows : RowsView) (sound : IsSoundRows limit rows)
    (last : last_counting (is_open handle guid agent controller attr) rows ≡ Some place) where
  abbrev opens : KeyedRecord → Bool
  opens one = is_open handle guid agent controller attr one

  are_one : AreChosen opens rows (place ∷ [])
  are_one n = ap (λ (o : Option ℕ). is_among (option_to_list o) n) (sym last) ∙ last_is_chosen opens rows (open_excludes handle guid agent controller attr) sound.older n

  among_itself : is_among (place ∷ []) place ≡ true
  among_itself = let same : nat_eq place place ≡ true = grind (arith, nat_tests) in rw same refl

  pub row : IsRow opens rows place
  row = chosen_row opens rows place (sym (are_one place) ∙ among_itself)

  -- there is an equal record
  pub is_there : list_any (is_equal agent controller attr) (records_of (entries_of rows) handle guid) ≡ true
  is_there = any_on rows handle guid (is_equal agent controller attr) ∙ has_shown rows opens place row.line row.there row.counted row.passes

  abbrev count : ℕ
  count = min (row.line.keyed.rec.count + 1) most

  abbrev counted : RowsView
  counted = record rows { lines = counted_at place count rows.lines }

  abbrev recount : Line → Line
  recount line = record line { keyed = record line.keyed { rec = recounted count line.keyed.rec } }

  abbrev raise_if : Bool → KeyedRecord → KeyedRecord
  raise_if b one = if b then record one { rec = raised one.rec } else one

  abbrev raise : KeyedRecord → KeyedRecord
  raise one = raise_if (is_of handle guid one && is_equal agent controller attr one.rec) one

  same_line : (line : Line) → slice_get rows.lines place ≡ Some line → line ≡ row.line
  same_line line there = let some : Some line ≡ Some row.line = sym there ∙ row.there in cc

  and_true : (b : Bool) → b ≡ (b && true)
  and_true true = refl
  and_true false = refl

  -- another row that counts is not of this opener
  unraised : (n : ℕ) (line : Line) → slice_get rows.lines n ≡ Some line → nat_eq place n ≡ false → counts rows.cuts n line ≡ true → line.keyed ≡ raise line.keyed
  unraised n line there differs counted_here = by_test (opens line.keyed) refl
    where
      by_test : (b : Bool) → opens line.keyed ≡ b → line.keyed ≡ raise line.keyed
      by_test false is = rw is refl
      by_test true is =
          let both : (counts rows.cuts n line && opens line.keyed) ≡ true = rw (counted_here, is) refl in
          let among : (nat_eq place n || false) ≡ true = are_one n ∙ chosen_by opens rows n line there ∙ both in
          let clash : false ≡ true = rw differs at among in
          absurd cc

  counted_goes : (n : ℕ) (line : Line) → slice_get rows.lines n ≡ Some line → Goes rows.cuts (λ (one : KeyedRecord). true) raise n line (if nat_eq place n then recount line else line)
  counted_goes n line there = elim (cases_Bool (nat_eq place n)) [
    | inl same ↦
        let here : place ≡ n = eqb-true place n same in
        let is : line ≡ row.line = same_line line (ap (slice_get rows.lines) here ∙ there) in
        let passes : opens line.keyed ≡ true = ap (λ (l : Line). opens l.keyed) is ∙ row.passes in
        let counts_up : recounted count line.keyed.rec ≡ raised line.keyed.rec = ap (λ (l : Line). recounted (min (l.keyed.rec.count + 1) most) line.keyed.rec) (sym is) in
        rw (same, passes) (and_true (counts rows.cuts n line), λ counted_here. ap (λ (r : Rec). record line.keyed { rec = r }) counts_up)
    | inr differs ↦ rw differs (and_true (counts rows.cuts n line), λ counted_here. unraised n line there differs counted_here)
  ]

  pub counted_shown : shown counted ≡ map raise (shown rows)
  counted_shown =
      shown_changed rows.cuts (λ (one : KeyedRecord). true) raise (λ n line. if nat_eq place n then recount line else line) 0 rows.lines (counted_at place count rows.lines)
      (λ n m at. map_at_get place n recount rows.lines ∙ ap (λ k. option_map (λ (line : Line). if nat_eq place k then recount line else line) (slice_get rows.lines n)) (from_zero n m at))
      (λ n m line at there. counted_goes m line (ap (slice_get rows.lines) (sym (from_zero n m at)) ∙ there))
      ∙ ap (map raise) (filter_all (shown rows))
    where
      from_zero : (n m : ℕ) → m ≡ 0 + n → n ≡ m
      from_zero n m at = omega (arith, at)

  of_raised : (b : Bool) (h : ℕ) (g : List ℕ) (one : KeyedRecord) → is_of h g (raise_if b one) ≡ is_of h g one
  of_raised true h g one = refl
  of_raised false h g one = refl

  falls_raised : (b c : Bool) (one other : KeyedRecord) → falls (raise_if b one) (raise_if c other) ≡ falls one other
  falls_raised true true one other = refl
  falls_raised true false one other = refl
  falls_raised false true one other = refl
  falls_raised false false one other = refl

  counted_table : table_of limit counted ≡ added handle guid agent controller attr (table_of limit rows)
  counted_table =
      ap (λ (entries : List KeyedRecord). record { entries = entries; limit = limit })
      (ap in_order counted_shown
      ∙ in_order-map raise (λ h g one. of_raised (opens one) h g one) (λ one other. falls_raised (opens one) (opens other) one other) (shown rows)
      ∙ rw is_there refl)

  counted_former : (n : ℕ) (other : Line) → slice_get counted.lines n ≡ Some other → IsFormer rows counted n other
  counted_former n other here =
      let before = some_mapped (λ (line : Line). if nat_eq place n then recount line else line) (slice_get rows.lines n) other (sym (map_at_get place n recount rows.lines) ∙ here) in
      by_place before.0 before.1 (nat_eq place n) before.2
    where
      by_place : (line : Line) → slice_get rows.lines n ≡ Some line → (same : Bool) → (if same then recount line else line) ≡ other → IsFormer rows counted n other
      by_place line there true is = record { line = line; there = there; count = count; same = ap (λ (l : Line). l.keyed) (sym is); counted = λ counted_here. ap (counts rows.cuts n) is ∙ counted_here }
      by_place line there false is = record { line = line; there = there; count = line.keyed.rec.count; same = ap (λ (l : Line). l.keyed) (sym is); counted = λ counted_here. ap (counts rows.cuts n) is ∙ counted_here }

  not_full : is_full handle guid agent controller attr (table_of limit rows) ≡ false
  not_full = rw is_there refl

  counted_sound : may_enter (judge (records_of (entries_of rows) handle guid) agent controller attr) ≡ true → is_legal attr ≡ true → IsSoundRows limit counted
  counted_sound enters legal = record {
    table = subst IsSound (sym counted_table) (adding_keeps (table_of limit rows) sound.table handle guid agent controller attr enters legal not_full);
    within = subst (AreWithin rows.cuts) (sym (map_at_long place recount rows.lines)) sound.within;
    older = older_kept rows counted counted_former sound.older;
  }

  was_count : (line : Line) → slice_get rows.lines place ≡ Some line → line.keyed.rec.count ≡ count_in_line (slice_get rows.lines place)
  was_count line there = ap count_in_line (sym there)

  counts_here : count_in_line (slice_get rows.lines place) ≡ row.line.keyed.rec.count
  counts_here = ap count_in_line row.there

pub counted_change : (limit handle : ℕ) (guid : List ℕ) (agent controller attr place : ℕ) (old new : Kept) → IsSoundRows limit (rows_of old)
    → last_counting (is_open handle guid agent controller attr) (rows_of old) ≡ Some place
    → new ≡ record old { lines = counted_at place (min (count_in_line (slice_get old.lines place) + 1) most) old.lines }
    → may_enter (judge (records_of (entries_of (rows_of old)) handle guid) agent controller attr) ≡ true → is_legal attr ≡ true
    → IsChange limit (Counted place (count_in_line (slice_get old.lines place))) (added handle guid agent controller attr) old new
counted_change limit handle guid agent controller attr place old new sound last is enters legal =
    let rows = rows_of old in
    let before : ℕ = count_in_line (slice_get old.lines place) in
    let first : rows_of new ≡ record rows { lines = counted_at place (min (before + 1) most) rows.lines } = ap rows_of is in
    let after : rows_of new ≡ counted limit handle guid agent controller attr place rows sound last =
    first ∙ ap (λ (n : ℕ). record rows { lines = counted_at place (min (n + 1) most) rows.lines }) (counts_here limit handle guid agent controller attr place rows sound last) in
    record {
      taken_back =
          ap (back (Counted place before)) first
          ∙ ap (λ (lines : List Line). record rows { lines = lines }) (counted_back place (min (before + 1) most) before rows.lines (was_count limit handle guid agent controller attr place rows sound last));
      sound = subst (IsSoundRows limit) (sym after) (counted_sound limit handle guid agent controller attr place rows sound last enters legal);
      table = ap (table_of limit) after ∙ counted_table limit handle guid agent controller attr place rows sound last;
      known = tt;
      keys = keys_of_lines old new (counted_at place (min (before + 1) most) old.lines) is;
    }

-- as many count
pub counted_count : (limit handle : ℕ) (guid : List ℕ) (agent controller attr place : ℕ) (old new : Kept) → IsSoundRows limit (rows_of old)
    → last_counting (is_open handle guid agent controller attr) (rows_of old) ≡ Some place
    → new ≡ record old { lines = counted_at place (min (count_in_line (slice_get old.lines place) + 1) most) old.lines }
    → length (shown (rows_of new)) ≡ length (shown (rows_of old))
counted_count limit handle guid agent controller attr place old new sound last is =
    let rows = rows_of old in
    let after : rows_of new ≡ counted limit handle guid agent controller attr place rows sound last =
    ap rows_of is ∙ ap (λ (n : ℕ). record rows { lines = counted_at place (min (n + 1) most) rows.lines }) (counts_here limit handle guid agent controller attr place rows sound last) in
    ap (λ (r : RowsView). length (shown r)) after ∙ ap length (counted_shown limit handle guid agent controller attr place rows sound last)
    ∙ length-map (shown rows) (raise limit handle guid agent controller attr place rows sound last)

-- an equal record has room
pub counted_fits : (limit handle : ℕ) (guid : List ℕ) (agent controller attr place : ℕ) (old : Kept) → IsSoundRows limit (rows_of old) → last_counting (is_open handle guid agent controller attr) (rows_of old) ≡ Some place
    → is_full handle guid agent controller attr (table_of limit (rows_of old)) ≡ false
counted_fits limit handle guid agent controller attr place old sound last = not_full limit handle guid agent controller attr place (rows_of old) sound last

-- ---- a row that is made

false_by : (b : Bool) → (b ≡ true → ⊥) → b ≡ false
false_by false never = refl
false_by true never = absurd (never refl)

module _ (limit : ℕ) (handle : ℕ) (guid : List ℕ) (agent controller attr : ℕ) (rows : RowsView) (sound : IsSoundRows limit rows)
    (last : last_counting (is_open handle guid agent controller attr) rows ≡ None) where
  none_open : (n : ℕ) → is_chosen (is_open handle guid agent controller attr) rows n ≡ false
  none_open n =
      sym (ap (λ (o : Option ℕ). is_among (option_to_list o) n) (sym last) ∙ last_is_chosen (is_open handle guid agent controller attr) rows (open_excludes handle guid agent controller attr) sound.older n)

  -- there is no equal record
  pub not_there : list_any (is_equal agent controller attr) (records_of (entries_of rows) handle guid) ≡ false
  not_there = any_on rows handle guid (is_equal agent controller attr) ∙ none_shown (is_open handle guid agent controller attr) rows none_open

  pub fullness : is_full handle guid agent controller attr (table_of limit rows) ≡ nat_le limit (length (shown rows))
  fullness = rw not_there (ap (nat_le limit) (length_in_order (shown rows)))

  abbrev newest : KeyedRecord
  newest = record { handle = handle; guid = guid; rec = first agent controller attr }

  module _ (enters : may_enter (judge (records_of (entries_of rows) handle guid) agent controller attr) ≡ true) where
    none_clash : list_any (clash newest) (shown rows) ≡ false
    none_clash =
        let records = records_of (entries_of rows) handle guid in
        sym (any_on rows handle guid (λ (rec : Rec). (is_strong (first agent controller attr) && is_strong rec) || is_equal agent controller attr rec))
        ∙ no_clash records agent controller attr enters not_there

    -- no row that counts excludes the new one
    free : (n : ℕ) (line : Line) → slice_get rows.lines n ≡ Some line → clash line.keyed newest ≡ true → counts rows.cuts n line ≡ false
    free n line there clashes = false_by (counts rows.cuts n line) (λ counted. never (has_shown rows (clash newest) n line there counted (clash_swap newest line.keyed ∙ clashes)))
      where
        never : list_any (clash newest) (shown rows) ≡ true → ⊥
        never some = let both : true ≡ false = sym some ∙ none_clash in cc

    abbrev made : RowsView
    made = with_line newest rows

    abbrev added_line : Line
    added_line = record { keyed = newest; closed = false }

    made_older : OlderAreOut made
    made_older place later line other here there lt clashes = by_places (push_get rows.lines added_line place line here) (push_get rows.lines added_line later other there)
      where
        by_places : ((slice_get rows.lines place ≡ Some line) ⊎ ((place ≡ length rows.lines) × (line ≡ added_line)))
            → ((slice_get rows.lines later ≡ Some other) ⊎ ((later ≡ length rows.lines) × (other ≡ added_line))) → counts rows.cuts place line ≡ false
        by_places (inl old_line) (inl old_other) = sound.older place later line other old_line old_other lt clashes
        by_places (inl old_line) (inr new_other) = free place line old_line (ap (λ (l : Line). clash line.keyed l.keyed) (sym new_other.1) ∙ clashes)
        by_places (inr new_line) (inl old_other) = let within = slice_get_within rows.lines later other old_other in absurd (omega (arith, lt, new_line.0, within))
        by_places (inr new_line) (inr new_other) = absurd (omega (arith, lt, new_line.0, new_other.0))

    made_table : table_of limit made ≡ added handle guid agent controller attr (table_of limit rows)
    made_table =
        ap (λ (entries : List KeyedRecord). record { entries = entries; limit = limit })
        (ap in_order (shown-pushed rows newest sound.within) ∙ in_order-pushed (shown rows) newest ∙ rw not_there refl)

    longer : length made.lines ≡ length rows.lines + 1
    longer = length-append rows.lines (added_line ∷ [])

    made_sound : is_legal attr ≡ true → nat_le limit (length (shown rows)) ≡ false → IsSoundRows limit made
    made_sound legal room = record {
      table = subst IsSound (sym made_table) (adding_keeps (table_of limit rows) sound.table handle guid agent controller attr enters legal (fullness ∙ room));
      within = record {
        name = λ n. omega (arith, longer, sound.within.name n);
        weak = λ i. omega (arith, longer, sound.within.weak i);
        other = λ i. omega (arith, longer, sound.within.other i);
      };
      older = made_older;
    }

pub made_change : (limit handle : ℕ) (guid : List ℕ) (agent controller attr : ℕ) (old new : Kept) → IsSoundRows limit (rows_of old)
    → last_counting (is_open handle guid agent controller attr) (rows_of old) ≡ None
    → rows_of new ≡ with_line (record { handle = handle; guid = guid; rec = first agent controller attr }) (rows_of old) → KeepsKeys old new
    → may_enter (judge (records_of (entries_of (rows_of old)) handle guid) agent controller attr) ≡ true → is_legal attr ≡ true → nat_le limit (length (shown (rows_of old))) ≡ false
    → IsChange limit Made (added handle guid agent controller attr) old new
made_change limit handle guid agent controller attr old new sound last is keys enters legal room =
    let rows = rows_of old in
    record {
      taken_back = ap (back Made) is ∙ ap (λ (lines : List Line). record rows { lines = lines }) (take_front rows.lines (record { keyed = record { handle = handle; guid = guid; rec = first agent controller attr }; closed = false }));
      sound = subst (IsSoundRows limit) (sym is) (made_sound limit handle guid agent controller attr rows sound last enters legal room);
      table = ap (table_of limit) is ∙ made_table limit handle guid agent controller attr rows sound last enters;
      known = tt;
      keys = keys;
    }

-- ---- rows that are closed for good

module _ (limit : ℕ) (test : KeyedRecord → Bool) (rows : RowsView) (sound : IsSoundRows limit rows) where
  abbrev left : RowsView
  left = record rows { lines = closed_where test rows.lines }

  left_goes : (place : ℕ) (line : Line) → Goes rows.cuts (λ (one : KeyedRecord). not (test one)) (λ (one : KeyedRecord). one) place line (closed_if (test line.keyed) true line)
  left_goes place line = by_tests (test line.keyed) (counts rows.cuts place line) refl refl
    where
      by_tests : (passes was : Bool) → test line.keyed ≡ passes → counts rows.cuts place line ≡ was → Goes rows.cuts (λ (one : KeyedRecord). not (test one)) (λ (one : KeyedRecord). one) place line (closed_if (test line.keyed) true line)
      by_tests true true t c = rw (t, c) (refl, λ counted_here. refl)
      by_tests true false t c = rw (t, c) (refl, λ counted_here. refl)
      by_tests false true t c = rw (t, c) (refl, λ counted_here. refl)
      by_tests false false t c = rw (t, c) (refl, λ counted_here. refl)

  pub left_shown : shown left ≡ filter (λ (one : KeyedRecord). not (test one)) (shown rows)
  left_shown =
      shown_changed rows.cuts (λ (one : KeyedRecord). not (test one)) (λ (one : KeyedRecord). one) (λ place line. closed_if (test line.keyed) true line) 0 rows.lines (closed_where test rows.lines)
      (λ n place at. slice_get-map (λ (line : Line). closed_if (test line.keyed) true line) rows.lines n) (λ n place line at there. left_goes place line)
      ∙ map_same (filter (λ (one : KeyedRecord). not (test one)) (shown rows))

  left_former : (place : ℕ) (other : Line) → slice_get left.lines place ≡ Some other → IsFormer rows left place other
  left_former place other here =
      let before = some_mapped (λ (line : Line). closed_if (test line.keyed) true line) (slice_get rows.lines place) other (sym (slice_get-map (λ (line : Line). closed_if (test line.keyed) true line) rows.lines place) ∙ here) in
      closed_former_is rows left.lines place before.0 other before.1 (test before.0.keyed) before.2

  left_sound_rows : IsSoundRows limit left
  left_sound_rows = record {
    table = left_sound limit rows left test left_shown sound.table;
    within = subst (AreWithin rows.cuts) (sym (length-map rows.lines (λ (line : Line). closed_if (test line.keyed) true line))) sound.within;
    older = older_kept rows left left_former sound.older;
  }

pub where_sound : (limit : ℕ) (test : KeyedRecord → Bool) (old new : Kept) → new ≡ record old { lines = closed_where test old.lines } → IsSoundRows limit (rows_of old) → IsSoundRows limit (rows_of new)
where_sound limit test old new is sound = subst (λ (kept : Kept). IsSoundRows limit (rows_of kept)) (sym is) (left_sound_rows limit test (rows_of old) sound)

pub where_table : (limit : ℕ) (test : KeyedRecord → Bool) (old new : Kept) → new ≡ record old { lines = closed_where test old.lines } → IsSoundRows limit (rows_of old) → table_of limit (rows_of new) ≡ without test (table_of limit (rows_of old))
where_table limit test old new is sound =
    ap (λ (kept : Kept). table_of limit (rows_of kept)) is ∙ left_table limit (rows_of old) (record (rows_of old) { lines = closed_where test old.lines }) test (left_shown limit test (rows_of old) sound)

-- one more counts
pub made_count : (limit : ℕ) (one : KeyedRecord) (old new : Kept) → IsSoundRows limit (rows_of old) → rows_of new ≡ with_line one (rows_of old) → length (shown (rows_of new)) ≡ length (shown (rows_of old)) + 1
made_count limit one old new sound is =
    ap (λ (r : RowsView). length (shown r)) is ∙ ap length (shown-pushed (rows_of old) one sound.within) ∙ length-append (shown (rows_of old)) (one ∷ [])

-- and no more are left of rows that are closed for good
pub where_fewer : (limit : ℕ) (test : KeyedRecord → Bool) (old new : Kept) → new ≡ record old { lines = closed_where test old.lines } → IsSoundRows limit (rows_of old) → length (shown (rows_of new)) ≤ length (shown (rows_of old))
where_fewer limit test old new is sound =
    let same = ap (λ (kept : Kept). length (shown (rows_of kept))) is ∙ ap length (left_shown limit test (rows_of old) sound) in
    omega (arith, same, length-filter-le (λ (one : KeyedRecord). not (test one)) (shown (rows_of old)))
