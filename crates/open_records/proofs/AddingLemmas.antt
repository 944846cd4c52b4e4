-- Entering an open leaves a sound table.
use Rattle.std.proofs.Common.{◌≡◌, ℕ, ◌+◌, Bool, true, false, not, ◌&&◌, ◌||◌, nat_eq, nat_le, nat_lt, min, List, [], ◌∷◌, ◌++◌, length, map, filter, find, Option, Some, None, refl, sym, ap, ◌∙◌, inl, inr, append_assoc, arith, length-append, if◌then◌else◌}
use Rattle.std.specs.List.{list_any, list_all}
use Rattle.std.proofs.lemmas.List.{length-map}
use Rattle.std.proofs.lemmas.List.Folds.{list_any-append, list_all-append}
use Rattle.std.proofs.lemmas.Bool.{and_parts, and_from, or_parts, or_from, not-true, both_ways, cases_Bool, lt-ltb, leb-false}
use Rattle.std.proofs.lemmas.Cmp.{nat_eq_equiv, nat_list_eq_equiv}
use Rattle.fw_types.specs.Attr.{has_bit_of, is_legal}
use Rattle.fw_types.specs.declared.attr.TheConstants.Attr.{HOLDING_BITS}
use Rattle.open_records.specs.OpenRecords.{RecordTable, IsSound, clash, is_equal, is_kept, is_strong, stand_apart}
use Rattle.open_records.specs.Keyed.{falls, is_after, is_before, is_of, records_of, rise}
use Rattle.open_records.specs.Verdicts.{Rule, against, applies, judge, may_enter, rules, says}
use Rattle.open_records.specs.declared.verdict.Verdict.TheVariants.{Add, Count}
use Rattle.open_records.specs.Adding.{added, first, is_full}
use Rattle.open_records.specs.Changing.{most, raised, with_new, with_raised}
use Rattle.open_records.specs.declared.open_record.KeyedRecord.{KeyedRecord}
use Rattle.open_records.specs.declared.open_record.Rec.{Rec}
use Rattle.open_records.proofs.ListLemmas.{any_of_filter, any_filtered, any_same, no_pair-insert, no_pair-map}
use Rattle.open_records.proofs.Order.{before_is_after, before-not_after, after-not_before, here-not_after}
use Rattle.open_records.proofs.RangeLemmas.{three_parts}

-- ---- the verdict

-- both answers of a rule keep an open out
abbrev keeps_out : Rule → Bool
keeps_out rule = not (may_enter rule.own) && not (may_enter rule.other)

-- the answer of a rule, by whether the agent is the record's own
chosen_out : (own : Bool) (rule : Rule) → keeps_out rule ≡ true → may_enter (if own then rule.own else rule.other) ≡ false
chosen_out true rule out = not-true _ (and_parts (not (may_enter rule.own)) (not (may_enter rule.other)) out).0
chosen_out false rule out = not-true _ (and_parts (not (may_enter rule.own)) (not (may_enter rule.other)) out).1

says_out : (test : Rule → Bool) (own : Bool) (list : List Rule) → list_all keeps_out list ≡ true → may_enter (says (find test list) own) ≡ false
says_out test own [] all = refl
says_out test own (rule ∷ list) all =
    let parts = and_parts (keeps_out rule) (list_all keeps_out list) all in
    elim (cases_Bool (test rule)) [
      | inl passes ↦ rw passes (chosen_out own rule parts.0)
      | inr fails ↦ rw fails (says_out test own list parts.1)
    ]

find_none : {X : Type 0} (p : X → Bool) (xs : List X) → find p xs ≡ None → list_any p xs ≡ false
find_none p [] none = refl
find_none p (x ∷ xs) none = elim (cases_Bool (p x)) [
  | inl passes ↦ let found : Some x ≡ None = rw passes at none in absurd cc
  | inr fails ↦ let later : find p xs ≡ None = rw fails at none in or_from (p x) (list_any p xs) fails (find_none p xs later)
]

by_holder : (holder : Option Rec) (records : List Rec) (agent attr : ℕ) → find is_strong records ≡ holder → may_enter (against holder agent attr) ≡ true → list_any is_strong records ≡ false
by_holder None records agent attr found enters = find_none is_strong records found
by_holder (Some holder) records agent attr found enters =
    absurd (both_ways _ (says_out (applies attr holder.attr) (nat_eq holder.agent agent) (rules holder.agent) refl) enters)

any_either : {X : Type 0} (p q : X → Bool) (xs : List X) → list_any p xs ≡ false → list_any q xs ≡ false → list_any (λ x. p x || q x) xs ≡ false
any_either p q [] one other = refl
any_either p q (x ∷ xs) one other =
    let parts = or_parts (p x) (list_any p xs) one in
    let others = or_parts (q x) (list_any q xs) other in
    or_from (p x || q x) (list_any (λ y. p y || q y) xs) (or_from (p x) (q x) parts.0 others.0) (any_either p q xs parts.1 others.1)

free_by : (strong : Bool) (records : List Rec) (agent controller attr : ℕ)
    → may_enter (if strong then against (find is_strong records) agent attr else if list_any (is_equal agent controller attr) records then Count else Add) ≡ true
    → list_any (is_equal agent controller attr) records ≡ false
    → list_any (λ (rec : Rec). (strong && is_strong rec) || is_equal agent controller attr rec) records ≡ false
free_by true records agent controller attr enters none =
    any_either is_strong (is_equal agent controller attr) records (by_holder (find is_strong records) records agent attr refl enters) none
free_by false records agent controller attr enters none = none

-- if an open may be entered and no record is equal, none of the interface's records clashes with it
pub no_clash : (records : List Rec) (agent controller attr : ℕ) → may_enter (judge records agent controller attr) ≡ true → list_any (is_equal agent controller attr) records ≡ false
    → list_any (λ (rec : Rec). (has_bit_of HOLDING_BITS attr && is_strong rec) || is_equal agent controller attr rec) records ≡ false
no_clash records agent controller attr enters none = free_by (has_bit_of HOLDING_BITS attr) records agent controller attr enters none

-- ---- clashes

and_swap : (a b : Bool) → (a && b) ≡ (b && a)
and_swap true true = refl
and_swap true false = refl
and_swap false true = refl
and_swap false false = refl

of_swap : (one other : KeyedRecord) → is_of one.handle one.guid other ≡ is_of other.handle other.guid one
of_swap one other = rw (nat_eq_equiv.symm other.handle one.handle, nat_list_eq_equiv.symm other.guid one.guid) refl

equal_swap : (one other : Rec) → is_equal one.agent one.controller one.attr other ≡ is_equal other.agent other.controller other.attr one
equal_swap one other = rw (nat_eq_equiv.symm other.agent one.agent, nat_eq_equiv.symm other.controller one.controller, nat_eq_equiv.symm other.attr one.attr) refl

pub clash_swap : (one other : KeyedRecord) → clash one other ≡ clash other one
clash_swap one other = rw (of_swap one other, equal_swap one.rec other.rec, and_swap (is_strong one.rec) (is_strong other.rec)) refl

-- ---- one more record

module _ (handle : ℕ) (guid : List ℕ) (rec : Rec) (entries : List KeyedRecord) (rising : rise entries ≡ true) where
  abbrev new : KeyedRecord
  new = record { handle = handle; guid = guid; rec = rec }

  abbrev front : List KeyedRecord
  front = filter (is_before handle guid) entries ++ filter (is_of handle guid) entries

  abbrev back : List KeyedRecord
  back = filter (is_after handle guid) entries

  pub new_between : with_new new entries ≡ front ++ new ∷ back
  new_between = sym (append_assoc (filter (is_before handle guid) entries) (filter (is_of handle guid) entries) (new ∷ back))

  pub all_between : entries ≡ front ++ back
  all_between = three_parts handle guid entries rising ∙ sym (append_assoc (filter (is_before handle guid) entries) (filter (is_of handle guid) entries) back)

  not_above : (one : KeyedRecord) → is_after handle guid one ≡ false → falls one new ≡ false
  not_above one not_after = before_is_after one new ∙ not_after

  front_below : list_any (λ (one : KeyedRecord). falls one new) front ≡ false
  front_below =
      list_any-append (λ (one : KeyedRecord). falls one new) (filter (is_before handle guid) entries) (filter (is_of handle guid) entries)
      ∙ or_from (list_any (λ (one : KeyedRecord). falls one new) (filter (is_before handle guid) entries)) (list_any (λ (one : KeyedRecord). falls one new) (filter (is_of handle guid) entries))
      (any_filtered (is_before handle guid) (λ (one : KeyedRecord). falls one new) entries (λ one before. not_above one (before-not_after handle guid one before)))
      (any_filtered (is_of handle guid) (λ (one : KeyedRecord). falls one new) entries (λ one here. not_above one (here-not_after handle guid one here)))

  back_above : list_any (falls new) back ≡ false
  back_above = any_filtered (is_after handle guid) (falls new) entries (λ one after. after-not_before handle guid one after)

  pub rising_more : rise (with_new new entries) ≡ true
  rising_more = rw new_between (no_pair-insert falls front new back (ap rise (sym all_between) ∙ rising) front_below back_above)

  module _ (apart : stand_apart entries ≡ true) (none : list_any (clash new) entries ≡ false) where
    pub apart_more : stand_apart (with_new new entries) ≡ true
    apart_more =
        let parts = or_parts (list_any (clash new) front) (list_any (clash new) back) (sym (list_any-append (clash new) front back) ∙ ap (list_any (clash new)) (sym all_between) ∙ none) in
        let before : list_any (λ (one : KeyedRecord). clash one new) front ≡ false = any_same (λ (one : KeyedRecord). clash one new) (clash new) front (λ one. clash_swap one new) ∙ parts.0 in
        rw new_between (no_pair-insert clash front new back (ap stand_apart (sym all_between) ∙ apart) before parts.1)

  pub kept_more : list_all is_kept entries ≡ true → is_kept new ≡ true → list_all is_kept (with_new new entries) ≡ true
  kept_more all one =
      let parts = and_parts (list_all is_kept front) (list_all is_kept back) (sym (list_all-append is_kept front back) ∙ ap (list_all is_kept) (sym all_between) ∙ all) in
      rw new_between (list_all-append is_kept front (new ∷ back) ∙ and_from (list_all is_kept front) (is_kept new && list_all is_kept back) parts.0 (and_from (is_kept new) (list_all is_kept back) one parts.1))

  pub length_more : length (with_new new entries) ≡ length entries + 1
  length_more =
      let whole : length entries ≡ length front + length back = ap length all_between ∙ length-append front back in
      ap length new_between ∙ omega (arith, whole, length-append front (new ∷ back))

-- ---- a count that rises

abbrev raised_if : Bool → KeyedRecord → KeyedRecord
raised_if b one = if b then record one { rec = raised one.rec } else one

falls-raised : (b c : Bool) (one other : KeyedRecord) → falls (raised_if b one) (raised_if c other) ≡ falls one other
falls-raised true true one other = refl
falls-raised true false one other = refl
falls-raised false true one other = refl
falls-raised false false one other = refl

clash-raised : (b c : Bool) (one other : KeyedRecord) → clash (raised_if b one) (raised_if c other) ≡ clash one other
clash-raised true true one other = refl
clash-raised true false one other = refl
clash-raised false true one other = refl
clash-raised false false one other = refl

kept-raised : (b : Bool) (one : KeyedRecord) → is_kept one ≡ true → is_kept (raised_if b one) ≡ true
kept-raised true one kept =
    let parts = and_parts (is_legal one.rec.attr) (nat_lt 0 one.rec.count) kept in
    and_from (is_legal one.rec.attr) (nat_lt 0 (min (one.rec.count + 1) most)) parts.0 (lt-ltb 0 (min (one.rec.count + 1) most) (omega arith))
kept-raised false one kept = kept

all-raised : (test : KeyedRecord → Bool) (entries : List KeyedRecord) → list_all is_kept entries ≡ true → list_all is_kept (map (λ (one : KeyedRecord). raised_if (test one) one) entries) ≡ true
all-raised test [] all = refl
all-raised test (one ∷ entries) all =
    let parts = and_parts (is_kept one) (list_all is_kept entries) all in
    and_from (is_kept (raised_if (test one) one)) (list_all is_kept (map (λ (other : KeyedRecord). raised_if (test other) other) entries)) (kept-raised (test one) one parts.0) (all-raised test entries parts.1)

raised_sound : (handle : ℕ) (guid : List ℕ) (test : Rec → Bool) (table : RecordTable) → IsSound table → IsSound (record table { entries = with_raised handle guid test table.entries })
raised_sound handle guid test table sound =
    let chosen : KeyedRecord → Bool = λ one. is_of handle guid one && test one.rec in
    record {
      rising = no_pair-map falls (λ (one : KeyedRecord). raised_if (chosen one) one) table.entries (λ one other. falls-raised (chosen one) (chosen other) one other) ∙ sound.rising;
      apart = no_pair-map clash (λ (one : KeyedRecord). raised_if (chosen one) one) table.entries (λ one other. clash-raised (chosen one) (chosen other) one other) ∙ sound.apart;
      kept = all-raised chosen table.entries sound.kept;
      few = omega (arith, length-map table.entries (λ (one : KeyedRecord). raised_if (chosen one) one), sound.few);
    }

-- ---- one more open

module _ (handle : ℕ) (guid : List ℕ) (agent controller attr : ℕ) (table : RecordTable) (sound : IsSound table) where
  abbrev equal_here : Bool
  equal_here = list_any (is_equal agent controller attr) (records_of table.entries handle guid)

  new_sound : may_enter (judge (records_of table.entries handle guid) agent controller attr) ≡ true → is_legal attr ≡ true → equal_here ≡ false → nat_le table.limit (length table.entries) ≡ false
      → IsSound (record table { entries = with_new (record { handle = handle; guid = guid; rec = first agent controller attr }) table.entries })
  new_sound enters legal none room =
      let rec : Rec = first agent controller attr in
      let apart_from : list_any (clash (record { handle = handle; guid = guid; rec = rec })) table.entries ≡ false =
      any_of_filter (λ (one : KeyedRecord). one.rec) (is_of handle guid) (λ (other : Rec). (has_bit_of HOLDING_BITS attr && is_strong other) || is_equal agent controller attr other) table.entries
      (no_clash (records_of table.entries handle guid) agent controller attr enters none) in
      record {
        rising = rising_more handle guid rec table.entries sound.rising;
        apart = apart_more handle guid rec table.entries sound.rising sound.apart apart_from;
        kept = kept_more handle guid rec table.entries sound.rising sound.kept (and_from (is_legal attr) true legal refl);
        few = omega (arith, length_more handle guid rec table.entries sound.rising, leb-false table.limit (length table.entries) room);
      }

  by_equal : (equal : Bool) → may_enter (judge (records_of table.entries handle guid) agent controller attr) ≡ true → is_legal attr ≡ true → equal_here ≡ equal → (not equal && nat_le table.limit (length table.entries)) ≡ false
      → IsSound (record table { entries = if equal then with_raised handle guid (is_equal agent controller attr) table.entries else with_new (record { handle = handle; guid = guid; rec = first agent controller attr }) table.entries })
  by_equal true enters legal is room = raised_sound handle guid (is_equal agent controller attr) table sound
  by_equal false enters legal is room = new_sound enters legal is room

  pub added_sound : may_enter (judge (records_of table.entries handle guid) agent controller attr) ≡ true → is_legal attr ≡ true → is_full handle guid agent controller attr table ≡ false → IsSound (added handle guid agent controller attr table)
  added_sound enters legal room = by_equal equal_here enters legal refl room
