-- Segments under keys: what the map from addresses to keys says about them, and what a change under one key makes of
-- them.
use Rattle.std.proofs.Common.{◌≡◌, ◌≢◌, ◌<◌, ◌≤◌, ℕ, Bool, true, false, nat_lt, nat_eq, ◌&&◌, cond, List, [], ◌∷◌, length, Option, Some, None, Result, Ok, Err, is_ok, OnOk, OnErr, if◌then◌else◌, refl, ap, subst, sym, ◌∙◌, inl, inr, arith}
use Rattle.std.specs.declared.cmp.Ordering.{Ordering}
use Rattle.std.specs.declared.cmp.Ordering.TheVariants.{Less, Equal, Greater}
use Rattle.std.specs.BTreeMap as tree
use Rattle.std.specs.BTreeMap.{insert_entry, is_at}
use Rattle.std.specs.List.{cons_option}
use Rattle.std.specs.Map.{lookup, remove_entry}
use Rattle.std.specs.Option.{ok_or}
use Rattle.std.specs.Ordering.{is_eq, match_ordering, nat_cmp}
use Rattle.std.specs.Prelude.{is_some, option_map, slice_index_or}
use Rattle.std.specs.Result.{result_ok}
use Rattle.std.proofs.lemmas.Bool.{and_parts, both_ways, cases_Bool, eqb-true, eq-eqb, false_from_ne_true}
use Rattle.std.proofs.lemmas.Bool.Decides.{nat_tests}
use Rattle.std.proofs.lemmas.Cmp.{nat_cmp_total}
use Rattle.std.proofs.lemmas.List.Sums.{list_all-from_AllPass}
use Rattle.std.proofs.lemmas.Map.Views.{All-found}
use Rattle.byteorder.specs.Endian.{little_bytes}
use Rattle.byteorder.specs.Numbers.{length-bytes_low_first}
use Rattle.slab.specs.Slab.{Slab, SameValues, Updates, get}
use Rattle.guest_memory.specs.Segment.{has_bytes, with_bytes, end_of}
use Rattle.guest_memory.specs.GuestMemory.{lie_from, mapped, beginning_at, unmapped, put_bytes, written}
use Rattle.guest_memory.specs.Segments.{IsFiled, IsLastKey, IsLastUpTo, NoKeyUpTo, NoneUpTo, PutsUnder, all_in, all_stand, base_under, is_number, has_under, IsHolderKey}
use Rattle.guest_memory.specs.declared.segment.Segment.{Segment}
use Rattle.guest_memory.specs.declared.guest.MemRefusal.{MemRefusal}
use Rattle.guest_memory.specs.declared.guest.MemRefusal.TheVariants.{NoSegment}
use Rattle.guest_memory.proofs.OrderLemmas.{head_lies}
use Rattle.guest_memory.proofs.PutLemmas.{lie_from-put_bytes}
use Rattle.guest_memory.proofs.SegmentLemmas.{lie_from-unmapped, written-as_bytes}
use Rattle.guest_memory.proofs.AddressLemmas.{begins_from, first_begins, first_or_later, has_base, holder_is, lacks_after, none_where_mapped}

-- ---- numbers that may be there

number_is : (n : ℕ) (of : Option ℕ) → is_number n of ≡ true → of ≡ Some n
number_is n None is = absurd cc
number_is n (Some m) is = ap Some (sym (eqb-true n m is))

number_itself : (n : ℕ) → is_number n (Some n) ≡ true
number_itself n = eq-eqb n n refl

other_number : (n m : ℕ) → n ≢ m → nat_eq n m ≡ false
other_number n m apart = false_from_ne_true (nat_eq n m) (λ is. apart (eqb-true n m is))

eq-nat : (x y : ℕ) → is_eq (nat_cmp x y) ≡ nat_eq y x
eq-nat x y = grind (arith, nat_tests)

-- what is there is not missing, and is one
some_or_none : (slot : Option Segment) (segment : Segment) → slot ≡ Some segment → slot ≡ None → ⊥
some_or_none slot segment there none = let clash : Some segment ≡ None = sym there ∙ none in cc

same_segment : (slot : Option Segment) (one other : Segment) → slot ≡ Some one → slot ≡ Some other → one ≡ other
same_segment slot one other first second = let same : Some one ≡ Some other = sym first ∙ second in cc

-- ---- the segment under a key

-- the segment of an entry
pub record Stands (slots : Slab Segment) (base key : ℕ) : Type 0 where
  pub segment : Segment
  pub there : get slots key ≡ Some segment
  pub begins : segment.base ≡ base

stands_by : (slots : Slab Segment) (base key : ℕ) (slot : Option Segment) → get slots key ≡ slot → is_number base (option_map (λ (s : Segment). s.base) slot) ≡ true → Stands slots base key
stands_by slots base key None there is = absurd cc
stands_by slots base key (Some segment) there is = record { segment = segment; there = there; begins = sym (eqb-true base segment.base is) }

pub stands_from : (slots : Slab Segment) (base key : ℕ) → is_number base (base_under slots key) ≡ true → Stands slots base key
stands_from slots base key is = stands_by slots base key (get slots key) refl is

base_from : (slots : Slab Segment) (key : ℕ) (segment : Segment) → get slots key ≡ Some segment → base_under slots key ≡ Some segment.base
base_from slots key segment there = ap (option_map (λ (s : Segment). s.base)) there

-- the first entry's segment, and the others
first_stands : (slots : Slab Segment) (e : ℕ × ℕ) (es : List (ℕ × ℕ)) → all_stand slots (e ∷ es) ≡ true → Stands slots e.0 e.1
first_stands slots e es all = stands_from slots e.0 e.1 (and_parts (is_number e.0 (base_under slots e.1)) (all_stand slots es) all).0

others_stand : (slots : Slab Segment) (e : ℕ × ℕ) (es : List (ℕ × ℕ)) → all_stand slots (e ∷ es) ≡ true → all_stand slots es ≡ true
others_stand slots e es all = (and_parts (is_number e.0 (base_under slots e.1)) (all_stand slots es) all).1

all_in-cons : (slots : Slab Segment) (e : ℕ × ℕ) (es : List (ℕ × ℕ)) (segment : Segment) → get slots e.1 ≡ Some segment → all_in slots (e ∷ es) ≡ segment ∷ all_in slots es
all_in-cons slots e es segment there = rw there refl

-- ---- found by address

abbrev pub under : Slab Segment → Option ℕ → Result Segment MemRefusal
under slots None = Err NoSegment
under slots (Some key) = ok_or (get slots key) NoSegment

-- the map's look-up finds the segment that begins at an address
beginning_by : (slots : Slab Segment) (es : List (ℕ × ℕ)) (base : ℕ) → all_stand slots es ≡ true → beginning_at (all_in slots es) base ≡ under slots (lookup (is_at (nat_cmp base)) es)
beginning_by slots [] base all = refl
beginning_by slots (e ∷ es) base all =
    let one = first_stands slots e es all in
    let same : nat_eq one.segment.base base ≡ is_eq (nat_cmp base e.0) = ap (λ (n : ℕ). nat_eq n base) one.begins ∙ sym (eq-nat base e.0) in
    ap (λ (s : List Segment). beginning_at s base) (all_in-cons slots e es one.segment one.there)
    ∙ ap (λ here. cond here (Ok one.segment) (beginning_at (all_in slots es) base)) same
    ∙ by (is_eq (nat_cmp base e.0)) one.segment one.there (beginning_by slots es base (others_stand slots e es all))
  where
    by : (here : Bool) (segment : Segment) → get slots e.1 ≡ Some segment → beginning_at (all_in slots es) base ≡ under slots (lookup (is_at (nat_cmp base)) es)
        → cond here (Ok segment) (beginning_at (all_in slots es) base) ≡ under slots (cond here (Some e.1) (lookup (is_at (nat_cmp base)) es))
    by true segment there rest = sym (ap (λ (slot : Option Segment). ok_or slot NoSegment) there)
    by false segment there rest = rest

module _ (slots : Slab Segment) (bases : tree.BTreeMap ℕ ℕ) (filed : IsFiled slots bases) where
  pub found : (base : ℕ) → beginning_at (all_in slots bases.entries) base ≡ under slots (tree.get nat_cmp bases base)
  found base = beginning_by slots bases.entries base filed.stand

  -- the segment that the map names, and the name of a segment
  pub named_stands : (base key : ℕ) → tree.get nat_cmp bases base ≡ Some key → Stands slots base key
  named_stands base key is = stands_from slots base key (sym (filed.named base key) ∙ ap (is_number key) is ∙ number_itself key)

  pub name_of : (key : ℕ) (segment : Segment) → get slots key ≡ Some segment → tree.get nat_cmp bases segment.base ≡ Some key
  name_of key segment there =
      number_is key (tree.get nat_cmp bases segment.base) (filed.named segment.base key ∙ ap (is_number segment.base) (base_from slots key segment there) ∙ number_itself segment.base)

  pub found_there : (base key : ℕ) (segment : Segment) → tree.get nat_cmp bases base ≡ Some key → get slots key ≡ Some segment → beginning_at (all_in slots bases.entries) base ≡ Ok segment
  found_there base key segment is there = found base ∙ ap (under slots) is ∙ ap (λ (slot : Option Segment). ok_or slot NoSegment) there

  pub key_begins : (key : ℕ) (segment : Segment) → get slots key ≡ Some segment → beginning_at (all_in slots bases.entries) segment.base ≡ Ok segment
  key_begins key segment there = found_there segment.base key segment (name_of key segment there) there

  pub found_nowhere : (base : ℕ) → tree.get nat_cmp bases base ≡ None → beginning_at (all_in slots bases.entries) base ≡ Err NoSegment
  found_nowhere base none = found base ∙ ap (under slots) none

  pub found_ok : (base key : ℕ) → tree.get nat_cmp bases base ≡ Some key → result_ok (beginning_at (all_in slots bases.entries) base) ≡ get slots key
  found_ok base key is = ap result_ok (found base ∙ ap (under slots) is) ∙ by (get slots key)
    where
      by : (slot : Option Segment) → result_ok (ok_or slot NoSegment) ≡ slot
      by None = refl
      by (Some segment) = refl

  -- a segment begins at an address for which the map has a name
  named_where : (base : ℕ) → is_ok (beginning_at (all_in slots bases.entries) base) ≡ true → is_some (tree.get nat_cmp bases base) ≡ true
  named_where base there = by (tree.get nat_cmp bases base) (ap is_ok (sym (found base)) ∙ there)
    where
      by : (of : Option ℕ) → is_ok (under slots of) ≡ true → is_some of ≡ true
      by None there = absurd cc
      by (Some key) there = refl

  pub none_up_to : (at : ℕ) → NoKeyUpTo at bases → NoneUpTo at (all_in slots bases.entries)
  none_up_to at none base low = ap is_ok (found_nowhere base (none base low))

  -- the last entry's segment is the last
  pub last_up_to : (at key : ℕ) (segment : Segment) → IsLastKey at bases key → get slots key ≡ Some segment → IsLastUpTo at (all_in slots bases.entries) segment
  last_up_to at key segment last there =
      let one = named_stands last.base key last.here in
      let found : Some segment ≡ Some one.segment = sym there ∙ one.there in
      let same : segment ≡ one.segment = cc in
      let base : segment.base ≡ last.base = ap (λ (s : Segment). s.base) same ∙ one.begins in
      record {
        here = key_begins key segment there;
        low = omega (arith, base, last.low);
        greatest = λ other low there. omega (arith, base, last.greatest other low (named_where other there));
      }

  -- it is there
  pub last_there : (at key : ℕ) → IsLastKey at bases key → get slots key ≡ None → ⊥
  last_there at key last none = let one = named_stands last.base key last.here in let found : Some one.segment ≡ None = sym one.there ∙ none in cc

  -- the key of a segment that has the range
  pub holder_key : (key at n : ℕ) (segment : Segment) → get slots key ≡ Some segment → 0 < n → has_bytes segment at n ≡ true → IsHolderKey slots bases.entries at n key
  holder_key key at n segment there some has = record {
    found = there ∙ sym (holder_is 0 (all_in slots bases.entries) segment at n filed.apart (key_begins key segment there) some has);
    has = ap (λ slot. has_under slot at n) there ∙ has;
  }

-- what the map names is there, entry by entry
pub stand_from : (slots : Slab Segment) (bases : tree.BTreeMap ℕ ℕ) → tree.IsOrdered nat_cmp bases → ((base key : ℕ) → is_number key (tree.get nat_cmp bases base) ≡ is_number base (base_under slots key)) → all_stand slots bases.entries ≡ true
stand_from slots bases ordered named =
    list_all-from_AllPass (λ (e : ℕ × ℕ). is_number e.0 (base_under slots e.1)) bases.entries (λ k d within.
    let e = slice_index_or bases.entries k d in
    sym (named e.0 e.1) ∙ ap (is_number e.1) (All-found nat_cmp_total bases ordered k d within) ∙ number_itself e.1)

-- ---- a change at one address and under one key

module _ (slots after : Slab Segment) (bases names : tree.BTreeMap ℕ ℕ) (base key : ℕ) (name : Option ℕ) (slot : Option Segment)
    (filed : IsFiled slots bases) (renamed : tree.UpdatesBy nat_cmp (nat_cmp base) bases names name) (changed : Updates slots after key slot)
    (here : is_number key name ≡ is_number base (option_map (λ (s : Segment). s.base) slot))
    (name_only : (k : ℕ) → k ≢ key → is_number k name ≡ false)
    (base_only : (other : ℕ) → other ≢ base → is_number other (option_map (λ (s : Segment). s.base) slot) ≡ false)
    (was_only : (k : ℕ) → k ≢ key → is_number k (tree.get nat_cmp bases base) ≡ false)
    (stood_only : (other : ℕ) → other ≢ base → is_number other (base_under slots key) ≡ false) where
  apart : (n m : ℕ) → nat_eq n m ≡ false → n ≢ m
  apart n m differ same = both_ways (nat_eq n m) differ (eq-eqb n m same)

  -- the map names what is there afterwards
  pub named_after : (other k : ℕ) → is_number k (tree.get nat_cmp names other) ≡ is_number other (base_under after k)
  named_after other k = by (nat_eq other base) (nat_eq k key) refl refl
    where
      left : (at : Bool) → nat_eq other base ≡ at → tree.get nat_cmp names other ≡ cond at name (tree.get nat_cmp bases other)
      left at is = renamed.0 other ∙ ap (λ b. cond b name (tree.get nat_cmp bases other)) (eq-nat base other ∙ is)

      by : (at own : Bool) → nat_eq other base ≡ at → nat_eq k key ≡ own → is_number k (tree.get nat_cmp names other) ≡ is_number other (base_under after k)
      by true true at own =
          let k_is : k ≡ key = eqb-true k key own in
          let o_is : other ≡ base = eqb-true other base at in
          ap (is_number k) (left true at) ∙ ap (λ (n : ℕ). is_number n name) k_is ∙ here
          ∙ ap (λ (n : ℕ). is_number n (option_map (λ (s : Segment). s.base) slot)) (sym o_is)
          ∙ ap (λ (of : Option Segment). is_number other (option_map (λ (s : Segment). s.base) of)) (sym changed.changed)
          ∙ ap (λ (n : ℕ). is_number other (base_under after n)) (sym k_is)
      by true false at own =
          let o_is : other ≡ base = eqb-true other base at in
          let stays : base_under after k ≡ base_under slots k = ap (option_map (λ (s : Segment). s.base)) (changed.others k (apart k key own)) in
          ap (is_number k) (left true at) ∙ name_only k (apart k key own)
          ∙ sym (was_only k (apart k key own))
          ∙ filed.named base k ∙ ap (λ (n : ℕ). is_number n (base_under slots k)) (sym o_is) ∙ ap (is_number other) (sym stays)
      by false true at own =
          let k_is : k ≡ key = eqb-true k key own in
          ap (is_number k) (left false at) ∙ filed.named other k ∙ ap (λ (n : ℕ). is_number other (base_under slots n)) k_is
          ∙ stood_only other (apart other base at) ∙ sym (base_only other (apart other base at))
          ∙ ap (λ (of : Option Segment). is_number other (option_map (λ (s : Segment). s.base) of)) (sym changed.changed)
          ∙ ap (λ (n : ℕ). is_number other (base_under after n)) (sym k_is)
      by false false at own =
          let stays : base_under after k ≡ base_under slots k = ap (option_map (λ (s : Segment). s.base)) (changed.others k (apart k key own)) in
          ap (is_number k) (left false at) ∙ filed.named other k ∙ ap (is_number other) (sym stays)

module _ (slots after : Slab Segment) (key : ℕ) (others : (other : ℕ) → other ≢ key → get after other ≡ get slots other) where
  -- an entry of another key
  all_in-other : (e : ℕ × ℕ) (es : List (ℕ × ℕ)) (segment : Segment) → e.1 ≢ key → get slots e.1 ≡ Some segment → all_in after (e ∷ es) ≡ segment ∷ all_in after es
  all_in-other e es segment apart there = all_in-cons after e es segment (others e.1 apart ∙ there)

  -- nothing was under the key
  all_in-vacant : (es : List (ℕ × ℕ)) → get slots key ≡ None → all_stand slots es ≡ true → all_in after es ≡ all_in slots es
  all_in-vacant [] vacant all = refl
  all_in-vacant (e ∷ es) vacant all =
      let one = first_stands slots e es all in
      let apart : e.1 ≢ key = λ same. some_or_none (get slots e.1) one.segment one.there (ap (get slots) same ∙ vacant) in
      all_in-other e es one.segment apart one.there ∙ ap (λ rest. one.segment ∷ rest) (all_in-vacant es vacant (others_stand slots e es all)) ∙ sym (all_in-cons slots e es one.segment one.there)

  -- the key's segment is not among them
  all_in-later : (es : List (ℕ × ℕ)) (segment : Segment) → get slots key ≡ Some segment → all_stand slots es ≡ true → is_ok (beginning_at (all_in slots es) segment.base) ≡ false → all_in after es ≡ all_in slots es
  all_in-later [] segment there all absent = refl
  all_in-later (e ∷ es) segment there all absent =
      let one = first_stands slots e es all in
      let whole : all_in slots (e ∷ es) ≡ one.segment ∷ all_in slots es = all_in-cons slots e es one.segment one.there in
      let without : is_ok (beginning_at (one.segment ∷ all_in slots es) segment.base) ≡ false = ap (λ (s : List Segment). is_ok (beginning_at s segment.base)) (sym whole) ∙ absent in
      let apart : e.1 ≢ key = λ same.
      let is : one.segment ≡ segment = same_segment (get slots key) one.segment segment (ap (get slots) (sym same) ∙ one.there) there in
      both_ways (is_ok (beginning_at (one.segment ∷ all_in slots es) segment.base)) without (ap (λ (s : Segment). is_ok (beginning_at (one.segment ∷ all_in slots es) s.base)) (sym is) ∙ first_begins one.segment (all_in slots es)) in
      let rest : is_ok (beginning_at (all_in slots es) segment.base) ≡ false = false_from_ne_true (is_ok (beginning_at (all_in slots es) segment.base)) (λ later.
      both_ways (is_ok (beginning_at (one.segment ∷ all_in slots es) segment.base)) without (first_or_later one.segment (all_in slots es) segment.base later)) in
      all_in-other e es one.segment apart one.there ∙ ap (λ s. one.segment ∷ s) (all_in-later es segment there (others_stand slots e es all) rest) ∙ sym whole

  -- ---- one more

  module _ (new : Segment) (vacant : get slots key ≡ None) (placed : get after key ≡ Some new) where
    all_in-insert : (a : ℕ) (es : List (ℕ × ℕ)) → all_stand slots es ≡ true → lie_from a (mapped new (all_in slots es)) ≡ true → all_in after (insert_entry nat_cmp es new.base key) ≡ mapped new (all_in slots es)
    all_in-insert a [] all lie = all_in-cons after (new.base, key) [] new placed
    all_in-insert a (e ∷ es) all lie =
        let one = first_stands slots e es all in
        let whole : all_in slots (e ∷ es) ≡ one.segment ∷ all_in slots es = all_in-cons slots e es one.segment one.there in
        by (nat_cmp new.base e.0) refl one.segment one.there one.begins (nat_lt one.segment.base new.base) refl
        (ap (λ (s : List Segment). lie_from a (mapped new s)) (sym whole) ∙ lie)
        (all_in-insert (end_of one.segment) es (others_stand slots e es all))
        ∙ ap (mapped new) (sym whole)
      where
        by : (order : Ordering) → nat_cmp new.base e.0 ≡ order → (first : Segment) → get slots e.1 ≡ Some first → first.base ≡ e.0 → (below : Bool) → nat_lt first.base new.base ≡ below
            → lie_from a (cond below (first ∷ mapped new (all_in slots es)) (new ∷ first ∷ all_in slots es)) ≡ true
            → (lie_from (end_of first) (mapped new (all_in slots es)) ≡ true → all_in after (insert_entry nat_cmp es new.base key) ≡ mapped new (all_in slots es))
            → all_in after (match_ordering order ((new.base, key) ∷ e ∷ es) ((e.0, key) ∷ es) (e ∷ insert_entry nat_cmp es new.base key)) ≡ cond below (first ∷ mapped new (all_in slots es)) (new ∷ first ∷ all_in slots es)
        by Less is first there begins true below lie rest = absurd (grind (arith, nat_tests, is, begins, below))
        by Less is first there begins false below lie rest =
            all_in-cons after (new.base, key) (e ∷ es) new placed ∙ ap (λ s. new ∷ s) (all_in-vacant (e ∷ es) vacant all ∙ all_in-cons slots e es first there)
        by Equal is first there begins true below lie rest = absurd (grind (arith, nat_tests, is, begins, below))
        by Equal is first there begins false below lie rest =
            let low : new.base ≡ first.base = grind (arith, nat_tests, is, begins) in
            let front = head_lies a new (first ∷ all_in slots es) lie in
            absurd (omega (arith, low, (head_lies (end_of new) first (all_in slots es) front.1).0))
        by Greater is first there begins true below lie rest =
            let apart : e.1 ≢ key = λ same. some_or_none (get slots e.1) first there (ap (get slots) same ∙ vacant) in
            all_in-other e (insert_entry nat_cmp es new.base key) first apart there ∙ ap (λ s. first ∷ s) (rest (head_lies a first (mapped new (all_in slots es)) lie).1)
        by Greater is first there begins false below lie rest = absurd (grind (arith, nat_tests, is, begins, below))

  -- ---- one fewer

  all_in-remove : (a : ℕ) (es : List (ℕ × ℕ)) (gone : Segment) → get slots key ≡ Some gone → all_stand slots es ≡ true → lie_from a (all_in slots es) ≡ true → lookup (is_at (nat_cmp gone.base)) es ≡ Some key
      → all_in after (remove_entry (is_at (nat_cmp gone.base)) es) ≡ unmapped (all_in slots es) gone.base
  all_in-remove a [] gone there all lie named = refl
  all_in-remove a (e ∷ es) gone there all lie named =
      let one = first_stands slots e es all in
      let whole : all_in slots (e ∷ es) ≡ one.segment ∷ all_in slots es = all_in-cons slots e es one.segment one.there in
      let same : is_eq (nat_cmp gone.base e.0) ≡ nat_eq one.segment.base gone.base = eq-nat gone.base e.0 ∙ ap (λ (n : ℕ). nat_eq n gone.base) (sym one.begins) in
      by (is_eq (nat_cmp gone.base e.0)) one.segment one.there named (sym same)
      (ap (lie_from a) (sym whole) ∙ lie)
      (λ later. all_in-remove (end_of one.segment) es gone there (others_stand slots e es all) (head_lies a one.segment (all_in slots es) (ap (lie_from a) (sym whole) ∙ lie)).1 later)
      ∙ ap (λ (s : List Segment). unmapped s gone.base) (sym whole)
    where
      by : (here : Bool) (first : Segment) → get slots e.1 ≡ Some first → cond here (Some e.1) (lookup (is_at (nat_cmp gone.base)) es) ≡ Some key → nat_eq first.base gone.base ≡ here → lie_from a (first ∷ all_in slots es) ≡ true
          → (lookup (is_at (nat_cmp gone.base)) es ≡ Some key → all_in after (remove_entry (is_at (nat_cmp gone.base)) es) ≡ unmapped (all_in slots es) gone.base)
          → all_in after (cond here es (e ∷ remove_entry (is_at (nat_cmp gone.base)) es)) ≡ unmapped (first ∷ all_in slots es) gone.base
      by true first is_there named is lie rest =
          let absent : is_ok (beginning_at (all_in slots es) gone.base) ≡ false = false_from_ne_true (is_ok (beginning_at (all_in slots es) gone.base)) (λ later.
          absurd (omega (arith, eqb-true first.base gone.base is, begins_from (end_of first) (all_in slots es) gone.base (head_lies a first (all_in slots es) lie).1 later))) in
          rw is (all_in-later es gone there (others_stand slots e es all) absent)
      by false first is_there named is lie rest =
          let apart : e.1 ≢ key = λ same.
          let one : first ≡ gone = same_segment (get slots key) first gone (ap (get slots) (sym same) ∙ is_there) there in
          both_ways (nat_eq first.base gone.base) is (eq-eqb first.base gone.base (ap (λ (s : Segment). s.base) one)) in
          rw is (all_in-other e (remove_entry (is_at (nat_cmp gone.base)) es) first apart is_there ∙ ap (λ s. first ∷ s) (rest named))

  -- ---- bytes put in one

  all_in-put : (a : ℕ) (es : List (ℕ × ℕ)) (old : Segment) (at : ℕ) (bytes : List ℕ) → get slots key ≡ Some old → get after key ≡ Some (with_bytes old at bytes) → 0 < length bytes → has_bytes old at (length bytes) ≡ true
      → all_stand slots es ≡ true → lie_from a (all_in slots es) ≡ true → lookup (is_at (nat_cmp old.base)) es ≡ Some key → all_in after es ≡ put_bytes (all_in slots es) at bytes
  all_in-put a [] old at bytes there put some has all lie named = absurd cc
  all_in-put a (e ∷ es) old at bytes there put some has all lie named =
      let one = first_stands slots e es all in
      let whole : all_in slots (e ∷ es) ≡ one.segment ∷ all_in slots es = all_in-cons slots e es one.segment one.there in
      let same : is_eq (nat_cmp old.base e.0) ≡ nat_eq one.segment.base old.base = eq-nat old.base e.0 ∙ ap (λ (n : ℕ). nat_eq n old.base) (sym one.begins) in
      by (is_eq (nat_cmp old.base e.0)) one.segment one.there named (sym same)
      (ap (lie_from a) (sym whole) ∙ lie)
      (λ later. all_in-put (end_of one.segment) es old at bytes there put some has (others_stand slots e es all) (head_lies a one.segment (all_in slots es) (ap (lie_from a) (sym whole) ∙ lie)).1 later)
      ∙ ap (λ (s : List Segment). put_bytes s at bytes) (sym whole)
    where
      by : (here : Bool) (first : Segment) → get slots e.1 ≡ Some first → cond here (Some e.1) (lookup (is_at (nat_cmp old.base)) es) ≡ Some key → nat_eq first.base old.base ≡ here → lie_from a (first ∷ all_in slots es) ≡ true
          → (lookup (is_at (nat_cmp old.base)) es ≡ Some key → all_in after es ≡ put_bytes (all_in slots es) at bytes)
          → all_in after (e ∷ es) ≡ put_bytes (first ∷ all_in slots es) at bytes
      by true first is_there named is lie rest =
          let own : e.1 ≡ key = cc in
          let one : first ≡ old = same_segment (get slots key) first old (ap (get slots) (sym own) ∙ is_there) there in
          let absent : is_ok (beginning_at (all_in slots es) old.base) ≡ false = false_from_ne_true (is_ok (beginning_at (all_in slots es) old.base)) (λ later.
          absurd (omega (arith, eqb-true first.base old.base is, begins_from (end_of first) (all_in slots es) old.base (head_lies a first (all_in slots es) lie).1 later))) in
          let has_it : has_bytes first at (length bytes) ≡ true = ap (λ (s : Segment). has_bytes s at (length bytes)) one ∙ has in
          all_in-cons after e es (with_bytes old at bytes) (ap (get after) own ∙ put)
          ∙ ap (λ s. with_bytes old at bytes ∷ s) (all_in-later es old there (others_stand slots e es all) absent)
          ∙ rw has_it (ap (λ (s : Segment). with_bytes s at bytes ∷ all_in slots es) (sym one))
      by false first is_there named is lie rest =
          let apart : e.1 ≢ key = λ same.
          let one : first ≡ old = same_segment (get slots key) first old (ap (get slots) (sym same) ∙ is_there) there in
          both_ways (nat_eq first.base old.base) is (eq-eqb first.base old.base (ap (λ (s : Segment). s.base) one)) in
          let begins : is_ok (beginning_at (all_in slots es) old.base) ≡ true =
          ap is_ok (beginning_by slots es old.base (others_stand slots e es all)) ∙ ap (λ of. is_ok (under slots of)) named ∙ ap (λ (slot : Option Segment). is_ok (ok_or slot NoSegment)) there in
          let ends : end_of first ≤ at = omega (arith, begins_from (end_of first) (all_in slots es) old.base (head_lies a first (all_in slots es) lie).1 begins, has_base old at (length bytes) has) in
          let lacks : has_bytes first at (length bytes) ≡ false = lacks_after first at (length bytes) some ends in
          rw lacks (all_in-other e es first apart is_there ∙ ap (λ s. first ∷ s) (rest named))

-- ---- what holds after each change

-- more room changes nothing
pub filed_room : (slots : Slab Segment) (bases : tree.BTreeMap ℕ ℕ) (capacity : ℕ) → IsFiled slots bases → IsFiled (record slots { capacity = capacity }) bases
filed_room slots bases capacity filed = record { named = filed.named; stand = filed.stand; apart = filed.apart }

module _ (slots after : Slab Segment) (bases names : tree.BTreeMap ℕ ℕ) (key : ℕ) (new : Segment) (filed : IsFiled slots bases) (vacant : get slots key ≡ None) (changed : Updates slots after key (Some new))
    (renamed : tree.UpdatesBy nat_cmp (nat_cmp new.base) bases names (Some key)) (entries : names.entries ≡ insert_entry nat_cmp bases.entries new.base key) (ordered : tree.IsOrdered nat_cmp names)
    (lie : lie_from 0 (mapped new (all_in slots bases.entries)) ≡ true) where
  pub inserted : all_in after names.entries ≡ mapped new (all_in slots bases.entries)
  inserted = ap (all_in after) entries ∙ all_in-insert slots after key changed.others new vacant changed.changed 0 bases.entries filed.stand lie

  was_none : tree.get nat_cmp bases new.base ≡ None
  was_none = by (tree.get nat_cmp bases new.base) refl
    where
      by : (of : Option ℕ) → tree.get nat_cmp bases new.base ≡ of → of ≡ None
      by None is = refl
      by (Some other) is =
          let one = named_stands slots bases filed new.base other is in
          absurd (both_ways (is_ok (beginning_at (all_in slots bases.entries) new.base)) (none_where_mapped 0 (all_in slots bases.entries) new lie) (ap is_ok (found_there slots bases filed new.base other one.segment is one.there)))

  pub filed_inserted : IsFiled after names
  filed_inserted =
      let named = named_after slots after bases names new.base key (Some key) (Some new) filed renamed changed
      (number_itself key ∙ sym (number_itself new.base)) (λ k apart. other_number k key apart) (λ other apart. other_number other new.base apart)
      (λ k apart. ap (is_number k) was_none) (λ other apart. ap (λ (slot : Option Segment). is_number other (option_map (λ (s : Segment). s.base) slot)) vacant) in
      record { named = named; stand = stand_from after names ordered named; apart = ap (lie_from 0) inserted ∙ lie }

module _ (slots after : Slab Segment) (bases names : tree.BTreeMap ℕ ℕ) (base key : ℕ) (filed : IsFiled slots bases) (named : tree.get nat_cmp bases base ≡ Some key) (changed : Updates slots after key None)
    (renamed : tree.UpdatesBy nat_cmp (nat_cmp base) bases names None) (entries : names.entries ≡ remove_entry (is_at (nat_cmp base)) bases.entries) (ordered : tree.IsOrdered nat_cmp names) where
  pub removed : all_in after names.entries ≡ unmapped (all_in slots bases.entries) base
  removed =
      let one = named_stands slots bases filed base key named in
      let own : lookup (is_at (nat_cmp one.segment.base)) bases.entries ≡ Some key = ap (λ (n : ℕ). lookup (is_at (nat_cmp n)) bases.entries) one.begins ∙ named in
      ap (all_in after) (entries ∙ ap (λ (n : ℕ). remove_entry (is_at (nat_cmp n)) bases.entries) (sym one.begins))
      ∙ all_in-remove slots after key changed.others 0 bases.entries one.segment one.there filed.stand filed.apart own
      ∙ ap (unmapped (all_in slots bases.entries)) one.begins

  pub filed_removed : IsFiled after names
  filed_removed =
      let one = named_stands slots bases filed base key named in
      let stood : base_under slots key ≡ Some base = base_from slots key one.segment one.there ∙ ap Some one.begins in
      let names_now = named_after slots after bases names base key None None filed renamed changed
      refl (λ k apart. refl) (λ other apart. refl)
      (λ k apart. ap (is_number k) named ∙ other_number k key apart) (λ other apart. ap (is_number other) stood ∙ other_number other base apart) in
      record { named = names_now; stand = stand_from after names ordered names_now; apart = ap (lie_from 0) removed ∙ lie_from-unmapped 0 (all_in slots bases.entries) base filed.apart }

-- if the segment under each key begins at the same address as before, entries fit as before
stand_same : (slots after : Slab Segment) → ((key : ℕ) → base_under after key ≡ base_under slots key) → (es : List (ℕ × ℕ)) → all_stand after es ≡ all_stand slots es
stand_same slots after same [] = refl
stand_same slots after same (e ∷ es) = ap (λ of. is_number e.0 of && all_stand after es) (same e.1) ∙ ap (λ b. is_number e.0 (base_under slots e.1) && b) (stand_same slots after same es)

all_in-same : (slots after : Slab Segment) → SameValues slots after → (es : List (ℕ × ℕ)) → all_in after es ≡ all_in slots es
all_in-same slots after same [] = refl
all_in-same slots after same (e ∷ es) = ap (λ slot. cons_option slot (all_in after es)) (same e.1) ∙ ap (cons_option (get slots e.1)) (all_in-same slots after same es)

module _ (slots after : Slab Segment) (bases : tree.BTreeMap ℕ ℕ) (key at : ℕ) (bytes : List ℕ) (filed : IsFiled slots bases) (holds : IsHolderKey slots bases.entries at (length bytes) key) (some : 0 < length bytes)
    (changed : PutsUnder key at bytes slots after) where
  pub put_there : all_in after bases.entries ≡ put_bytes (all_in slots bases.entries) at bytes
  put_there = by (get slots key) refl holds.has
    where
      by : (slot : Option Segment) → get slots key ≡ slot → has_under slot at (length bytes) ≡ true → all_in after bases.entries ≡ put_bytes (all_in slots bases.entries) at bytes
      by None there has = absurd cc
      by (Some old) there has =
          all_in-put slots after key changed.others 0 bases.entries old at bytes there (changed.changed ∙ ap (option_map (λ (s : Segment). with_bytes s at bytes)) there) some has filed.stand filed.apart (name_of slots bases filed key old there)

  same_base_under : (other : ℕ) → base_under after other ≡ base_under slots other
  same_base_under other = elim (cases_Bool (nat_eq other key)) [
    | inl own ↦
        let is : other ≡ key = eqb-true other key own in
        ap (base_under after) is ∙ ap (option_map (λ (s : Segment). s.base)) changed.changed ∙ keeps (get slots key) ∙ ap (base_under slots) (sym is)
    | inr away ↦ ap (option_map (λ (s : Segment). s.base)) (changed.others other (λ same. both_ways (nat_eq other key) away (eq-eqb other key same)))
  ]
    where
      keeps : (slot : Option Segment) → option_map (λ (s : Segment). s.base) (option_map (λ (s : Segment). with_bytes s at bytes) slot) ≡ option_map (λ (s : Segment). s.base) slot
      keeps None = refl
      keeps (Some segment) = refl

  pub filed_put : IsFiled after bases
  filed_put = record {
    named = λ base k. filed.named base k ∙ ap (is_number base) (sym (same_base_under k));
    stand = stand_same slots after same_base_under bases.entries ∙ filed.stand;
    apart = ap (lie_from 0) put_there ∙ lie_from-put_bytes 0 (all_in slots bases.entries) at bytes ∙ filed.apart;
  }

pub filed_same : (slots after : Slab Segment) (bases : tree.BTreeMap ℕ ℕ) → IsFiled slots bases → SameValues slots after → IsFiled after bases
filed_same slots after bases filed same =
    let bases_same : (key : ℕ) → base_under after key ≡ base_under slots key = λ key. ap (option_map (λ (s : Segment). s.base)) (same key) in
    record {
      named = λ base k. filed.named base k ∙ ap (is_number base) (sym (bases_same k));
      stand = stand_same slots after bases_same bases.entries ∙ filed.stand;
      apart = ap (lie_from 0) (all_in-same slots after same bases.entries) ∙ filed.apart;
    }

module _ (slots after : Slab Segment) (bases : tree.BTreeMap ℕ ℕ) (key at n value : ℕ) (filed : IsFiled slots bases) (holds : IsHolderKey slots bases.entries at n key) (some : 0 < n) where
  holds_bytes : IsHolderKey slots bases.entries at (length (little_bytes n value)) key
  holds_bytes = subst (λ (size : ℕ). IsHolderKey slots bases.entries at size key) (sym (length-bytes_low_first 0 n value)) holds

  some_bytes : 0 < length (little_bytes n value)
  some_bytes = subst (λ (size : ℕ). 0 < size) (sym (length-bytes_low_first 0 n value)) some

  -- a number is written, or nothing has changed
  pub filed_answered : (answer : Result Unit MemRefusal) → OnOk answer (PutsUnder key at (little_bytes n value) slots after) → OnErr answer (SameValues slots after) → IsFiled after bases
  filed_answered (Ok done) puts same = filed_put slots after bases key at (little_bytes n value) filed holds_bytes some_bytes puts
  filed_answered (Err refusal) puts same = filed_same slots after bases filed same

  pub answered : (answer : Result Unit MemRefusal) → OnOk answer (PutsUnder key at (little_bytes n value) slots after) → OnErr answer (SameValues slots after)
      → all_in after bases.entries ≡ (if is_ok answer then written (all_in slots bases.entries) at n value else all_in slots bases.entries)
  answered (Ok done) puts same = put_there slots after bases key at (little_bytes n value) filed holds_bytes some_bytes puts ∙ sym (written-as_bytes (all_in slots bases.entries) at n value)
  answered (Err refusal) puts same = all_in-same slots after same bases.entries
