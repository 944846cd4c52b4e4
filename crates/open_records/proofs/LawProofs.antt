-- The laws of the records' single changes.
use Rattle.std.proofs.Common.{◌≡◌, ◌≤◌, ℕ, Bool, true, false, not, ◌&&◌, ◌||◌, nat_eq, nat_lt, List, [], ◌∷◌, ◌++◌, length, map, filter, count_by, None, refl, sym, ap, ◌∙◌, inl, inr, arith, if◌then◌else◌, bytes_eq}
use Rattle.std.specs.List.{list_any, list_all}
use Rattle.std.proofs.lemmas.List.{append-nil, map-append}
use Rattle.std.proofs.lemmas.List.Elements.{filter-append}
use Rattle.std.proofs.lemmas.List.Sums.{length-filter}
use Rattle.std.proofs.lemmas.Bool.{and_parts, or_parts, or_from, not-true, not_from_true, or_cases, both_ways, cases_Bool, eqb-true}
use Rattle.fw_types.specs.Attr.{has_bit_of, is_legal, legal_attributes}
use Rattle.fw_types.specs.declared.attr.TheConstants.Attr.{ALL_BITS}
use Rattle.open_records.specs.OpenRecords.{clash, is_equal, is_kept, is_strong, stand_apart}
use Rattle.open_records.specs.Keyed.{is_after, is_before, is_of, no_pair, records_of, rise, is_same}
use Rattle.open_records.specs.Adding.{first}
use Rattle.open_records.specs.Changing.{raised, raised_where, with_new, with_raised}
use Rattle.open_records.specs.Leaving.{is_meant, is_named}
use Rattle.open_records.specs.Laws.{AddedHere, AddedNotElsewhere, AddingKeeps, AllCut, CutHere, CutNotElsewhere, CutOnHere, CutOnNotElsewhere, CuttingKeeps, CuttingOnKeeps, NoEqualRecords, NoneNamed, OneHolder, SweepingKeeps, SweptEverywhere}
use Rattle.open_records.specs.declared.open_record.KeyedRecord.{KeyedRecord}
use Rattle.open_records.specs.declared.open_record.Rec.{Rec}
use Rattle.open_records.proofs.LeftLemmas.{filtered_here, left_elsewhere, left_here, other_interface, stays_there}
use Rattle.open_records.proofs.ListLemmas.{all_filter, any_filtered, any_map, any_weaker, filter_both, filter_none}
use Rattle.open_records.proofs.Order.{after-not_here, of_itself, same_from_of}
use Rattle.open_records.proofs.AddingLemmas.{added_sound, all_between, new_between}
use Rattle.open_records.proofs.RemovalLemmas.{cut_on_sound, cut_sound, swept_sound}

-- ---- at most one

none_of_filter : {X Y : Type 0} (f : X → Y) (p : X → Bool) (q : Y → Bool) (xs : List X) → list_any (λ x. p x && q (f x)) xs ≡ false → filter q (map f (filter p xs)) ≡ []
none_of_filter f p q [] none = refl
none_of_filter f p q (x ∷ xs) none =
    let parts = or_parts (p x && q (f x)) (list_any (λ y. p y && q (f y)) xs) none in
    let rest = none_of_filter f p q xs parts.1 in
    elim (cases_Bool (p x)) [
      | inl passes ↦ let out : q (f x) ≡ false = rw passes at parts.0 in rw (passes, out) rest
      | inr fails ↦ rw fails rest
    ]

one_more : (here passes : Bool) (rec : Rec) (test : Rec → Bool) (mine : List Rec) → test rec ≡ passes → length (filter test mine) ≤ 1 → (here ≡ true → passes ≡ true → filter test mine ≡ []) → length (filter test (if here then rec ∷ mine else mine)) ≤ 1
one_more false passes rec test mine is few alone = few
one_more true false rec test mine is few alone = rw is few
one_more true true rec test mine is few alone = rw (is, alone refl refl) (omega arith)

pulled : (here : Bool) (one : KeyedRecord) (mine : List KeyedRecord) → map (λ (o : KeyedRecord). o.rec) (if here then one ∷ mine else mine) ≡ (if here then one.rec ∷ map (λ (o : KeyedRecord). o.rec) mine else map (λ (o : KeyedRecord). o.rec) mine)
pulled true one mine = refl
pulled false one mine = refl

-- Of an interface's records at most one passes a test that two can't pass without a clash.
few_pass : (handle : ℕ) (guid : List ℕ) (test : Rec → Bool)
    → ((one other : KeyedRecord) → is_of handle guid one ≡ true → test one.rec ≡ true → clash one other ≡ false → (is_of handle guid other && test other.rec) ≡ false)
    → (entries : List KeyedRecord) → stand_apart entries ≡ true → length (filter test (records_of entries handle guid)) ≤ 1
few_pass handle guid test clashes [] apart = omega arith
few_pass handle guid test clashes (one ∷ entries) apart =
    let parts = and_parts (not (list_any (clash one) entries)) (no_pair clash entries) apart in
    let rest = few_pass handle guid test clashes entries parts.1 in
    let alone : is_of handle guid one ≡ true → test one.rec ≡ true → filter test (records_of entries handle guid) ≡ [] =
    λ here passes. none_of_filter (λ (o : KeyedRecord). o.rec) (is_of handle guid) test entries (any_weaker (clash one) (λ (other : KeyedRecord). is_of handle guid other && test other.rec) entries (λ other free. clashes one other here passes free) (not-true _ parts.0)) in
    rw (pulled (is_of handle guid one) one (filter (is_of handle guid) entries)) (one_more (is_of handle guid one) (test one.rec) one.rec test (records_of entries handle guid) refl rest alone)

at_most_one : (handle : ℕ) (guid : List ℕ) (test : Rec → Bool)
    → ((one other : KeyedRecord) → is_of handle guid one ≡ true → test one.rec ≡ true → clash one other ≡ false → (is_of handle guid other && test other.rec) ≡ false)
    → (entries : List KeyedRecord) → stand_apart entries ≡ true → count_by test (records_of entries handle guid) ≤ 1
at_most_one handle guid test clashes entries apart = rw (← length-filter test (records_of entries handle guid)) (few_pass handle guid test clashes entries apart)

-- two records of one interface that do not clash
apart_here : (handle : ℕ) (guid : List ℕ) (one other : KeyedRecord) (test : Bool) → is_of handle guid one ≡ true → (is_of one.handle one.guid other && test) ≡ false → (is_of handle guid other && test) ≡ false
apart_here handle guid one other test here apart =
    let same = same_from_of handle guid one here in
    rw (← same.same_handle, ← same.same_guid) apart

-- of two tests one of which holds
weaker_and : (here strong equal : Bool) → (here && (strong || equal)) ≡ false → (here && strong) ≡ false
weaker_and true strong equal none = (or_parts strong equal none).0
weaker_and false strong equal none = refl

weaker_or : (here strong equal : Bool) → (here && (strong || equal)) ≡ false → (here && equal) ≡ false
weaker_or true strong equal none = (or_parts strong equal none).1
weaker_or false strong equal none = refl

strong_clash : (handle : ℕ) (guid : List ℕ) (one other : KeyedRecord) → is_of handle guid one ≡ true → is_strong one.rec ≡ true → clash one other ≡ false → (is_of handle guid other && is_strong other.rec) ≡ false
strong_clash handle guid one other here strong free =
    let both : (is_of one.handle one.guid other && (is_strong one.rec && is_strong other.rec)) ≡ false =
    weaker_and (is_of one.handle one.guid other) (is_strong one.rec && is_strong other.rec) (is_equal one.rec.agent one.rec.controller one.rec.attr other.rec) free in
    apart_here handle guid one other (is_strong other.rec) here (ap (λ b. is_of one.handle one.guid other && (b && is_strong other.rec)) (sym strong) ∙ both)

record SameRec (agent controller attr : ℕ) (rec : Rec) : Type 0 where
  same_agent : rec.agent ≡ agent
  same_controller : rec.controller ≡ controller
  same_attr : rec.attr ≡ attr

same_rec : (agent controller attr : ℕ) (rec : Rec) → is_equal agent controller attr rec ≡ true → SameRec agent controller attr rec
same_rec agent controller attr rec equal =
    let outer = and_parts (nat_eq rec.agent agent && nat_eq rec.controller controller) (nat_eq rec.attr attr) equal in
    let inner = and_parts (nat_eq rec.agent agent) (nat_eq rec.controller controller) outer.0 in
    record { same_agent = eqb-true rec.agent agent inner.0; same_controller = eqb-true rec.controller controller inner.1; same_attr = eqb-true rec.attr attr outer.1 }

equal_clash : (handle : ℕ) (guid : List ℕ) (agent controller attr : ℕ) (one other : KeyedRecord) → is_of handle guid one ≡ true → is_equal agent controller attr one.rec ≡ true → clash one other ≡ false → (is_of handle guid other && is_equal agent controller attr other.rec) ≡ false
equal_clash handle guid agent controller attr one other here equal free =
    let same = same_rec agent controller attr one.rec equal in
    let both : (is_of one.handle one.guid other && is_equal one.rec.agent one.rec.controller one.rec.attr other.rec) ≡ false =
    weaker_or (is_of one.handle one.guid other) (is_strong one.rec && is_strong other.rec) (is_equal one.rec.agent one.rec.controller one.rec.attr other.rec) free in
    apart_here handle guid one other (is_equal agent controller attr other.rec) here (rw (← same.same_agent, ← same.same_controller, ← same.same_attr) both)

pub one_strong : (entries : List KeyedRecord) → stand_apart entries ≡ true → (handle : ℕ) (guid : List ℕ) → length (filter is_strong (records_of entries handle guid)) ≤ 1
one_strong entries apart handle guid = few_pass handle guid is_strong (strong_clash handle guid) entries apart

pub one_holder : OneHolder
one_holder table sound handle guid = at_most_one handle guid is_strong (strong_clash handle guid) table.entries sound.apart

pub no_equal_records : NoEqualRecords
no_equal_records table sound handle guid agent controller attr = at_most_one handle guid (is_equal agent controller attr) (equal_clash handle guid agent controller attr) table.entries sound.apart

-- ---- what stays sound

pub adding_keeps : AddingKeeps
adding_keeps table sound handle guid agent controller attr enters legal room = added_sound handle guid agent controller attr table sound enters legal room

pub cutting_keeps : CuttingKeeps
cutting_keeps table sound handle guid test = cut_sound handle guid test table sound

pub cutting_on_keeps : CuttingOnKeeps
cutting_on_keeps table sound handle test = cut_on_sound handle test table sound

pub sweeping_keeps : SweepingKeeps
sweeping_keeps table sound name = swept_sound name table sound

-- ---- one interface, and the others

-- a record of one interface is of no other
raised_one : (here passes : Bool) (one : KeyedRecord) (mine : List KeyedRecord) (test : Rec → Bool) (records : List Rec) → test one.rec ≡ passes → map (λ (o : KeyedRecord). o.rec) mine ≡ map (raised_where test) records
    → map (λ (o : KeyedRecord). o.rec) (if here then (if here && passes then record one { rec = raised one.rec } else one) ∷ mine else mine) ≡ map (raised_where test) (if here then one.rec ∷ records else records)
raised_one true true one mine test records is rest = rw is (ap (λ l. raised one.rec ∷ l) rest)
raised_one true false one mine test records is rest = rw is (ap (λ l. one.rec ∷ l) rest)
raised_one false passes one mine test records is rest = rest

of_raised : (handle : ℕ) (guid : List ℕ) (chosen : Bool) (one : KeyedRecord) → is_of handle guid (if chosen then record one { rec = raised one.rec } else one) ≡ is_of handle guid one
of_raised handle guid true one = refl
of_raised handle guid false one = refl

raised_here_is : (handle : ℕ) (guid : List ℕ) (test : Rec → Bool) (entries : List KeyedRecord) → records_of (with_raised handle guid test entries) handle guid ≡ map (raised_where test) (records_of entries handle guid)
raised_here_is handle guid test [] = refl
raised_here_is handle guid test (one ∷ entries) =
    let rest = raised_here_is handle guid test entries in
    rw (of_raised handle guid (is_of handle guid one && test one.rec) one, pulled (is_of handle guid one) one (filter (is_of handle guid) entries))
    (raised_one (is_of handle guid one) (test one.rec) one (filter (is_of handle guid) (with_raised handle guid test entries)) test (records_of entries handle guid) refl rest)

elsewhere_one : (there here passes : Bool) (one : KeyedRecord) (mine others : List KeyedRecord) → (here ≡ true → there ≡ false) → map (λ (o : KeyedRecord). o.rec) mine ≡ map (λ (o : KeyedRecord). o.rec) others
    → map (λ (o : KeyedRecord). o.rec) (if there then (if here && passes then record one { rec = raised one.rec } else one) ∷ mine else mine) ≡ map (λ (o : KeyedRecord). o.rec) (if there then one ∷ others else others)
elsewhere_one true true passes one mine others differ rest = absurd (both_ways true (differ refl) refl)
elsewhere_one true false passes one mine others differ rest = ap (λ l. one.rec ∷ l) rest
elsewhere_one false here passes one mine others differ rest = rest

raised_elsewhere : (handle : ℕ) (guid : List ℕ) (test : Rec → Bool) (other_handle : ℕ) (other_guid : List ℕ) → is_same handle guid other_handle other_guid ≡ false → (entries : List KeyedRecord)
    → records_of (with_raised handle guid test entries) other_handle other_guid ≡ records_of entries other_handle other_guid
raised_elsewhere handle guid test other_handle other_guid differ [] = refl
raised_elsewhere handle guid test other_handle other_guid differ (one ∷ entries) =
    let rest = raised_elsewhere handle guid test other_handle other_guid differ entries in
    rw (of_raised other_handle other_guid (is_of handle guid one && test one.rec) one)
    (elsewhere_one (is_of other_handle other_guid one) (is_of handle guid one) (test one.rec) one (filter (is_of other_handle other_guid) (with_raised handle guid test entries)) (filter (is_of other_handle other_guid) entries)
    (other_interface handle guid other_handle other_guid one differ) rest)

module _ (handle : ℕ) (guid : List ℕ) (rec : Rec) (entries : List KeyedRecord) (rising : rise entries ≡ true) where
  abbrev new : KeyedRecord
  new = record { handle = handle; guid = guid; rec = rec }

  abbrev front : List KeyedRecord
  front = filter (is_before handle guid) entries ++ filter (is_of handle guid) entries

  abbrev back : List KeyedRecord
  back = filter (is_after handle guid) entries

  none_after : filter (is_of handle guid) back ≡ []
  none_after = filter_none (is_of handle guid) back (any_filtered (is_after handle guid) (is_of handle guid) entries (λ one after. after-not_here handle guid one after))

  last : filter (is_of handle guid) (new ∷ back) ≡ new ∷ []
  last = rw (of_itself new, none_after) refl

  pub new_here : records_of (with_new new entries) handle guid ≡ records_of entries handle guid ++ rec ∷ []
  new_here =
      let mine = filter (is_of handle guid) front in
      let more : filter (is_of handle guid) (with_new new entries) ≡ mine ++ new ∷ [] =
      ap (filter (is_of handle guid)) (new_between handle guid rec entries rising) ∙ filter-append (is_of handle guid) front (new ∷ back) ∙ ap (λ l. mine ++ l) last in
      let before : filter (is_of handle guid) entries ≡ mine =
      ap (filter (is_of handle guid)) (all_between handle guid rec entries rising) ∙ filter-append (is_of handle guid) front back ∙ ap (λ l. mine ++ l) none_after ∙ append-nil mine in
      ap (map (λ (o : KeyedRecord). o.rec)) more ∙ map-append (λ (o : KeyedRecord). o.rec) mine (new ∷ []) ∙ ap (λ l. map (λ (o : KeyedRecord). o.rec) l ++ rec ∷ []) (sym before)

  pub new_elsewhere : (other_handle : ℕ) (other_guid : List ℕ) → is_same handle guid other_handle other_guid ≡ false → records_of (with_new new entries) other_handle other_guid ≡ records_of entries other_handle other_guid
  new_elsewhere other_handle other_guid differ =
      let test : KeyedRecord → Bool = is_of other_handle other_guid in
      let skips : filter test (new ∷ back) ≡ filter test back = rw differ refl in
      let more : filter test (with_new new entries) ≡ filter test front ++ filter test back =
      ap (filter test) (new_between handle guid rec entries rising) ∙ filter-append test front (new ∷ back) ∙ ap (λ l. filter test front ++ l) skips in
      let before : filter test entries ≡ filter test front ++ filter test back = ap (filter test) (all_between handle guid rec entries rising) ∙ filter-append test front back in
      ap (map (λ (o : KeyedRecord). o.rec)) (more ∙ sym before)

by_either : (equal : Bool) (handle : ℕ) (guid : List ℕ) (x y : List KeyedRecord) (u v : List Rec) → records_of x handle guid ≡ u → records_of y handle guid ≡ v → records_of (if equal then x else y) handle guid ≡ (if equal then u else v)
by_either true handle guid x y u v one other = one
by_either false handle guid x y u v one other = other

by_both : (equal : Bool) (handle : ℕ) (guid : List ℕ) (x y : List KeyedRecord) (u : List Rec) → records_of x handle guid ≡ u → records_of y handle guid ≡ u → records_of (if equal then x else y) handle guid ≡ u
by_both true handle guid x y u one other = one
by_both false handle guid x y u one other = other

pub added_here : AddedHere
added_here table sound handle guid agent controller attr =
    let rec : Rec = first agent controller attr in
    by_either (list_any (is_equal agent controller attr) (records_of table.entries handle guid)) handle guid
    (with_raised handle guid (is_equal agent controller attr) table.entries) (with_new (record { handle = handle; guid = guid; rec = rec }) table.entries)
    (map (raised_where (is_equal agent controller attr)) (records_of table.entries handle guid)) (records_of table.entries handle guid ++ rec ∷ [])
    (raised_here_is handle guid (is_equal agent controller attr) table.entries) (new_here handle guid rec table.entries sound.rising)

pub added_not_elsewhere : AddedNotElsewhere
added_not_elsewhere table sound handle guid agent controller attr other_handle other_guid differ =
    let rec : Rec = first agent controller attr in
    by_both (list_any (is_equal agent controller attr) (records_of table.entries handle guid)) other_handle other_guid
    (with_raised handle guid (is_equal agent controller attr) table.entries) (with_new (record { handle = handle; guid = guid; rec = rec }) table.entries)
    (records_of table.entries other_handle other_guid)
    (raised_elsewhere handle guid (is_equal agent controller attr) other_handle other_guid differ table.entries) (new_elsewhere handle guid rec table.entries sound.rising other_handle other_guid differ)

pub cut_here : CutHere
cut_here table handle guid test = left_here handle guid test table.entries

pub cut_not_elsewhere : CutNotElsewhere
cut_not_elsewhere table handle guid test other_handle other_guid differ = left_elsewhere handle guid test other_handle other_guid differ table.entries

stays_on : (on of_guid passes : Bool) → ((on && of_guid) && not passes) ≡ (not (on && passes) && (on && of_guid))
stays_on true true true = refl
stays_on true true false = refl
stays_on true false true = refl
stays_on true false false = refl
stays_on false of_guid passes = refl

pub cut_on_here : CutOnHere
cut_on_here table handle test guid =
    ap (map (λ (o : KeyedRecord). o.rec)) (filter_both (λ (o : KeyedRecord). not (nat_eq o.handle handle && test o.rec)) (is_of handle guid) (λ (o : KeyedRecord). is_of handle guid o && not (test o.rec)) table.entries (λ o. stays_on (nat_eq o.handle handle) (bytes_eq o.guid guid) (test o.rec)))
    ∙ sym (filtered_here handle guid (λ (rec : Rec). not (test rec)) table.entries)

-- a record of one handle is of no interface of another
other_handle_of : (handle other_handle : ℕ) (other_guid : List ℕ) (one : KeyedRecord) → nat_eq handle other_handle ≡ false → nat_eq one.handle handle ≡ true → is_of other_handle other_guid one ≡ false
other_handle_of handle other_handle other_guid one differ here =
    let same : one.handle ≡ handle = eqb-true one.handle handle here in
    let other : nat_eq one.handle other_handle ≡ false = ap (λ h. nat_eq h other_handle) same ∙ differ in
    rw other refl

pub cut_on_not_elsewhere : CutOnNotElsewhere
cut_on_not_elsewhere table handle test other_handle other_guid differ =
    ap (map (λ (o : KeyedRecord). o.rec)) (filter_both (λ (o : KeyedRecord). not (nat_eq o.handle handle && test o.rec)) (is_of other_handle other_guid) (is_of other_handle other_guid) table.entries
    (λ o. stays_there (is_of other_handle other_guid o) (nat_eq o.handle handle) (test o.rec) (other_handle_of handle other_handle other_guid o differ)))

and_turned : (a b : Bool) → (a && b) ≡ (b && a)
and_turned true true = refl
and_turned true false = refl
and_turned false true = refl
and_turned false false = refl

pub swept_everywhere : SweptEverywhere
swept_everywhere table name handle guid =
    ap (map (λ (o : KeyedRecord). o.rec)) (filter_both (λ (o : KeyedRecord). not (is_named name o.rec)) (is_of handle guid) (λ (o : KeyedRecord). is_of handle guid o && not (is_named name o.rec)) table.entries (λ o. and_turned (is_of handle guid o) (not (is_named name o.rec))))
    ∙ sym (filtered_here handle guid (λ (rec : Rec). not (is_named name rec)) table.entries)

-- ---- what is gone

all_none : {X : Type 0} (p q : X → Bool) (xs : List X) → ((x : X) → p x ≡ true → q x ≡ false) → list_all p xs ≡ true → list_any q xs ≡ false
all_none p q [] apart all = refl
all_none p q (x ∷ xs) apart all =
    let parts = and_parts (p x) (list_all p xs) all in
    or_from (q x) (list_any q xs) (apart x parts.0) (all_none p q xs apart parts.1)

-- a number that is one of a list of numbers with such a bit
among : (bits : ℕ) (numbers : List ℕ) → list_any (nat_eq bits) numbers ≡ true → list_all (has_bit_of ALL_BITS) numbers ≡ true → has_bit_of ALL_BITS bits ≡ true
among bits [] some all = absurd cc
among bits (number ∷ numbers) some all =
    let parts = and_parts (has_bit_of ALL_BITS number) (list_all (has_bit_of ALL_BITS) numbers) all in
    elim (or_cases (nat_eq bits number) (list_any (nat_eq bits) numbers) some) [
      | inl same ↦ let is : bits ≡ number = eqb-true bits number same in ap (has_bit_of ALL_BITS) is ∙ parts.0
      | inr later ↦ among bits numbers later parts.1
    ]

pub kept_is_meant : (one : KeyedRecord) → is_kept one ≡ true → not (is_meant None None ALL_BITS one.rec) ≡ false
kept_is_meant one kept =
    let legal : is_legal one.rec.attr ≡ true = (and_parts (is_legal one.rec.attr) (nat_lt 0 one.rec.count) kept).0 in
    not_from_true (has_bit_of ALL_BITS one.rec.attr) (among one.rec.attr legal_attributes legal refl)

pub all_cut : AllCut
all_cut table sound handle guid =
    let mine = filter (is_of handle guid) table.entries in
    let none : list_any (λ (o : KeyedRecord). not (is_meant None None ALL_BITS o.rec)) mine ≡ false =
    all_none is_kept (λ (o : KeyedRecord). not (is_meant None None ALL_BITS o.rec)) mine kept_is_meant (all_filter (is_of handle guid) is_kept table.entries sound.kept) in
    cut_here table handle guid (is_meant None None ALL_BITS)
    ∙ filter_none (λ (rec : Rec). not (is_meant None None ALL_BITS rec)) (records_of table.entries handle guid) (any_map (λ (o : KeyedRecord). o.rec) (λ (rec : Rec). not (is_meant None None ALL_BITS rec)) mine ∙ none)

pub none_named : NoneNamed
none_named table name = any_filtered (λ (o : KeyedRecord). not (is_named name o.rec)) (λ (o : KeyedRecord). is_named name o.rec) table.entries (λ o passes. not-true (is_named name o.rec) passes)
