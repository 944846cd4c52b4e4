-- What installing and removing answer and leave, by the places that the code finds.
use Rattle.std.proofs.Common.{◌≡◌, ◌<◌, ◌≤◌, ℕ, suc, Bool, true, false, not, cond, nat_eq, nat_lt, zero, List, [], ◌∷◌, ◌++◌, length, map, filter, find, take, drop, get_or, set, Option, Some, None, Ok, Err, inl, inr, refl, ap, sym, ◌∙◌, length-take, if◌then◌else◌, arith, nat_le}
use Rattle.std.specs.List.{list_any, list_all, position, position_or_len, remove}
use Rattle.std.proofs.lemmas.Bool.{and_parts, and_from, not-true, cases_Bool, both_ways, ltb-false}
use Rattle.std.proofs.lemmas.Bool.Decides.{nat_tests}
use Rattle.std.proofs.lemmas.List.{get_or-take, take-set, drop-set-lt, length-map}
use Rattle.std.proofs.lemmas.List.Elements.{filter-append}
use Rattle.std.proofs.lemmas.List.Folds.{list_all-append, list_all_at, list_any_at, find_at}
use Rattle.std.proofs.lemmas.List.Quantifiers.{position-Some}
use Rattle.std.proofs.lemmas.Option.{slice_get_past}
use Rattle.std.proofs.lemmas.Slice.Eq.{bytes_eq-Decides}
use Rattle.fw_types.specs.declared.limits.TheConstants.{MOST_INTERFACES}
use Rattle.handle_db.specs.Database.{Database, IsSound, differ, has_any, interfaces_in, interfaces_of, is_guid, is_handle, is_kept, is_live, numbers}
use Rattle.handle_db.specs.Installing.{appended, install_answer, with_interface}
use Rattle.handle_db.specs.Removing.{remove_answer, without_guid, without_interface}
use Rattle.handle_db.specs.Places.{IsPlaceOf, removed_at}
use Rattle.handle_db.specs.declared.handle_entry.HandleEntry.{HandleEntry}
use Rattle.handle_db.specs.declared.handle_entry.Interface.{Interface}
use Rattle.handle_db.specs.declared.refusal.DbRefusal.TheVariants.{Already, Full, NotThere}
use Rattle.handle_db.proofs.OnlyOne.{IsOnly, none_pass, split_at, find-only, set-only, remove-only}
use Rattle.handle_db.proofs.Order.{only_at}
use Rattle.handle_db.proofs.Keeping.{Kept, kept_parts, length-filter_entries}

positive : (n : ℕ) → nat_lt 0 n ≡ not (nat_eq n 0)
positive n = grind (arith, nat_tests)

-- ---- a handle at its place

module _ (handle : ℕ) (db : Database) (at : ℕ) (sound : IsSound db) (is : IsPlaceOf handle db.handles at) where
  only : (entry : HandleEntry) → entry ≡ get_or db.handles at entry → IsOnly (is_handle handle) db.handles at (get_or db.handles at entry)
  only entry here = only_at handle db.handles at entry sound.rising is

  pub live_at : (entry : HandleEntry) → entry ≡ get_or db.handles at entry → is_live handle db ≡ true
  live_at entry here = list_any_at (is_handle handle) db.handles at entry is.within (only entry here).passes

  pub interfaces_at : (entry : HandleEntry) → entry ≡ get_or db.handles at entry → interfaces_of handle db ≡ entry.interfaces
  interfaces_at entry here = ap interfaces_in (find-only (only entry here) ∙ ap Some (sym here))

-- what is read at the handle's place: it is live, and these are its interfaces
pub record IsHere (handle : ℕ) (db : Database) (interfaces : List Interface) : Type 0 where
  pub live : is_live handle db ≡ true
  pub its_interfaces : interfaces_of handle db ≡ interfaces

pub here_at : {number handle : ℕ} (db : Database) {shown : List HandleEntry} {at : ℕ} {entry : HandleEntry} {interfaces : List Interface}
    → IsSound db → shown ≡ db.handles → number ≡ handle → IsPlaceOf number shown at → entry ≡ get_or db.handles at entry → interfaces ≡ entry.interfaces → IsHere handle db interfaces
here_at {number} {handle} db {shown} {at} {entry} {interfaces} sound same named is read show =
    let shown_place : IsPlaceOf number db.handles at = rw same at is in
    let place : IsPlaceOf handle db.handles at = rw named at shown_place in
    record { live = live_at handle db at sound place entry read; its_interfaces = interfaces_at handle db at sound place entry read ∙ sym show }

-- ---- installing

module _ {handle : ℕ} (guid : List ℕ) (db : Database) {interfaces : List Interface} (here : IsHere handle db interfaces) where
  pub already : list_any (is_guid guid) interfaces ≡ true → install_answer (Some handle) guid db ≡ Err Already
  already had = rw (here.live, here.its_interfaces, had) refl

  pub full : list_any (is_guid guid) interfaces ≡ false → nat_le MOST_INTERFACES (length interfaces) ≡ true → install_answer (Some handle) guid db ≡ Err Full
  full had many = rw (here.live, here.its_interfaces, had, many) refl

  pub accepted : list_any (is_guid guid) interfaces ≡ false → nat_le MOST_INTERFACES (length interfaces) ≡ false → install_answer (Some handle) guid db ≡ Ok handle
  accepted had few = rw (here.live, here.its_interfaces, had, few) refl

-- the entry at the handle's place with one more interface
pub appended_at : (handle : ℕ) (new : Interface) (db : Database) (at : ℕ) (d : HandleEntry) → IsSound db → IsPlaceOf handle db.handles at → set db.handles at (appended new (get_or db.handles at d)) ≡ with_interface handle new db.handles
appended_at handle new db at d sound is = set-only (appended new) (only_at handle db.handles at d sound.rising is)

-- ---- an entry without interfaces

filter-all : (p : HandleEntry → Bool) (entries : List HandleEntry) → list_all p entries ≡ true → filter p entries ≡ entries
filter-all p [] all = refl
filter-all p (entry ∷ entries) all =
    let parts = and_parts (p entry) (list_all p entries) all in
    rw (parts.0, filter-all p entries parts.1) refl

module _ (entries : List HandleEntry) (at : ℕ) (entry : HandleEntry) (within : at < length entries) (here : entry ≡ get_or entries at entry) (others : list_all has_any (remove entries at) ≡ true) where
  around : filter has_any entries ≡ take at entries ++ filter has_any (entry ∷ drop (suc at) entries)
  around =
      let parts = and_parts (list_all has_any (take at entries)) (list_all has_any (drop (suc at) entries)) (sym (list_all-append has_any (take at entries) (drop (suc at) entries)) ∙ others) in
      let split : entries ≡ take at entries ++ entry ∷ drop (suc at) entries = split_at entries at entry within ∙ ap (λ (e : HandleEntry). take at entries ++ e ∷ drop (suc at) entries) (sym here) in
      ap (filter has_any) split ∙ filter-append has_any (take at entries) (entry ∷ drop (suc at) entries) ∙ ap (λ front. front ++ filter has_any (entry ∷ drop (suc at) entries)) (filter-all has_any (take at entries) parts.0)

  back : filter has_any (drop (suc at) entries) ≡ drop (suc at) entries
  back =
      let parts = and_parts (list_all has_any (take at entries)) (list_all has_any (drop (suc at) entries)) (sym (list_all-append has_any (take at entries) (drop (suc at) entries)) ∙ others) in
      filter-all has_any (drop (suc at) entries) parts.1

  -- it is removed
  pub gone_at : has_any entry ≡ false → remove entries at ≡ filter has_any entries
  gone_at none = sym (around ∙ rw (none, back) refl)

  -- or all stay
  pub stays_at : has_any entry ≡ true → entries ≡ filter has_any entries
  stays_at some =
      let split : entries ≡ take at entries ++ entry ∷ drop (suc at) entries = split_at entries at entry within ∙ ap (λ (e : HandleEntry). take at entries ++ e ∷ drop (suc at) entries) (sym here) in
      split ∙ sym (around ∙ rw (some, back) refl)

all_have : (entries : List HandleEntry) → list_all is_kept entries ≡ true → list_all has_any entries ≡ true
all_have [] all = refl
all_have (entry ∷ entries) all =
    let parts = and_parts (is_kept entry) (list_all is_kept entries) all in
    let kept = kept_parts entry parts.0 in
    and_from (has_any entry) (list_all has_any entries) kept.some (all_have entries parts.1)

list_all-remove : (p : HandleEntry → Bool) (entries : List HandleEntry) (at : ℕ) → list_all p entries ≡ true → list_all p (remove entries at) ≡ true
list_all-remove p [] zero all = refl
list_all-remove p [] (suc at) all = refl
list_all-remove p (entry ∷ entries) zero all = (and_parts (p entry) (list_all p entries) all).1
list_all-remove p (entry ∷ entries) (suc at) all =
    let parts = and_parts (p entry) (list_all p entries) all in
    and_from (p entry) (list_all p (remove entries at)) parts.0 (list_all-remove p entries at parts.1)

-- all but the changed one have interfaces
pub others_have : (entries : List HandleEntry) (at : ℕ) (new : HandleEntry) → list_all is_kept entries ≡ true → list_all has_any (remove (set entries at new) at) ≡ true
others_have entries at new all =
    let same : remove (set entries at new) at ≡ remove entries at = rw (take-set entries at new, drop-set-lt (suc at) entries at new (omega arith)) refl in
    ap (list_all has_any) same ∙ list_all-remove has_any entries at (all_have entries all)

-- ---- removing

differ_after : (interfaces : List Interface) (place : ℕ) (d : Interface) → differ interfaces ≡ true → place < length interfaces → list_any (is_guid (get_or interfaces place d).guid) (drop (suc place) interfaces) ≡ false
differ_after [] place d apart h = absurd (omega arith)
differ_after (first ∷ interfaces) zero d apart h = not-true _ (and_parts (not (list_any (is_guid first.guid) interfaces)) (differ interfaces) apart).0
differ_after (first ∷ interfaces) (suc place) d apart h =
    differ_after interfaces place d (and_parts (not (list_any (is_guid first.guid) interfaces)) (differ interfaces) apart).1 (omega arith)

-- past the end
nothing : Interface
nothing = record { guid = []; interface = 0; owner = 0 }

-- the interface at the place that is found is the protocol's only one
only_guid : (guid : List ℕ) (interfaces : List Interface) (place : ℕ) (d : Interface) → differ interfaces ≡ true → position (is_guid guid) interfaces ≡ Some place → IsOnly (is_guid guid) interfaces place (get_or interfaces place d)
only_guid guid interfaces place d apart found =
    let first = position-Some (is_guid guid) interfaces place d found in
    let named : (get_or interfaces place d).guid ≡ guid = (bytes_eq-Decides (get_or interfaces place d).guid guid).0 first.1 in
    record {
      inside = first.0;
      split = split_at interfaces place d first.0;
      passes = first.1;
      before = none_pass (is_guid guid) d (take place interfaces) (λ k h.
          let below : k < place = omega (arith, length-take place interfaces) in
          let same : get_or (take place interfaces) k d ≡ get_or interfaces k d = get_or-take place interfaces k d below in
          rw same (first.2 k below));
      after = rw named at (differ_after interfaces place d apart first.0);
    }

place_by : (inside : Bool) (found : ℕ) {place : ℕ} → cond inside (Some found) None ≡ Some place → found ≡ place
place_by true found e = cc
place_by false found e = absurd cc

outside : (inside : Bool) (found : ℕ) → cond inside (Some found) None ≡ None → inside ≡ false
outside true found e = absurd cc
outside false found e = refl

not_found : {X : Type 0} (test : X → Bool) (xs : List X) → position test xs ≡ None → find test xs ≡ None
not_found test xs none =
    let place = position_or_len test xs in
    find_at test xs ∙ slice_get_past xs place (ltb-false place (length xs) (outside (nat_lt place (length xs)) place none))

pass_at : (p : HandleEntry → Bool) (entries : List HandleEntry) (at : ℕ) (d : HandleEntry) → at < length entries → list_all p entries ≡ true → p (get_or entries at d) ≡ true
pass_at p entries at d h all = elim (cases_Bool (p (get_or entries at d))) [
  | inl passes ↦ passes
  | inr fails ↦ absurd (both_ways (list_all p entries) (list_all_at p entries at d h fails) all)
]

-- an entry without interfaces, as the code tests it
pub empty_is : (entry : HandleEntry) (interfaces : List Interface) (empty : Bool) → interfaces ≡ entry.interfaces → empty ≡ nat_eq (length interfaces) 0 → has_any entry ≡ not empty
empty_is entry interfaces empty same is = rw (is, same) (positive (length entry.interfaces))

module _ (handle : ℕ) (guid : List ℕ) (db : Database) (at : ℕ) (entry : HandleEntry) (sound : IsSound db) (is : IsPlaceOf handle db.handles at) (here : entry ≡ get_or db.handles at entry) where
  -- the handle does not have the protocol
  pub not_there : position (is_guid guid) entry.interfaces ≡ None → remove_answer handle guid db ≡ Err NotThere
  not_there none =
      let found : find (is_guid guid) (interfaces_of handle db) ≡ None = rw (interfaces_at handle db at sound is entry here) (not_found (is_guid guid) entry.interfaces none) in
      rw (live_at handle db at sound is entry here, found) refl

  pub kept_here : Kept entry.interfaces
  kept_here = kept_parts entry (ap is_kept here ∙ pass_at is_kept db.handles at entry is.within sound.kept)

  module _ (place : ℕ) (found : position (is_guid guid) entry.interfaces ≡ Some place) where
    -- it is among as many as a handle may have
    pub place_fits : place < MOST_INTERFACES
    place_fits =
        let one = only_guid guid entry.interfaces place nothing kept_here.apart found in
        omega (arith, one.inside, kept_here.few)

    -- what is answered about the interface
    pub removal_at : (interface : Interface) → interface ≡ get_or entry.interfaces place interface → remove_answer handle guid db ≡ Ok (record { interface = interface.interface; owner = interface.owner; place = place; gone = nat_eq (length entry.interfaces) 1 })
    removal_at interface read =
        let one = only_guid guid entry.interfaces place interface kept_here.apart found in
        let here' : find (is_guid guid) entry.interfaces ≡ Some interface = find-only one ∙ ap Some (sym read) in
        let counted : position_or_len (is_guid guid) entry.interfaces ≡ place = place_by (nat_lt (position_or_len (is_guid guid) entry.interfaces) (length entry.interfaces)) (position_or_len (is_guid guid) entry.interfaces) found in
        rw (live_at handle db at sound is entry here, interfaces_at handle db at sound is entry here, here', counted) refl

    -- the handle without it, or none if it was the last
    pub removed_at_is : filter has_any (set db.handles at (removed_at place entry)) ≡ without_interface handle guid db.handles
    removed_at_is =
        let fails : Interface → Bool = λ one. not (is_guid guid one) in
        let filtered : remove entry.interfaces place ≡ filter fails entry.interfaces = remove-only (only_guid guid entry.interfaces place nothing kept_here.apart found) in
        let one : removed_at place entry ≡ without_guid guid entry = ap (λ interfaces. record entry { interfaces = interfaces }) filtered in
        let all : set db.handles at (without_guid guid entry) ≡ map (λ (e : HandleEntry). if is_handle handle e then without_guid guid e else e) db.handles =
        ap (λ (e : HandleEntry). set db.handles at (without_guid guid e)) here ∙ set-only (without_guid guid) (only_at handle db.handles at entry sound.rising is) in
        ap (λ e. filter has_any (set db.handles at e)) one ∙ ap (filter has_any) all

-- ---- lists that are handed out

-- as many handles as there are, or fewer
pub few_numbers : (p : HandleEntry → Bool) (entries : List HandleEntry) → length (numbers (filter p entries)) ≤ length entries
few_numbers p entries = omega (arith, length-map (filter p entries) (λ (entry : HandleEntry). entry.handle), length-filter_entries p entries)

found_more : (here : Bool) (first entry : HandleEntry) (later : Option HandleEntry) → is_kept first ≡ true → (later ≡ Some entry → is_kept entry ≡ true) → cond here (Some first) later ≡ Some entry → is_kept entry ≡ true
found_more true first entry later kept rest found = let same : first ≡ entry = cc in ap is_kept (sym same) ∙ kept
found_more false first entry later kept rest found = rest found

found_kept : (test : HandleEntry → Bool) (entries : List HandleEntry) (entry : HandleEntry) → list_all is_kept entries ≡ true → find test entries ≡ Some entry → is_kept entry ≡ true
found_kept test [] entry all found = absurd cc
found_kept test (first ∷ entries) entry all found =
    let parts = and_parts (is_kept first) (list_all is_kept entries) all in
    found_more (test first) first entry (find test entries) parts.0 (λ later. found_kept test entries entry parts.1 later) found

-- at most as many protocols as a handle may have
pub few_protocols : (test : HandleEntry → Bool) (entries : List HandleEntry) (entry : HandleEntry) → list_all is_kept entries ≡ true → Some entry ≡ find test entries → length entry.interfaces ≤ MOST_INTERFACES
few_protocols test entries entry all found = (kept_parts entry (found_kept test entries entry all (sym found))).few
