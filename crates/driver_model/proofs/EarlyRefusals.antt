-- Uninstalls of several interfaces that are refused early: up to the pair that is refused, interfaces are removed with
-- their records.
use Rattle.std.proofs.Common.{◌≡◌, ℕ, Bool, true, false, not, cond, ◌&&◌, ◌||◌, nat_eq, List, [], ◌∷◌, ◌++◌, map, filter, Option, Some, None, option_map, refl, ap, sym, subst, ◌∙◌, if◌then◌else◌, inl, inr}
use Rattle.std.specs.List.{list_any, list_all}
use Rattle.std.proofs.lemmas.Bool.{and_parts, eqb-true, not-true, or_cases, or_parts}
use Rattle.std.proofs.lemmas.List.Folds.{list_any-append}
use Rattle.fw_types.specs.Attr.{has_bit_of, is_legal, legal_attributes}
use Rattle.fw_types.specs.declared.attr.TheConstants.Attr.{AGENT_BITS, ALL_BITS, BY_DRIVER, WEAK_BITS}
use Rattle.fw_types.specs.declared.status.Status.{Status}
use Rattle.fw_types.specs.declared.status.TheConstants.Status.{ABORTED, ACCESS_DENIED, INVALID_PARAMETER, NOT_FOUND, OUT_OF_RESOURCES, SUCCESS}
use Rattle.handle_db.specs.Database.{IsSound, is_live}
use Rattle.handle_db.specs.Removing.{removed}
use Rattle.handle_db.proofs.Keeping.{removing}
use Rattle.handle_db.proofs.OnlyOne.{find-none}
use Rattle.open_records.specs.declared.open_record.Rec.{Rec}
use Rattle.open_records.specs.declared.open_record.KeyedRecord.{KeyedRecord}
use Rattle.open_records.specs.Keyed.{is_of, is_same}
use Rattle.open_records.proofs.ListLemmas.{any_filter, any_of_filter, filter_none}
use Rattle.open_records.specs.OpenRecords.{RecordTable, is_kept, records_of}
use Rattle.open_records.specs.Leaving.{cut, is_meant, is_named, swept}
use Rattle.open_records.specs.Managing.{is_managing}
use Rattle.world_model.specs.World.{State}
use Rattle.world_model.specs.Interfaces.{firmware}
use Rattle.world_model.specs.Kept.{IsKept}
use Rattle.world_model.proofs.Segments.{list_any-neither}
use Rattle.service_model.specs.declared.call.HandleInterface.{HandleInterface}
use Rattle.driver_model.specs.Moves.{changed, drops_weak, plain, uninstalls}
use Rattle.driver_model.specs.Level.{Level}
use Rattle.driver_model.specs.UninstallWithReconnection.{after_release, all_or_none, each_uninstalled, if_uninstalled, interface_on, is_first_there, is_kept_from, is_still_there, many_uninstalled, manager_on, records_on, released, taken_away, uninstalled, unless_open}
use Rattle.driver_model.specs.OpenWithRemoval.{is_passed_on}
use Rattle.driver_model.specs.EarlyRefusal.{EarlyRefusalsChangeNothing, IsRefused, LateRefusalsChangeTheSoftPartAlone, is_in_use, is_listed, is_refused_after, refused_after}
use Rattle.driver_model.specs.declared.call.Scope.{Scope}
use Rattle.driver_model.specs.declared.request.Remover.TheVariants.{ADriver}
use Rattle.driver_model.specs.declared.settings.Settings.{Settings}
use Rattle.driver_model.proofs.InterfaceAfter.{removal-leaves}

-- ---- lists

any_in_filter : {X Y : Type 0} (f : X → Y) (p : X → Bool) (q : Y → Bool) (xs : List X) → list_any (λ x. p x && q (f x)) xs ≡ false → list_any q (map f (filter p xs)) ≡ false
any_in_filter f p q [] none = refl
any_in_filter f p q (x ∷ xs) none =
    let parts = or_parts (p x && q (f x)) (list_any (λ y. p y && q (f y)) xs) none in
    by_test (p x) parts.0 (any_in_filter f p q xs parts.1)
  where
    by_test : (b : Bool) → (b && q (f x)) ≡ false → list_any q (map f (filter p xs)) ≡ false → list_any q (map f (cond b (x ∷ filter p xs) (filter p xs))) ≡ false
    by_test true fails later = rw (fails, later) refl
    by_test false fails later = later

-- if all that pass one test pass another, none is left without those that pass both
none_stay : {X : Type 0} (p q : X → Bool) (xs : List X) → list_any (λ x. p x && not (q x)) xs ≡ false → list_any p (filter (λ x. not (p x && q x)) xs) ≡ false
none_stay p q [] none = refl
none_stay p q (x ∷ xs) none =
    let parts = or_parts (p x && not (q x)) (list_any (λ y. p y && not (q y)) xs) none in
    by_tests (p x) (q x) refl parts.0 (none_stay p q xs parts.1)
  where
    by_tests : (a b : Bool) → p x ≡ a → (a && not b) ≡ false → list_any p (filter (λ y. not (p y && q y)) xs) ≡ false
        → list_any p (cond (not (a && b)) (x ∷ filter (λ y. not (p y && q y)) xs) (filter (λ y. not (p y && q y)) xs)) ≡ false
    by_tests true true is fails later = later
    by_tests true false is fails later = absurd cc
    by_tests false b is fails later = rw (is, later) refl

-- ---- records by which nobody uses the interface

-- a legal attribute has one of the weak bits and not BY_DRIVER, or one of the other bits
abbrev is_either : ℕ → Bool
is_either bits = has_bit_of AGENT_BITS bits || has_bit_of WEAK_BITS bits && not (has_bit_of BY_DRIVER bits)

either_of : (bits : ℕ) (numbers : List ℕ) → list_any (nat_eq bits) numbers ≡ true → list_all is_either numbers ≡ true → is_either bits ≡ true
either_of bits [] some all = absurd cc
either_of bits (number ∷ numbers) some all =
    let parts = and_parts (is_either number) (list_all is_either numbers) all in
    elim (or_cases (nat_eq bits number) (list_any (nat_eq bits) numbers) some) [
      | inl same ↦ ap is_either (eqb-true bits number same) ∙ parts.0
      | inr more ↦ either_of bits numbers more parts.1
    ]

weak_alone : (bits : ℕ) → is_legal bits ≡ true → has_bit_of AGENT_BITS bits ≡ false → (has_bit_of WEAK_BITS bits ≡ true) × (has_bit_of BY_DRIVER bits ≡ false)
weak_alone bits legal unused =
    let either : is_either bits ≡ true = either_of bits legal_attributes legal refl in
    let weak : (has_bit_of WEAK_BITS bits && not (has_bit_of BY_DRIVER bits)) ≡ true = rw unused at either in
    let parts = and_parts (has_bit_of WEAK_BITS bits) (not (has_bit_of BY_DRIVER bits)) weak in
    (parts.0, not-true (has_bit_of BY_DRIVER bits) parts.1)

abbrev is_weak : Rec → Bool
is_weak rec = is_meant None None WEAK_BITS rec

module _ (handle : ℕ) (guid : List ℕ) (entries : List KeyedRecord) (kept : list_all is_kept entries ≡ true) (unused : list_any (is_meant None None AGENT_BITS) (records_of entries handle guid) ≡ false) where
  none_in_use : list_any (λ (one : KeyedRecord). is_of handle guid one && is_meant None None AGENT_BITS one.rec) entries ≡ false
  none_in_use = any_of_filter (λ (one : KeyedRecord). one.rec) (is_of handle guid) (is_meant None None AGENT_BITS) entries unused

  both_alone : (one : KeyedRecord) → is_kept one ≡ true → (is_of handle guid one && is_meant None None AGENT_BITS one.rec) ≡ false
      → ((is_of handle guid one && not (is_weak one.rec)) ≡ false) × ((is_of handle guid one && is_managing one.rec) ≡ false)
  both_alone one kept fails = by_place (is_of handle guid one) fails
    where
      by_place : (here : Bool) → (here && is_meant None None AGENT_BITS one.rec) ≡ false
          → ((here && not (is_weak one.rec)) ≡ false) × ((here && is_managing one.rec) ≡ false)
      by_place true fails =
          let legal = (and_parts (is_legal one.rec.attr) _ kept).0 in
          let alone = weak_alone one.rec.attr legal fails in
          (ap not alone.0, alone.1)
      by_place false fails = (refl, refl)

  pub none_strong : list_any (λ (one : KeyedRecord). is_of handle guid one && not (is_weak one.rec)) entries ≡ false
  none_strong =
      list_any-neither is_kept (λ (one : KeyedRecord). is_of handle guid one && is_meant None None AGENT_BITS one.rec) (λ (one : KeyedRecord). is_of handle guid one && not (is_weak one.rec)) entries
      (λ one k fails. (both_alone one k fails).0) kept none_in_use

  pub none_manages : list_any (λ (one : KeyedRecord). is_of handle guid one && is_managing one.rec) entries ≡ false
  none_manages =
      list_any-neither is_kept (λ (one : KeyedRecord). is_of handle guid one && is_meant None None AGENT_BITS one.rec) (λ (one : KeyedRecord). is_of handle guid one && is_managing one.rec) entries
      (λ one k fails. (both_alone one k fails).1) kept none_in_use

-- ---- a state some pairs later

-- The earlier pairs are gone, every other interface is as at first, and there are no other records. The hard part is as
-- at first.
record IsLater (first : State) (before : List HandleInterface) (w : State) : Type 0 where
  sound : IsSound w.soft.database
  interfaces : (i : HandleInterface) → interface_on i w.soft ≡ (if is_listed i before then None else interface_on i first.soft)
  fewer : (test : KeyedRecord → Bool) → list_any test first.soft.records.entries ≡ false → list_any test w.soft.records.entries ≡ false
  hard : w.hard ≡ first.hard

abbrev gone : HandleInterface → State → State
gone i w = changed (uninstalls i.handle i.guid) (changed (drops_weak i.handle i.guid) w)

module _ (first : State) (before : List HandleInterface) (i : HandleInterface) (w : State) (later : IsLater first before w) where
  found_later : (j : HandleInterface) → interface_on j (gone i w).soft ≡ (if is_listed j (before ++ i ∷ []) then None else interface_on j first.soft)
  found_later j =
      removal-leaves i.handle i.guid j.handle j.guid w.soft.database later.sound
      ∙ by_tests (is_listed j before) (is_same i.handle i.guid j.handle j.guid) (interface_on j w.soft) (interface_on j first.soft) (later.interfaces j)
      ∙ sym (ap (λ (b : Bool). if b then None else interface_on j first.soft) (list_any-append (λ (one : HandleInterface). is_same one.handle one.guid j.handle j.guid) before (i ∷ [])))
    where
      by_tests : (listed same : Bool) (found was : Option (ℕ × ℕ)) → found ≡ (if listed then None else was)
          → (if same then None else found) ≡ (if listed || (same || false) then None else was)
      by_tests true true found was is = refl
      by_tests true false found was is = is
      by_tests false true found was is = refl
      by_tests false false found was is = is

  fewer_later : (test : KeyedRecord → Bool) → list_any test first.soft.records.entries ≡ false → list_any test (gone i w).soft.records.entries ≡ false
  fewer_later test none =
      let without_weak = any_filter (λ (one : KeyedRecord). not (is_of i.handle i.guid one && is_weak one.rec)) test w.soft.records.entries (later.fewer test none) in
      let left : RecordTable = cut i.handle i.guid (is_meant None None ALL_BITS) (cut i.handle i.guid is_weak w.soft.records) in
      let with_none : list_any test left.entries ≡ false =
      any_filter (λ (one : KeyedRecord). not (is_of i.handle i.guid one && is_meant None None ALL_BITS one.rec)) test (cut i.handle i.guid is_weak w.soft.records).entries without_weak in
      by_live (is_live i.handle (removed i.handle i.guid w.soft.database)) left with_none
    where
      by_live : (live : Bool) (left : RecordTable) → list_any test left.entries ≡ false → list_any test (if live then left else swept i.handle left).entries ≡ false
      by_live true left none = none
      by_live false left none = any_filter (λ (one : KeyedRecord). not (is_named i.handle one.rec)) test left.entries none

  is_later : IsLater first (before ++ i ∷ []) (gone i w)
  is_later = record {
    sound = removing i.handle i.guid w.soft.database later.sound;
    interfaces = found_later;
    fewer = fewer_later;
    hard = later.hard;
  }

-- ---- one pair

module _ (settings : Settings) (below : Option (Level State)) (scope : Scope) (first : State) (kept : IsKept first.soft) where
  module _ (before : List HandleInterface) (i : HandleInterface) (w : State) (later : IsLater first before w) where
    abbrev told : (there firmware : Bool) → Status × State → Status × State
    told there firmware rest = if not there then (NOT_FOUND, w) else if firmware then (ACCESS_DENIED, w) else rest

    abbrev answer : Option (ℕ × ℕ) → Status × State
    answer found = told (is_first_there ADriver i.interface found) (is_kept_from ADriver found) (after_release plain settings below scope ADriver i (released plain below scope i (manager_on i w.soft) w))

    refused_here : (others : State → Bool × State) → is_refused_after before i first.soft ≡ true
        → if_uninstalled plain others (uninstalled plain settings below scope ADriver i w) ≡ (false, w)
    unfolding uninstalled
    refused_here others refused = ap (λ (found : Option (ℕ × ℕ)). if_uninstalled plain others (answer found)) (later.interfaces i) ∙ by_listed (is_listed i before) refused
      where
        by_tests : (there firmware : Bool) (last : Status × State) → (not there || firmware) ≡ true → if_uninstalled plain others (told there firmware last) ≡ (false, w)
        by_tests false firmware last is = refl
        by_tests true true last is = refl
        by_tests true false last is = absurd cc

        by_listed : (listed : Bool) → (listed || not (is_first_there ADriver i.interface (interface_on i first.soft)) || is_kept_from ADriver (interface_on i first.soft)) ≡ true
            → if_uninstalled plain others (answer (if listed then None else interface_on i first.soft)) ≡ (false, w)
        by_listed true is = refl
        by_listed false is = by_tests (is_first_there ADriver i.interface (interface_on i first.soft)) (is_kept_from ADriver (interface_on i first.soft)) (after_release plain settings below scope ADriver i (released plain below scope i (manager_on i w.soft) w)) is

    module _ (unused : is_in_use i first.soft ≡ false) where
      no_manager : manager_on i w.soft ≡ None
      no_manager =
          ap (option_map (λ (rec : Rec). rec.agent))
          (find-none is_managing (records_on i w.soft)
          (any_in_filter (λ (one : KeyedRecord). one.rec) (is_of i.handle i.guid) is_managing w.soft.records.entries
          (later.fewer (λ (one : KeyedRecord). is_of i.handle i.guid one && is_managing one.rec) (none_manages i.handle i.guid first.soft.records.entries kept.records.sound.kept unused))))

      none_left : records_on i (changed (drops_weak i.handle i.guid) w).soft ≡ []
      none_left =
          ap (map (λ (one : KeyedRecord). one.rec))
          (filter_none (is_of i.handle i.guid) (filter (λ (one : KeyedRecord). not (is_of i.handle i.guid one && is_weak one.rec)) w.soft.records.entries)
          (none_stay (is_of i.handle i.guid) (λ (one : KeyedRecord). is_weak one.rec) w.soft.records.entries
          (later.fewer (λ (one : KeyedRecord). is_of i.handle i.guid one && not (is_weak one.rec)) (none_strong i.handle i.guid first.soft.records.entries kept.records.sound.kept unused))))

      taken : taken_away plain settings below scope i (changed (drops_weak i.handle i.guid) w) ≡ (SUCCESS, gone i w)
      unfolding taken_away
      taken = ap (λ (records : List Rec). unless_open plain settings below scope i records (changed (drops_weak i.handle i.guid) w)) none_left

      still : (found : Option (ℕ × ℕ)) → is_first_there ADriver i.interface found ≡ true → is_kept_from ADriver found ≡ false → is_still_there ADriver i.interface found ≡ true
      still None there free = absurd cc
      still (Some found) there free = rw (there, free) refl

      after : (status : Status) → is_passed_on status ≡ false → is_still_there ADriver i.interface (interface_on i w.soft) ≡ true
          → after_release plain settings below scope ADriver i (status, w) ≡ (SUCCESS, gone i w)
      unfolding after_release
      after status answered there =
          ap (λ (b : Bool). if b then (status, w) else if is_still_there ADriver i.interface (interface_on i w.soft) then taken_away plain settings below scope i (changed (drops_weak i.handle i.guid) w) else (NOT_FOUND, w)) answered
          ∙ ap (λ (b : Bool). if b then taken_away plain settings below scope i (changed (drops_weak i.handle i.guid) w) else (NOT_FOUND, w)) there ∙ taken

      goes : is_refused_after before i first.soft ≡ false → uninstalled plain settings below scope ADriver i w ≡ (SUCCESS, gone i w)
      unfolding uninstalled
      goes fine =
          let tests = or_parts (is_listed i before || not (is_first_there ADriver i.interface (interface_on i first.soft))) (is_kept_from ADriver (interface_on i first.soft)) fine in
          let parts = or_parts (is_listed i before) (not (is_first_there ADriver i.interface (interface_on i first.soft))) tests.0 in
          let same : interface_on i w.soft ≡ interface_on i first.soft =
          later.interfaces i ∙ ap (λ (b : Bool). if b then None else interface_on i first.soft) parts.0 in
          let there : is_first_there ADriver i.interface (interface_on i w.soft) ≡ true = ap (is_first_there ADriver i.interface) same ∙ positive (is_first_there ADriver i.interface (interface_on i first.soft)) parts.1 in
          let free : is_kept_from ADriver (interface_on i w.soft) ≡ false = ap (is_kept_from ADriver) same ∙ tests.1 in
          through (is_first_there ADriver i.interface (interface_on i w.soft)) (is_kept_from ADriver (interface_on i w.soft)) (after_release plain settings below scope ADriver i (released plain below scope i (manager_on i w.soft) w)) there free
          ∙ ap (λ (manager : Option ℕ). after_release plain settings below scope ADriver i (released plain below scope i manager w)) no_manager
          ∙ after SUCCESS refl (still (interface_on i w.soft) there free)
        where
          positive : (b : Bool) → not b ≡ false → b ≡ true
          positive true is = refl
          positive false is = absurd cc

          through : (there firmware : Bool) (rest : Status × State) → there ≡ true → firmware ≡ false → told there firmware rest ≡ rest
          through true false rest t f = refl
          through true true rest t f = absurd cc
          through false firmware rest t f = absurd cc

  -- ---- all pairs

  abbrev Ends : Bool × State → Type 0
  Ends r = (r.0 ≡ false) × (r.1.hard ≡ first.hard)

  each_ends : (interfaces before : List HandleInterface) (w : State) → IsLater first before w → refused_after before interfaces first.soft ≡ true
      → Ends (each_uninstalled plain settings below scope ADriver interfaces w)
  unfolding each_uninstalled
  each_ends [] before w later refused = absurd cc
  each_ends (i ∷ interfaces) before w later refused =
      by_tests (is_refused_after before i first.soft) (is_in_use i first.soft) refl refl refused (each_ends interfaces (before ++ i ∷ []) (gone i w) (is_later first before i w later))
    where
      by_tests : (here used : Bool) → is_refused_after before i first.soft ≡ here → is_in_use i first.soft ≡ used
          → (here || not used && refused_after (before ++ i ∷ []) interfaces first.soft) ≡ true
          → (refused_after (before ++ i ∷ []) interfaces first.soft ≡ true → Ends (each_uninstalled plain settings below scope ADriver interfaces (gone i w)))
          → Ends (if_uninstalled plain (each_uninstalled plain settings below scope ADriver interfaces) (uninstalled plain settings below scope ADriver i w))
      by_tests true used e u refused more =
          subst Ends (sym (refused_here before i w later (each_uninstalled plain settings below scope ADriver interfaces) e)) (refl, later.hard)
      by_tests false true e u refused more = absurd cc
      by_tests false false e u refused more =
          subst (λ (r : Status × State). Ends (if_uninstalled plain (each_uninstalled plain settings below scope ADriver interfaces) r)) (sym (goes before i w later u e)) (more refused)

-- with no pair gone
at_first : (w : State) → IsKept w.soft → IsLater w [] w
at_first w kept = record {
  sound = kept.database.sound;
  interfaces = λ i. refl;
  fewer = λ test none. none;
  hard = refl;
}

put_back : (w : State) (r : Bool × State) → r.0 ≡ false → r.1.hard ≡ w.hard → all_or_none plain w.soft r ≡ (INVALID_PARAMETER, w)
put_back w (true, last) ended same = absurd cc
put_back w (false, last) ended same = ap (λ hard. (INVALID_PARAMETER, record w { hard = hard })) same

pub early-law : EarlyRefusalsChangeNothing
unfolding many_uninstalled
early-law settings below scope interfaces w kept refused =
    let ends = each_ends settings below scope w kept interfaces [] w (at_first w kept) refused in
    put_back w (each_uninstalled plain settings below scope ADriver interfaces w) ends.0 ends.1

-- ---- after a driver was disconnected

-- what a driver may remove at the second look, it may remove at the first
first-too : (interface : ℕ) (found : Option (ℕ × ℕ)) → is_still_there ADriver interface found ≡ true
    → (not (is_first_there ADriver interface found) || is_kept_from ADriver found) ≡ false
first-too interface None there = absurd cc
first-too interface (Some found) there =
    let parts = and_parts (nat_eq found.0 interface) (not (nat_eq found.1 firmware)) there in
    rw (parts.0, not-true (nat_eq found.1 firmware) parts.1) refl

not_used : (used refused : Bool) → (not used && refused) ≡ true → (used ≡ false) × (refused ≡ true)
not_used true refused is = absurd cc
not_used false refused is = (refl, is)

-- what is passed on is no success
passed_fails : (status : Status) → is_passed_on status ≡ true → nat_eq status.0 SUCCESS.0 ≡ false
passed_fails status is =
    elim (or_cases (nat_eq status.0 OUT_OF_RESOURCES.0) (nat_eq status.0 ABORTED.0) is) [
      | inl out ↦ ap (λ (number : ℕ). nat_eq number SUCCESS.0) (eqb-true status.0 OUT_OF_RESOURCES.0 out)
      | inr aborted ↦ ap (λ (number : ℕ). nat_eq number SUCCESS.0) (eqb-true status.0 ABORTED.0 aborted)
    ]

-- the disconnect's answer is passed on, or the first pair is refused, or it goes
pub late-law : LateRefusalsChangeTheSoftPartAlone
unfolding after_release
late-law settings below scope i interfaces status w kept refused =
    by_answer (is_passed_on status) refl
  where
    others : State → Bool × State
    others = each_uninstalled plain settings below scope ADriver interfaces

    Ended : Status × State → Type 0
    Ended r = IsRefused w.hard (if_uninstalled plain others r)

    by_look : (there : Bool) → is_passed_on status ≡ false → is_still_there ADriver i.interface (interface_on i w.soft) ≡ there
        → Ended (after_release plain settings below scope ADriver i (status, w))
    by_look false answered is =
        let absent : after_release plain settings below scope ADriver i (status, w) ≡ (NOT_FOUND, w) = rw (answered, is) refl in
        subst Ended (sym absent) (record { answer = refl; hard = refl })
    by_look true answered is =
        let fine : is_refused_after [] i w.soft ≡ false = first-too i.interface (interface_on i w.soft) is in
        let parts : (is_in_use i w.soft ≡ false) × (refused_after (i ∷ []) interfaces w.soft ≡ true) = not_used (is_in_use i w.soft) (refused_after (i ∷ []) interfaces w.soft) (rw fine at refused) in
        let ends = each_ends settings below scope w kept interfaces (i ∷ []) (gone i w) (is_later w [] i w (at_first w kept)) parts.1 in
        subst Ended (sym (after settings below scope w kept [] i w (at_first w kept) parts.0 status answered is))
        (record { answer = ends.0; hard = ends.1 })

    by_answer : (passed : Bool) → is_passed_on status ≡ passed → Ended (after_release plain settings below scope ADriver i (status, w))
    by_answer true is =
        let failed : nat_eq status.0 SUCCESS.0 ≡ false = passed_fails status is in
        let answer : after_release plain settings below scope ADriver i (status, w) ≡ (status, w) = rw is refl in
        subst Ended (sym answer) (rw failed (record { answer = refl; hard = refl }))
    by_answer false is = by_look (is_still_there ADriver i.interface (interface_on i w.soft)) is refl
