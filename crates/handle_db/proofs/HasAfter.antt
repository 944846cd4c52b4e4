-- Which handles have a protocol after a change of one of them.
use Rattle.std.proofs.Common.{◌≡◌, ℕ, ◌+◌, Bool, true, false, not, cond, ◌&&◌, ◌||◌, nat_eq, nat_lt, List, [], ◌∷◌, ◌++◌, length, map, filter, find, take, drop, bytes_eq, Option, Some, None, refl, ap, sym, ◌∙◌, if◌then◌else◌, inl, inr, arith}
use Rattle.std.specs.List.{insert, list_any}
use Rattle.std.specs.Option.{option_map, option_or}
use Rattle.std.proofs.lemmas.Bool.{both_ways, eqb-true, eq-eqb, lt-ltb, le-ltb, cases_lt}
use Rattle.std.proofs.lemmas.List.{take-append-drop}
use Rattle.std.proofs.lemmas.List.Folds.{list_any-append, find-append}
use Rattle.std.proofs.lemmas.Slice.Eq.{bytes_eq-Decides}
use Rattle.handle_db.specs.Database.{has_any, has_in, interfaces_in, is_guid, is_handle, rise_from}
use Rattle.handle_db.specs.Installing.{appended, new_entry, with_interface}
use Rattle.handle_db.specs.OwnedInterfaces.{goes_with, without_interfaces_of}
use Rattle.handle_db.specs.Removing.{without_guid, without_interface}
use Rattle.handle_db.specs.Undoing.{inserted, with_back, with_entry}
use Rattle.handle_db.specs.declared.handle_entry.HandleEntry.{HandleEntry}
use Rattle.handle_db.specs.declared.handle_entry.Interface.{Interface}
use Rattle.handle_db.proofs.Keeping.{any-filter}
use Rattle.handle_db.proofs.OnlyOne.{find-after, find-none, or_parts}
use Rattle.handle_db.proofs.Order.{head_rises, none_below, rise_from-map}
use Rattle.handle_db.proofs.RemovalBack.{found_there, none_left, others}

-- ---- one entry changed

abbrev pub changed : ℕ → (HandleEntry → HandleEntry) → List HandleEntry → List HandleEntry
changed handle f entries = map (λ (entry : HandleEntry). if is_handle handle entry then f entry else entry) entries

module _ (handle number : ℕ) (f : HandleEntry → HandleEntry) (same : (entry : HandleEntry) → (f entry).handle ≡ entry.handle) where
  changed_first : (here : Bool) (first : HandleEntry) (rest : List HandleEntry) → is_handle handle first ≡ here
      → find (is_handle number) (changed handle f rest) ≡ cond (nat_eq handle number) (option_map f (find (is_handle number) rest)) (find (is_handle number) rest)
      → find (is_handle number) (changed handle f (first ∷ rest)) ≡ cond (nat_eq handle number) (option_map f (find (is_handle number) (first ∷ rest))) (find (is_handle number) (first ∷ rest))
  changed_first true first rest is later =
      rw is (ap (λ n. cond (nat_eq n number) (Some (f first)) (find (is_handle number) (changed handle f rest))) (same first)
      ∙ by_number (nat_eq handle number) refl later)
    where
      named : first.handle ≡ handle
      named = eqb-true first.handle handle is

      by_number : (b : Bool) → nat_eq handle number ≡ b
          → find (is_handle number) (changed handle f rest) ≡ cond (nat_eq handle number) (option_map f (find (is_handle number) rest)) (find (is_handle number) rest)
          → cond (nat_eq first.handle number) (Some (f first)) (find (is_handle number) (changed handle f rest))
          ≡ cond (nat_eq handle number) (option_map f (cond (nat_eq first.handle number) (Some first) (find (is_handle number) rest))) (cond (nat_eq first.handle number) (Some first) (find (is_handle number) rest))
      by_number true e later = rw (named, e) refl
      by_number false e later = rw (named, e) (rw e at later)
  changed_first false first rest is later = rw is (by_number (nat_eq handle number) (is_handle number first) refl refl later)
    where
      by_number : (b here : Bool) → nat_eq handle number ≡ b → is_handle number first ≡ here
          → find (is_handle number) (changed handle f rest) ≡ cond (nat_eq handle number) (option_map f (find (is_handle number) rest)) (find (is_handle number) rest)
          → cond (is_handle number first) (Some first) (find (is_handle number) (changed handle f rest))
          ≡ cond (nat_eq handle number) (option_map f (cond (is_handle number first) (Some first) (find (is_handle number) rest))) (cond (is_handle number first) (Some first) (find (is_handle number) rest))
      by_number true true e h later =
          let other : first.handle ≡ handle = eqb-true first.handle number h ∙ sym (eqb-true handle number e) in
          absurd (both_ways (is_handle handle first) is (eq-eqb first.handle handle other))
      by_number true false e h later = rw (e, h) (rw e at later)
      by_number false true e h later = rw (e, h) refl
      by_number false false e h later = rw (e, h) (rw e at later)

  pub find-changed : (entries : List HandleEntry) → find (is_handle number) (changed handle f entries) ≡ cond (nat_eq handle number) (option_map f (find (is_handle number) entries)) (find (is_handle number) entries)
  find-changed [] = elim (nat_eq handle number) as (λ b. None ≡ cond b (option_map f None) None) [ true ↦ refl | false ↦ refl ]
  find-changed (first ∷ rest) = changed_first (is_handle handle first) first rest refl (find-changed rest)

-- ---- handles without interfaces left out

module _ (number : ℕ) where
  left_first : (any here : Bool) (first : HandleEntry) (rest : List HandleEntry) → has_any first ≡ any → is_handle number first ≡ here → rise_from (first.handle + 1) rest ≡ true
      → interfaces_in (find (is_handle number) (filter has_any rest)) ≡ interfaces_in (find (is_handle number) rest)
      → interfaces_in (find (is_handle number) (cond any (first ∷ filter has_any rest) (filter has_any rest))) ≡ interfaces_in (cond here (Some first) (find (is_handle number) rest))
  left_first true true first rest any is rise later = rw is refl
  left_first true false first rest any is rise later = rw is later
  left_first false true first rest any is rise later =
      let named : first.handle ≡ number = eqb-true first.handle number is in
      let none : list_any (is_handle number) rest ≡ false = none_below (first.handle + 1) number rest rise (omega arith) in
      later ∙ ap interfaces_in (find-none (is_handle number) rest none) ∙ sym (empty first.interfaces any)
    where
      empty : (interfaces : List Interface) → nat_lt 0 (length interfaces) ≡ false → interfaces ≡ []
      empty [] any = refl
      empty (one ∷ more) any = absurd (both_ways (nat_lt 0 (length (one ∷ more))) any (lt-ltb 0 (length (one ∷ more)) (omega arith)))
  left_first false false first rest any is rise later = later

  pub interfaces_left : (low : ℕ) (entries : List HandleEntry) → rise_from low entries ≡ true → interfaces_in (find (is_handle number) (filter has_any entries)) ≡ interfaces_in (find (is_handle number) entries)
  interfaces_left low [] rise = refl
  interfaces_left low (first ∷ rest) rise =
      let above = head_rises low first rest rise in
      left_first (has_any first) (is_handle number first) first rest refl refl above.1 (interfaces_left (first.handle + 1) rest above.1)

-- ---- tests

or_last : (a b : Bool) → (a || (b || false)) ≡ cond b true a
or_last true true = refl
or_last true false = refl
or_last false true = refl
or_last false false = refl

or_middle : (a b c : Bool) → (a || (b || c)) ≡ cond b true (a || c)
or_middle true true c = refl
or_middle true false c = refl
or_middle false true c = refl
or_middle false false c = refl

any_pushed : (guid : List ℕ) (interfaces : List Interface) (new : Interface) → list_any (is_guid guid) (interfaces ++ new ∷ []) ≡ cond (bytes_eq new.guid guid) true (list_any (is_guid guid) interfaces)
any_pushed guid interfaces new = list_any-append (is_guid guid) interfaces (new ∷ []) ∙ or_last (list_any (is_guid guid) interfaces) (bytes_eq new.guid guid)

any_put : (guid : List ℕ) (interfaces : List Interface) (place : ℕ) (one : Interface) → list_any (is_guid guid) (insert interfaces place one) ≡ cond (bytes_eq one.guid guid) true (list_any (is_guid guid) interfaces)
any_put guid interfaces place one =
    let whole : list_any (is_guid guid) interfaces ≡ (list_any (is_guid guid) (take place interfaces) || list_any (is_guid guid) (drop place interfaces)) =
    ap (list_any (is_guid guid)) (sym (take-append-drop place interfaces)) ∙ list_any-append (is_guid guid) (take place interfaces) (drop place interfaces) in
    list_any-append (is_guid guid) (take place interfaces) (one ∷ drop place interfaces)
    ∙ or_middle (list_any (is_guid guid) (take place interfaces)) (bytes_eq one.guid guid) (list_any (is_guid guid) (drop place interfaces))
    ∙ ap (cond (bytes_eq one.guid guid) true) (sym whole)

others_first : (guid other : List ℕ) (first : Interface) (rest : List Interface) (here : Bool) → bytes_eq guid other ≡ false → is_guid guid first ≡ here → list_any (is_guid other) (others guid rest) ≡ list_any (is_guid other) rest
    → list_any (is_guid other) (cond (not here) (first ∷ others guid rest) (others guid rest)) ≡ (is_guid other first || list_any (is_guid other) rest)
others_first guid other first rest true apart is later =
    let named : first.guid ≡ guid = (bytes_eq-Decides first.guid guid).0 is in
    let fails : is_guid other first ≡ false = rw named apart in
    rw fails later
others_first guid other first rest false apart is later = ap (λ b. is_guid other first || b) later

others_same : (guid other : List ℕ) (interfaces : List Interface) → bytes_eq guid other ≡ false → list_any (is_guid other) (others guid interfaces) ≡ list_any (is_guid other) interfaces
others_same guid other [] apart = refl
others_same guid other (first ∷ rest) apart = others_first guid other first rest (is_guid guid first) apart refl (others_same guid other rest apart)

pub any_others : (guid other : List ℕ) (interfaces : List Interface) → list_any (is_guid other) (others guid interfaces) ≡ cond (bytes_eq guid other) false (list_any (is_guid other) interfaces)
any_others guid other interfaces = by_guid (bytes_eq guid other) refl
  where
    by_guid : (b : Bool) → bytes_eq guid other ≡ b → list_any (is_guid other) (others guid interfaces) ≡ cond b false (list_any (is_guid other) interfaces)
    by_guid true e = let same : guid ≡ other = (bytes_eq-Decides guid other).0 e in rw (← same) (none_left guid interfaces)
    by_guid false e = others_same guid other interfaces e

-- ---- the changes

-- a test that says which handle and protocol are named
abbrev pub is_it : ℕ → List ℕ → ℕ → List ℕ → Bool
is_it handle guid number other = bytes_eq guid other && nat_eq handle number

and_false : (b : Bool) → (b && false) ≡ false
and_false true = refl
and_false false = refl

and_true : (b : Bool) → (b && true) ≡ b
and_true true = refl
and_true false = refl

module _ (handle number : ℕ) (guid other : List ℕ) where
  -- one handle's interfaces changed, so that it has a protocol or lacks it
  changed_has : (value : Bool) (f : HandleEntry → HandleEntry) (same : (entry : HandleEntry) → (f entry).handle ≡ entry.handle) (entry : HandleEntry) (entries : List HandleEntry) → find (is_handle handle) entries ≡ Some entry
      → list_any (is_guid other) (f entry).interfaces ≡ cond (bytes_eq guid other) value (list_any (is_guid other) entry.interfaces)
      → has_in number other (changed handle f entries) ≡ cond (is_it handle guid number other) value (has_in number other entries)
  changed_has value f same entry entries found after = ap (λ one. list_any (is_guid other) (interfaces_in one)) (find-changed handle number f same entries) ∙ by_number (nat_eq handle number) refl
    where
      by_number : (b : Bool) → nat_eq handle number ≡ b
          → list_any (is_guid other) (interfaces_in (cond (nat_eq handle number) (option_map f (find (is_handle number) entries)) (find (is_handle number) entries)))
          ≡ cond (is_it handle guid number other) value (has_in number other entries)
      by_number true e =
          let named : handle ≡ number = eqb-true handle number e in
          let its : find (is_handle number) entries ≡ Some entry = rw (← named) found in
          rw (e, and_true (bytes_eq guid other), its) after
      by_number false e = rw (e, and_false (bytes_eq guid other)) refl

  -- a new handle after the others
  pub new_has : (new : Interface) (entries : List HandleEntry) → list_any (is_handle handle) entries ≡ false
      → has_in number other (entries ++ new_entry handle new ∷ []) ≡ cond (is_it handle new.guid number other) true (has_in number other entries)
  new_has new entries none = by_number (nat_eq handle number) refl
    where
      or_none : (one : Option HandleEntry) → option_or one None ≡ one
      or_none None = refl
      or_none (Some entry) = refl

      by_number : (b : Bool) → nat_eq handle number ≡ b → has_in number other (entries ++ new_entry handle new ∷ []) ≡ cond (is_it handle new.guid number other) true (has_in number other entries)
      by_number true e =
          let named : handle ≡ number = eqb-true handle number e in
          let nobody : list_any (is_handle number) entries ≡ false = rw (← named) none in
          let found : find (is_handle number) (entries ++ new_entry handle new ∷ []) ≡ Some (new_entry handle new) = find-after (is_handle number) entries (new_entry handle new) [] nobody e in
          let before : has_in number other entries ≡ false = ap (λ one. list_any (is_guid other) (interfaces_in one)) (find-none (is_handle number) entries nobody) in
          ap (λ one. list_any (is_guid other) (interfaces_in one)) found ∙ or_last false (bytes_eq new.guid other)
          ∙ sym (ap (λ b. cond b true (has_in number other entries)) (ap (λ b. bytes_eq new.guid other && b) e ∙ and_true (bytes_eq new.guid other)) ∙ ap (cond (bytes_eq new.guid other) true) before)
      by_number false e =
          let alone : find (is_handle number) (new_entry handle new ∷ []) ≡ None = rw e refl in
          let found : find (is_handle number) (entries ++ new_entry handle new ∷ []) ≡ find (is_handle number) entries =
          find-append (is_handle number) entries (new_entry handle new ∷ []) ∙ ap (option_or (find (is_handle number) entries)) alone ∙ or_none (find (is_handle number) entries) in
          ap (λ one. list_any (is_guid other) (interfaces_in one)) found
          ∙ sym (ap (λ b. cond b true (has_in number other entries)) (ap (λ b. bytes_eq new.guid other && b) e ∙ and_false (bytes_eq new.guid other)))

  -- a handle among the others
  among : (new : HandleEntry) (entries : List HandleEntry) → list_any (is_handle new.handle) entries ≡ false → find (is_handle number) (with_entry new entries) ≡ cond (nat_eq new.handle number) (Some new) (find (is_handle number) entries)
  among new [] none = refl
  among new (first ∷ rest) none =
      let apart = or_parts (is_handle new.handle first) (list_any (is_handle new.handle) rest) none in
      elim (cases_lt new.handle first.handle) [
        | inl less ↦ rw (lt-ltb new.handle first.handle less) refl
        | inr most ↦ rw (le-ltb new.handle first.handle most) (later (nat_eq new.handle number) (is_handle number first) refl refl apart.0 (among new rest apart.1))
      ]
    where
      later : (b here : Bool) → nat_eq new.handle number ≡ b → is_handle number first ≡ here → is_handle new.handle first ≡ false
          → find (is_handle number) (with_entry new rest) ≡ cond (nat_eq new.handle number) (Some new) (find (is_handle number) rest)
          → cond (is_handle number first) (Some first) (find (is_handle number) (with_entry new rest)) ≡ cond (nat_eq new.handle number) (Some new) (cond (is_handle number first) (Some first) (find (is_handle number) rest))
      later true true e h apart rest_is =
          let other : first.handle ≡ new.handle = eqb-true first.handle number h ∙ sym (eqb-true new.handle number e) in
          absurd (both_ways (is_handle new.handle first) apart (eq-eqb first.handle new.handle other))
      later true false e h apart rest_is = rw (e, h) (rw e at rest_is)
      later false true e h apart rest_is = rw (e, h) refl
      later false false e h apart rest_is = rw (e, h) (rw e at rest_is)

  among_has : (new : Interface) (entries : List HandleEntry) → list_any (is_handle handle) entries ≡ false
      → has_in number other (with_entry (new_entry handle new) entries) ≡ cond (is_it handle new.guid number other) true (has_in number other entries)
  among_has new entries none = ap (λ one. list_any (is_guid other) (interfaces_in one)) (among (new_entry handle new) entries none) ∙ by_number (nat_eq handle number) refl
    where
      by_number : (b : Bool) → nat_eq handle number ≡ b
          → list_any (is_guid other) (interfaces_in (cond (nat_eq handle number) (Some (new_entry handle new)) (find (is_handle number) entries))) ≡ cond (is_it handle new.guid number other) true (has_in number other entries)
      by_number true e =
          let named : handle ≡ number = eqb-true handle number e in
          let nobody : list_any (is_handle number) entries ≡ false = rw (← named) none in
          let before : has_in number other entries ≡ false = ap (λ one. list_any (is_guid other) (interfaces_in one)) (find-none (is_handle number) entries nobody) in
          rw (e, and_true (bytes_eq new.guid other), before) (or_last false (bytes_eq new.guid other))
      by_number false e = rw (e, and_false (bytes_eq new.guid other)) refl

-- ---- the database's changes

kept_number : (handle : ℕ) (f : HandleEntry → HandleEntry) → ((entry : HandleEntry) → (f entry).handle ≡ entry.handle) → (entry : HandleEntry) → (if is_handle handle entry then f entry else entry).handle ≡ entry.handle
kept_number handle f same entry = elim (is_handle handle entry) as (λ b. (if b then f entry else entry).handle ≡ entry.handle) [ true ↦ same entry | false ↦ refl ]

module _ (handle number : ℕ) (other : List ℕ) (entries : List HandleEntry) where
  pub installed_has : (new : Interface) → list_any (is_handle handle) entries ≡ true → has_in number other (with_interface handle new entries) ≡ cond (is_it handle new.guid number other) true (has_in number other entries)
  installed_has new live =
      let entry = found_there (is_handle handle) entries live in
      changed_has handle number new.guid other true (appended new) (λ e. refl) entry.0 entries entry.1 (any_pushed other entry.0.interfaces new)

  pub removed_has : (guid : List ℕ) → rise_from 1 entries ≡ true → list_any (is_handle handle) entries ≡ true → has_in number other (without_interface handle guid entries) ≡ cond (is_it handle guid number other) false (has_in number other entries)
  removed_has guid rise live =
      let entry = found_there (is_handle handle) entries live in
      let rising : rise_from 1 (changed handle (without_guid guid) entries) ≡ true =
      rise_from-map (λ (e : HandleEntry). if is_handle handle e then without_guid guid e else e) (kept_number handle (without_guid guid) (λ e. refl)) 1 entries ∙ rise in
      ap (list_any (is_guid other)) (interfaces_left number 1 (changed handle (without_guid guid) entries) rising)
      ∙ changed_has handle number guid other false (without_guid guid) (λ e. refl) entry.0 entries entry.1 (any_others guid other entry.0.interfaces)

  pub back_has : (live : Bool) (place : ℕ) (one : Interface) → list_any (is_handle handle) entries ≡ live → has_in number other (with_back (not live) handle place one entries) ≡ cond (is_it handle one.guid number other) true (has_in number other entries)
  back_has true place one live =
      let entry = found_there (is_handle handle) entries live in
      changed_has handle number one.guid other true (inserted place one) (λ e. refl) entry.0 entries entry.1 (any_put other entry.0.interfaces place one)
  back_has false place one live = among_has handle number one.guid other one entries live

-- the interfaces of an image are fewer
find-map : (number : ℕ) (f : HandleEntry → HandleEntry) → ((entry : HandleEntry) → (f entry).handle ≡ entry.handle) → (entries : List HandleEntry) → find (is_handle number) (map f entries) ≡ option_map f (find (is_handle number) entries)
find-map number f same [] = refl
find-map number f same (first ∷ rest) = ap (λ n. cond (nat_eq n number) (Some (f first)) (find (is_handle number) (map f rest))) (same first) ∙ by_first (is_handle number first) (find-map number f same rest)
  where
    by_first : (here : Bool) → find (is_handle number) (map f rest) ≡ option_map f (find (is_handle number) rest)
        → cond here (Some (f first)) (find (is_handle number) (map f rest)) ≡ option_map f (cond here (Some first) (find (is_handle number) rest))
    by_first true later = refl
    by_first false later = later

fewer_in : (image : ℕ) (own other : List ℕ) (one : Option HandleEntry) → list_any (is_guid other) (interfaces_in one) ≡ false → list_any (is_guid other) (interfaces_in (option_map (without_interfaces_of image own) one)) ≡ false
fewer_in image own other None none = refl
fewer_in image own other (Some entry) none = any-filter (λ (one : Interface). not (goes_with image own entry.handle one)) (is_guid other) entry.interfaces none

both_are : (left had : Bool) → (had ≡ false → left ≡ false) → (left && had) ≡ left
both_are left true fewer = and_true left
both_are left false fewer = and_false left ∙ sym (fewer refl)

pub owned_has : (image number : ℕ) (own other : List ℕ) (entries : List HandleEntry) → rise_from 1 entries ≡ true
    → let left = filter has_any (map (without_interfaces_of image own) entries) in (has_in number other left && has_in number other entries) ≡ has_in number other left
owned_has image number own other entries rise =
    let left : List HandleEntry = filter has_any (map (without_interfaces_of image own) entries) in
    let rising : rise_from 1 (map (without_interfaces_of image own) entries) ≡ true = rise_from-map (without_interfaces_of image own) (λ e. refl) 1 entries ∙ rise in
    let its : has_in number other left ≡ list_any (is_guid other) (interfaces_in (option_map (without_interfaces_of image own) (find (is_handle number) entries))) =
    ap (list_any (is_guid other)) (interfaces_left number 1 (map (without_interfaces_of image own) entries) rising ∙ ap interfaces_in (find-map number (without_interfaces_of image own) (λ e. refl) entries)) in
    both_are (has_in number other left) (has_in number other entries) (λ none. its ∙ fewer_in image own other (find (is_handle number) entries) none)
