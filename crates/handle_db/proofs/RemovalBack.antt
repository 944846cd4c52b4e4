-- Taking a removal back: the interfaces of one handle, and then all handles.
use Rattle.std.proofs.Common.{◌≡◌, ◌<◌, ◌≤◌, ◌≢◌, ℕ, suc, one-add, ◌+◌, Bool, true, false, not, cond, ◌||◌, nat_eq, nat_lt, List, [], ◌∷◌, length, filter, find, Option, Some, None, Ok, Err, refl, ap, sym, ◌∙◌, if◌then◌else◌, inl, inr, arith}
use Rattle.std.specs.List.{insert, list_any, list_all, position_or_len}
use Rattle.std.proofs.lemmas.Bool.{and_parts, both_ways, cases_lt, eq-eqb, eqb-true, le-ltb, lt-ltb, ltb-true, ne_eqb, not-true}
use Rattle.std.proofs.lemmas.List.{nil_from_length}
use Rattle.std.proofs.lemmas.Slice.Eq.{bytes_eq-Decides}
use Rattle.handle_db.specs.Database.{Database, IsSound, differ, has_any, interfaces_in, interfaces_of, is_below, is_guid, is_handle, is_kept, is_live, rise_from}
use Rattle.handle_db.specs.Installing.{new_entry}
use Rattle.handle_db.specs.Removing.{remove_answer, removal_of, removed, without_guid, without_interface}
use Rattle.handle_db.specs.Undoing.{HasRoomFor, inserted, interface_again, remove_undone, with_entry, with_removed}
use Rattle.handle_db.specs.declared.handle_entry.HandleEntry.{HandleEntry}
use Rattle.handle_db.specs.declared.refusal.Removed.{Removed}
use Rattle.handle_db.specs.declared.handle_entry.Interface.{Interface}
use Rattle.handle_db.specs.declared.refusal.DbRefusal.TheVariants.{BadHandle}
use Rattle.handle_db.proofs.Keeping.{kept_parts}
use Rattle.handle_db.proofs.OnlyOne.{filter-none, find-none, map-changed-none, or_parts}
use Rattle.handle_db.proofs.Order.{head_rises, none_below}

abbrev pub others : List ℕ → List Interface → List Interface
others guid interfaces = filter (λ (one : Interface). not (is_guid guid one)) interfaces

-- an interface that is taken out can be put back at its place
pub record IsBack (guid : List ℕ) (one : Interface) (interfaces : List Interface) : Type 0 where
  pub back : insert (others guid interfaces) (position_or_len (is_guid guid) interfaces) one ≡ interfaces
  pub count : length (others guid interfaces) + 1 ≡ length interfaces
  pub place : position_or_len (is_guid guid) interfaces ≤ length (others guid interfaces)
  pub named : one.guid ≡ guid

back_more : (guid : List ℕ) (one first : Interface) (rest : List Interface) (here : Bool) → is_guid guid first ≡ here → list_any (is_guid first.guid) rest ≡ false
    → cond here (Some first) (find (is_guid guid) rest) ≡ Some one → (find (is_guid guid) rest ≡ Some one → IsBack guid one rest) → IsBack guid one (first ∷ rest)
back_more guid one first rest true is apart found later =
    let same : first ≡ one = cc in
    let named : first.guid ≡ guid = (bytes_eq-Decides first.guid guid).0 is in
    let none : list_any (is_guid guid) rest ≡ false = rw named at apart in
    let left : others guid rest ≡ rest = filter-none (is_guid guid) rest none in
    record {
      back = rw (is, left, same) refl;
      count = rw (is, left) (omega arith);
      place = rw is (omega arith);
      named = ap (λ (i : Interface). i.guid) (sym same) ∙ named;
    }
back_more guid one first rest false is apart found later =
    let more = later found in
    let place : position_or_len (is_guid guid) (first ∷ rest) ≡ suc (position_or_len (is_guid guid) rest) = rw is (one-add (position_or_len (is_guid guid) rest)) in
    let left : others guid (first ∷ rest) ≡ first ∷ others guid rest = rw is refl in
    record {
      back = ap (λ n. insert (others guid (first ∷ rest)) n one) place ∙ ap (λ xs. insert xs (suc (position_or_len (is_guid guid) rest)) one) left ∙ ap (λ xs. first ∷ xs) more.back;
      count = ap (λ (xs : List Interface). length xs + 1) left ∙ omega (arith, more.count);
      place = rw (place, left) (omega (arith, more.place));
      named = more.named;
    }

pub is_back : (guid : List ℕ) (one : Interface) (interfaces : List Interface) → differ interfaces ≡ true → find (is_guid guid) interfaces ≡ Some one → IsBack guid one interfaces
is_back guid one [] apart found = absurd cc
is_back guid one (first ∷ rest) apart found =
    let parts = and_parts (not (list_any (is_guid first.guid) rest)) (differ rest) apart in
    back_more guid one first rest (is_guid guid first) refl (not-true _ parts.0) found (λ later. is_back guid one rest parts.1 later)

-- ---- the entry of a handle

-- what was removed from a handle's interfaces
pub record IsRemovalOf (guid : List ℕ) (r : Removed) (had : List Interface) : Type 0 where
  pub found : find (is_guid guid) had ≡ Some (interface_again guid r)
  pub place : r.place ≡ position_or_len (is_guid guid) had
  pub gone : r.gone ≡ nat_eq (length had) 1

-- nothing changes if the handle is not there
pub without_none : (handle : ℕ) (guid : List ℕ) (entries : List HandleEntry) → list_any (is_handle handle) entries ≡ false → list_all is_kept entries ≡ true → without_interface handle guid entries ≡ entries
without_none handle guid [] none all = refl
without_none handle guid (entry ∷ entries) none all =
    let apart = or_parts (is_handle handle entry) (list_any (is_handle handle) entries) none in
    let parts = and_parts (is_kept entry) (list_all is_kept entries) all in
    rw (apart.0, (kept_parts entry parts.0).some, without_none handle guid entries apart.1 parts.1) refl

-- a lesser handle goes before all others
pub with_entry_first : (new : HandleEntry) (entries : List HandleEntry) → rise_from (new.handle + 1) entries ≡ true → with_entry new entries ≡ new ∷ entries
with_entry_first new [] rise = refl
with_entry_first new (entry ∷ entries) rise =
    let above = head_rises (new.handle + 1) entry entries rise in
    rw (lt-ltb new.handle entry.handle (omega (arith, above.0))) refl

-- what is left after a removal, and what is there when it is put back
pub record IsLeft (handle : ℕ) (guid : List ℕ) (r : Removed) (had : List Interface) (left entries : List HandleEntry) : Type 0 where
  pub again : with_removed handle guid r left ≡ entries
  pub live : list_any (is_handle handle) left ≡ not r.gone
  pub interfaces : interfaces_in (find (is_handle handle) left) ≡ others guid had
  pub fewer : r.gone ≡ true → length left < length entries

module _ (handle : ℕ) (guid : List ℕ) (r : Removed) where
  -- the handle is the first
  here_again : (gone : Bool) (entry : HandleEntry) (rest : List HandleEntry) → r.gone ≡ gone → entry.handle ≡ handle → rise_from (entry.handle + 1) rest ≡ true → is_kept entry ≡ true → IsRemovalOf guid r entry.interfaces
      → IsLeft handle guid r entry.interfaces (cond (has_any (without_guid guid entry)) (without_guid guid entry ∷ rest) rest) (entry ∷ rest)
  here_again true entry rest is named rise kept removal =
      let back = is_back guid (interface_again guid r) entry.interfaces (kept_parts entry kept).apart removal.found in
      let alone : length entry.interfaces ≡ 1 = eqb-true (length entry.interfaces) 1 (sym removal.gone ∙ is) in
      let nothing : others guid entry.interfaces ≡ [] = nil_from_length (others guid entry.interfaces) (omega (arith, back.count)) in
      let first : position_or_len (is_guid guid) entry.interfaces ≡ 0 = omega (arith, back.place, ap length nothing) in
      let whole : interface_again guid r ∷ [] ≡ entry.interfaces =
      sym (ap (λ xs. insert xs 0 (interface_again guid r)) nothing) ∙ sym (ap (λ n. insert (others guid entry.interfaces) n (interface_again guid r)) first) ∙ back.back in
      let same : new_entry handle (interface_again guid r) ≡ entry = rw (← named, whole) refl in
      let above : rise_from (handle + 1) rest ≡ true = rw named at rise in
      let none : list_any (is_handle handle) rest ≡ false = none_below (handle + 1) handle rest above (omega arith) in
      let left : cond (has_any (without_guid guid entry)) (without_guid guid entry ∷ rest) rest ≡ rest = rw nothing refl in
      rw left (record {
        again = rw is (with_entry_first (new_entry handle (interface_again guid r)) rest above ∙ ap (λ (e : HandleEntry). e ∷ rest) same);
        live = rw is none;
        interfaces = ap interfaces_in (find-none (is_handle handle) rest none) ∙ sym nothing;
        fewer = λ _. omega arith;
      })
  here_again false entry rest is named rise kept removal =
      let parts = kept_parts entry kept in
      let back = is_back guid (interface_again guid r) entry.interfaces parts.apart removal.found in
      let more : length entry.interfaces ≢ 1 = λ one. both_ways (nat_eq (length entry.interfaces) 1) (sym removal.gone ∙ is) (eq-eqb (length entry.interfaces) 1 one) in
      let any : 0 < length entry.interfaces = ltb-true 0 (length entry.interfaces) parts.some in
      let some : has_any (without_guid guid entry) ≡ true = lt-ltb 0 (length (others guid entry.interfaces)) (omega (arith, back.count)) in
      let here : nat_eq entry.handle handle ≡ true = eq-eqb entry.handle handle named in
      let none : list_any (is_handle handle) rest ≡ false = none_below (entry.handle + 1) handle rest rise (omega arith) in
      let one : inserted r.place (interface_again guid r) (without_guid guid entry) ≡ entry =
      ap (λ interfaces. record entry { interfaces = interfaces }) (ap (λ n. insert (others guid entry.interfaces) n (interface_again guid r)) removal.place ∙ back.back) in
      rw some (record {
        again = rw (is, here, map-changed-none (is_handle handle) (inserted r.place (interface_again guid r)) rest none) (ap (λ (e : HandleEntry). e ∷ rest) one);
        live = rw (is, here) refl;
        interfaces = rw here refl;
        fewer = λ gone. absurd (both_ways r.gone is gone);
      })

  -- or it comes later
  later_again : (gone : Bool) (interfaces : List Interface) (first : HandleEntry) (left rest : List HandleEntry) → r.gone ≡ gone → first.handle < handle → IsLeft handle guid r interfaces left rest
      → IsLeft handle guid r interfaces (first ∷ left) (first ∷ rest)
  later_again true interfaces first left rest is lesser more =
      let apart : nat_eq first.handle handle ≡ false = ne_eqb first.handle handle (λ same. omega arith) in
      let before : nat_lt handle first.handle ≡ false = le-ltb handle first.handle (omega arith) in
      record {
        again = rw (is, before) (ap (λ xs. first ∷ xs) (rw is at more.again));
        live = rw apart more.live;
        interfaces = rw apart more.interfaces;
        fewer = λ gone. omega (arith, more.fewer gone);
      }
  later_again false interfaces first left rest is lesser more =
      let apart : nat_eq first.handle handle ≡ false = ne_eqb first.handle handle (λ same. omega arith) in
      record {
        again = rw (is, apart) (ap (λ xs. first ∷ xs) (rw is at more.again));
        live = rw apart more.live;
        interfaces = rw apart more.interfaces;
        fewer = λ gone. omega (arith, more.fewer gone);
      }

  any_again : (here : Bool) (first entry : HandleEntry) (rest : List HandleEntry) → is_handle handle first ≡ here → rise_from (first.handle + 1) rest ≡ true → is_kept first ≡ true → list_all is_kept rest ≡ true
      → cond here (Some first) (find (is_handle handle) rest) ≡ Some entry → IsRemovalOf guid r entry.interfaces
      → (find (is_handle handle) rest ≡ Some entry → IsLeft handle guid r entry.interfaces (without_interface handle guid rest) rest)
      → IsLeft handle guid r entry.interfaces (without_interface handle guid (first ∷ rest)) (first ∷ rest)
  any_again true first entry rest is rise kept all found removal later =
      let same : first ≡ entry = cc in
      let named : first.handle ≡ handle = eqb-true first.handle handle is in
      let none : list_any (is_handle handle) rest ≡ false = none_below (first.handle + 1) handle rest rise (omega arith) in
      let left : without_interface handle guid (first ∷ rest) ≡ cond (has_any (without_guid guid first)) (without_guid guid first ∷ rest) rest =
      rw (is, without_none handle guid rest none all) refl in
      rw (left, ← same) (here_again r.gone first rest refl named rise kept (rw same removal))
  any_again false first entry rest is rise kept all found removal later =
      let above : first.handle < handle = elim (cases_lt first.handle handle) [
        | inl less ↦ less
        | inr most ↦ absurd (found_above first.handle rest entry rise most found)
      ] in
      let left : without_interface handle guid (first ∷ rest) ≡ first ∷ without_interface handle guid rest = rw (is, (kept_parts first kept).some) refl in
      rw left (later_again r.gone entry.interfaces first (without_interface handle guid rest) rest refl above (later found))
    where
      found_above : (low : ℕ) (rest : List HandleEntry) (entry : HandleEntry) → rise_from (low + 1) rest ≡ true → handle ≤ low → find (is_handle handle) rest ≡ Some entry → ⊥
      found_above low rest entry rise most found =
          let none = find-none (is_handle handle) rest (none_below (low + 1) handle rest rise (omega arith)) in
          let no : None ≡ Some entry = sym none ∙ found in cc

  pub is_left : (low : ℕ) (entries : List HandleEntry) (entry : HandleEntry) → rise_from low entries ≡ true → list_all is_kept entries ≡ true → find (is_handle handle) entries ≡ Some entry → IsRemovalOf guid r entry.interfaces
      → IsLeft handle guid r entry.interfaces (without_interface handle guid entries) entries
  is_left low [] entry rise all found removal = absurd cc
  is_left low (first ∷ rest) entry rise all found removal =
      let parts = and_parts (is_kept first) (list_all is_kept rest) all in
      let above = head_rises low first rest rise in
      any_again (is_handle handle first) first entry rest refl above.1 parts.0 parts.1 found removal (λ later. is_left (first.handle + 1) rest entry above.1 parts.1 later removal)

-- ---- a removal that was answered

-- what a search finds passes
passes_first : {X : Type 0} (test : X → Bool) (first x : X) (later : Option X) (here : Bool) → test first ≡ here → cond here (Some first) later ≡ Some x → (later ≡ Some x → test x ≡ true) → test x ≡ true
passes_first test first x later true is found rest = let same : first ≡ x = cc in rw (← same) is
passes_first test first x later false is found rest = rest found

pub found_passes : {X : Type 0} (test : X → Bool) (xs : List X) (x : X) → find test xs ≡ Some x → test x ≡ true
found_passes test [] x found = absurd cc
found_passes test (first ∷ xs) x found = passes_first test first x (find test xs) (test first) refl found (λ later. found_passes test xs x later)

-- what holds of all holds of what a search finds
all_first : {X : Type 0} (holds : X → Bool) (first x : X) (later : Option X) (here : Bool) → holds first ≡ true → cond here (Some first) later ≡ Some x → (later ≡ Some x → holds x ≡ true) → holds x ≡ true
all_first holds first x later true is found rest = let same : first ≡ x = cc in rw (← same) is
all_first holds first x later false is found rest = rest found

pub found_among : {X : Type 0} (holds test : X → Bool) (xs : List X) (x : X) → list_all holds xs ≡ true → find test xs ≡ Some x → holds x ≡ true
found_among holds test [] x all found = absurd cc
found_among holds test (first ∷ xs) x all found =
    let parts = and_parts (holds first) (list_all holds xs) all in
    all_first holds first x (find test xs) (test first) parts.0 found (λ later. found_among holds test xs x parts.1 later)

-- what is there is found
there_first : {X : Type 0} (test : X → Bool) (first : X) (xs : List X) (here : Bool) → (here || list_any test xs) ≡ true → (list_any test xs ≡ true → (x : X) × (find test xs ≡ Some x))
    → (x : X) × (cond here (Some first) (find test xs) ≡ Some x)
there_first test first xs true there rest = (first, refl)
there_first test first xs false there rest = rest there

pub found_there : {X : Type 0} (test : X → Bool) (xs : List X) → list_any test xs ≡ true → (x : X) × (find test xs ≡ Some x)
found_there test [] there = absurd cc
found_there test (first ∷ xs) there = there_first test first xs (test first) there (λ later. found_there test xs later)

-- none of a protocol is left without it
none_first : (guid : List ℕ) (first : Interface) (rest : List Interface) (here : Bool) → is_guid guid first ≡ here → list_any (is_guid guid) (others guid rest) ≡ false
    → list_any (is_guid guid) (cond (not here) (first ∷ others guid rest) (others guid rest)) ≡ false
none_first guid first rest true is none = none
none_first guid first rest false is none = rw (is, none) refl

pub none_left : (guid : List ℕ) (interfaces : List Interface) → list_any (is_guid guid) (others guid interfaces) ≡ false
none_left guid [] = refl
none_left guid (first ∷ rest) = none_first guid first rest (is_guid guid first) refl (none_left guid rest)

-- what is answered about an entry
removal_in : (guid : List ℕ) (r : Removed) (interfaces : List Interface) (one : Option Interface) → find (is_guid guid) interfaces ≡ one → removal_of interfaces guid one ≡ Ok r
    → IsRemovalOf guid r interfaces
removal_in guid r interfaces None is answer = absurd cc
removal_in guid r interfaces (Some one) is answer =
    let given : record { interface = one.interface; owner = one.owner; place = position_or_len (is_guid guid) interfaces; gone = nat_eq (length interfaces) 1 } ≡ r = cc in
    let named : one.guid ≡ guid = (bytes_eq-Decides one.guid guid).0 (found_passes (is_guid guid) interfaces one is) in
    record {
      found = is ∙ ap Some (rw (← given, ← named) refl);
      place = ap (λ (x : Removed). x.place) (sym given);
      gone = ap (λ (x : Removed). x.gone) (sym given);
    }

-- the number of a handle is not 0
pub live_from : (handle : ℕ) (entries : List HandleEntry) → rise_from 1 entries ≡ true → list_any (is_handle handle) entries ≡ true → 0 < handle
live_from handle entries rise live = elim (cases_lt 0 handle) [
  | inl some ↦ some
  | inr least ↦ absurd (both_ways (list_any (is_handle handle) entries) (none_below 1 handle entries rise (omega arith)) live)
]

module _ (handle : ℕ) (guid : List ℕ) (r : Removed) (db : Database) (sound : IsSound db) where
  -- the handle is live, and has the interface
  removal_of_live : (live : Bool) → is_live handle db ≡ live → (if not live then Err BadHandle else removal_of (interfaces_of handle db) guid (find (is_guid guid) (interfaces_of handle db))) ≡ Ok r
      → (is_live handle db ≡ true) × IsRemovalOf guid r (interfaces_of handle db)
  removal_of_live true is answer = (is, removal_in guid r (interfaces_of handle db) (find (is_guid guid) (interfaces_of handle db)) refl answer)
  removal_of_live false is answer = absurd cc

  pub undone : remove_answer handle guid db ≡ Ok r → HasRoomFor handle guid r (removed handle guid db) × (remove_undone handle guid r (removed handle guid db) ≡ db)
  undone answer =
      let there = removal_of_live (is_live handle db) refl answer in
      let entry = found_there (is_handle handle) db.handles there.0 in
      let its : interfaces_of handle db ≡ entry.0.interfaces = ap interfaces_in entry.1 in
      let removal : IsRemovalOf guid r entry.0.interfaces = rw its at there.1 in
      let left = is_left handle guid r 1 db.handles entry.0 sound.rising sound.kept entry.1 removal in
      let kept = kept_parts entry.0 (found_among is_kept (is_handle handle) db.handles entry.0 sound.kept entry.1) in
      let named : entry.0.handle ≡ handle = eqb-true entry.0.handle handle (found_passes (is_handle handle) db.handles entry.0 entry.1) in
      let back = is_back guid (interface_again guid r) entry.0.interfaces kept.apart removal.found in
      let now : interfaces_of handle (removed handle guid db) ≡ others guid entry.0.interfaces = left.interfaces in
      let count : length (interfaces_of handle (removed handle guid db)) ≡ length (others guid entry.0.interfaces) = ap length now in (
        record {
          live = left.live;
          lacks = rw now (none_left guid entry.0.interfaces);
          place = omega (arith, removal.place, back.place, count);
          few = omega (arith, back.count, count, kept.few);
          handles = λ gone. omega (arith, left.fewer gone, sound.few);
          from = live_from handle db.handles sound.rising there.0;
          old = rw named at (ltb-true entry.0.handle db.next (found_among (is_below db.next) (is_handle handle) db.handles entry.0 sound.below entry.1));
        },
        ap (λ (handles : List HandleEntry). record db { handles = handles }) left.again,
      )
