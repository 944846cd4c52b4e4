-- InstallMultipleProtocolInterfaces: none of the pairs that can be installed is refused.
use Rattle.std.proofs.Common.{◌≡◌, ◌<◌, ◌≤◌, inl, inr, ℕ, zero, suc, ◌+◌, Bool, true, false, ◌&&◌, ◌||◌, cond, nat_eq, nat_le, List, [], ◌∷◌, ◌++◌, length, length-append, map, find, add-zero, zero-add, refl, sym, ap, ◌∙◌, subst, rules, arith}
use Rattle.std.specs.Prelude.{Option, Some, None, is_ok, is_some, option_map, unwrap_or, Result, Ok, Err, if◌then◌else◌}
use Rattle.std.specs.List.{list_all, list_any, range_with_len}
use Rattle.std.proofs.lemmas.Bool.{and_parts, cases_lt, lt-leb, or_from}
use Rattle.std.proofs.lemmas.Bool.Decides.{nat_tests}
use Rattle.std.proofs.lemmas.List.Folds.{find-append, list_any-append}
use Rattle.std.proofs.lemmas.Slice.Eq.{bytes_eq-Decides}
use Rattle.fw_types.specs.declared.status.TheConstants.Status.{INVALID_PARAMETER, OUT_OF_RESOURCES}
use Rattle.guest_memory.specs.declared.segment.Segment.{Segment}
use Rattle.fw_types.specs.declared.limits.TheConstants.{MOST_INTERFACES}
use Rattle.handle_db.specs.Database.{Database, has, interface_of, interfaces_in, interfaces_of, is_below, is_guid, is_handle, is_live}
use Rattle.handle_db.specs.Installing.{appended, install_answer, installed, is_full, new_entry}
use Rattle.handle_db.specs.declared.handle_entry.HandleEntry.{HandleEntry}
use Rattle.handle_db.specs.declared.handle_entry.Interface.{Interface}
use Rattle.handle_db.proofs.OnlyOne.{find-none}
use Rattle.world_model.specs.World.{State, on_soft, with_memory}
use Rattle.world_model.specs.Interfaces.{install_answer as install_answer_of, interface, interface_added}
use Rattle.world_model.specs.Kept.{is_address}
use Rattle.world_model.proofs.Databases.{has-installed}
use Rattle.service_model.specs.Words.{◌>>=◌, has_protocol, refuse_if}
use Rattle.service_model.specs.Many.{all_fit, first_pair, install_multiple, is_named, is_seen, no_room, pair_at, pair_fits, pair_interface, pair_name}
use Rattle.service_model.specs.BootServices.{arg}
use Rattle.service_model.specs.Changes.{pair_added, pair_installed, pairs_installed}
use Rattle.service_model.specs.Allowed.{PairsAreInstalled, RowInstallsPairs, all_there, can_install, is_interface, is_there, live_if}
use Rattle.service_model.specs.declared.numbers.TheConstants.{MOST_PAIRS}
use Rattle.service_model.specs.declared.plan.Change.{Change}
use Rattle.service_model.specs.declared.plan.Change.TheVariants.{InstallMany}
use Rattle.service_model.specs.declared.plan.Stop.{Stop}
use Rattle.service_model.proofs.HasInterface.{had}
use Rattle.service_model.proofs.PairRows.{all-of, fits-of}
use Rattle.service_model.proofs.RowLines.{Says, each-at, not-refused, says-after, says-end, says-found}

or-none : (b : Bool) → (b || false) ≡ b
or-none true = refl
or-none false = refl

or-assoc : (a b c : Bool) → (a || (b || c)) ≡ ((a || b) || c)
or-assoc true b c = refl
or-assoc false b c = refl

with-last : (before one two last : Bool) → before ≡ (one || two) → (before || (last || false)) ≡ (one || (two || last))
with-last before one two last is = ap (λ test. test || (last || false)) is ∙ ap (λ test. (one || two) || test) (or-none last) ∙ sym (or-assoc one two last)

any-more : (test : ℕ → Bool) (from n : ℕ) → list_any test (range_with_len from (suc n)) ≡ (list_any test (range_with_len from n) || test (from + n))
any-more test from zero = or-none (test from) ∙ ap test (sym (add-zero from))
any-more test from (suc n) =
    let next : from + 1 + n ≡ from + suc n = omega arith in
    ap (λ rest. test from || rest) (any-more test (from + 1) n)
    ∙ or-assoc (test from) (list_any test (range_with_len (from + 1) n)) (test (from + 1 + n))
    ∙ ap (λ last. (test from || list_any test (range_with_len (from + 1) n)) || test last) next

-- ---- one more interface

-- the interfaces of a handle, or of one to be made
abbrev listed : Option ℕ → Database → List Interface
listed None db = []
listed (Some handle) db = interfaces_of handle db

-- an interface can be installed
abbrev CanTake : Option ℕ → List ℕ → Database → Type 0
CanTake None name db = (is_full db ≡ false) × (list_any (is_handle db.next) db.handles ≡ false)
CanTake (Some handle) name db =
    (is_live handle db ≡ true) × (has handle name db ≡ false) × (nat_le MOST_INTERFACES (length (interfaces_of handle db)) ≡ false)

-- it is, and comes after those that were there
record Took (handle : Option ℕ) (new : Interface) (db : Database) (number : ℕ) : Type 0 where
  answer : install_answer handle new.guid db ≡ Ok number
  behind : interfaces_of number (installed handle new db) ≡ listed handle db ++ new ∷ []
  live : is_live number (installed handle new db) ≡ true

-- no handle of a sound database has the next number
none-next : (high : ℕ) (entries : List HandleEntry) → list_all (is_below high) entries ≡ true → list_any (is_handle high) entries ≡ false
none-next high [] below = refl
none-next high (entry ∷ entries) below =
    let parts = and_parts (is_below high entry) (list_all (is_below high) entries) below in
    or_from (is_handle high entry) (list_any (is_handle high) entries) (grind (arith, nat_tests, parts.0)) (none-next high entries parts.1)

-- an entry among those of which one is changed
abbrev with_one : ℕ → Interface → HandleEntry → HandleEntry
with_one handle new entry = if is_handle handle entry then appended new entry else entry

list-appended : (handle : ℕ) (new : Interface) (entries : List HandleEntry) → list_any (is_handle handle) entries ≡ true
    → interfaces_in (find (is_handle handle) (map (with_one handle new) entries)) ≡ interfaces_in (find (is_handle handle) entries) ++ new ∷ []
list-appended handle new [] live = absurd cc
list-appended handle new (entry ∷ entries) live = by_head (is_handle handle entry) refl live (λ later. list-appended handle new entries later)
  where
    by_head : (here : Bool) → is_handle handle entry ≡ here → (here || list_any (is_handle handle) entries) ≡ true
        → (list_any (is_handle handle) entries ≡ true → interfaces_in (find (is_handle handle) (map (with_one handle new) entries)) ≡ interfaces_in (find (is_handle handle) entries) ++ new ∷ [])
        → interfaces_in (find (is_handle handle) ((if here then appended new entry else entry) ∷ map (with_one handle new) entries)) ≡ interfaces_in (cond here (Some entry) (find (is_handle handle) entries)) ++ new ∷ []
    by_head true is live later = rw is refl
    by_head false is live later = rw is (later live)

live-appended : (handle : ℕ) (new : Interface) (entries : List HandleEntry) → list_any (is_handle handle) (map (with_one handle new) entries) ≡ list_any (is_handle handle) entries
live-appended handle new [] = refl
live-appended handle new (entry ∷ entries) = by_head (is_handle handle entry) refl (live-appended handle new entries)
  where
    by_head : (here : Bool) → is_handle handle entry ≡ here → list_any (is_handle handle) (map (with_one handle new) entries) ≡ list_any (is_handle handle) entries
        → (is_handle handle (if here then appended new entry else entry) || list_any (is_handle handle) (map (with_one handle new) entries)) ≡ (here || list_any (is_handle handle) entries)
    by_head true is later = rw is refl
    by_head false is later = rw is later

took : (handle : Option ℕ) (new : Interface) (db : Database) → CanTake handle new.guid db → Took handle new db (unwrap_or handle db.next)
took None new db (room, free) =
    let here : is_handle db.next (new_entry db.next new) ≡ true = grind (arith, nat_tests) in
    let none = find-none (is_handle db.next) db.handles free in
    record {
      answer = rw room refl;
      behind = ap interfaces_in (find-append (is_handle db.next) db.handles (new_entry db.next new ∷ [])) ∙ rw (none, here) refl;
      live = list_any-append (is_handle db.next) db.handles (new_entry db.next new ∷ []) ∙ rw (free, here) refl;
    }
took (Some handle) new db (live, absent, room) = record {
  answer = rw (live, absent, room) refl;
  behind = list-appended handle new db.handles live;
  live = live-appended handle new db.handles ∙ live;
}

-- ---- pairs that can be installed

-- there are at most MOST_PAIRS, their handle is live, they fit one after the other, and their
-- interfaces can be read
record Fits (handle : Option ℕ) (list count : ℕ) (w : State) : Type 0 where
  few : count ≤ MOST_PAIRS
  live : live_if handle w.soft.database ≡ true
  fit : all_fit handle list count w ≡ Ok tt
  read : (i : ℕ) → i < count → is_ok (pair_interface list i w) ≡ true

each-of : (test : ℕ → Bool) (from n : ℕ) → list_all test (range_with_len from n) ≡ true → (i : ℕ) → from ≤ i → i < from + n → test i ≡ true
each-of test from zero all i low high = absurd (omega arith)
each-of test from (suc n) all i low high =
    let parts = and_parts (test from) (list_all test (range_with_len (from + 1) n)) all in
    elim (cases_lt from i) [
      | inl above ↦ each-of test (from + 1) n parts.1 i (omega arith) (omega arith)
      | inr first ↦
          let same : i ≡ from = omega arith in
          rw same parts.0
    ]

done-of : (result : Result Unit Stop) → is_ok result ≡ true → result ≡ Ok tt
done-of (Ok done) fine = refl
done-of (Err stop) fine = absurd cc

fits-from : (handle : Option ℕ) (list count : ℕ) (w : State) → can_install handle list count w ≡ true → Fits handle list count w
fits-from handle list count w can =
    let reads : Bool = list_all (λ i. is_ok (pair_interface list i w)) (range_with_len 0 count) in
    let one = and_parts (nat_le count MOST_PAIRS) (live_if handle w.soft.database && (is_ok (all_fit handle list count w) && reads)) can in
    let two = and_parts (live_if handle w.soft.database) (is_ok (all_fit handle list count w) && reads) one.1 in
    let three = and_parts (is_ok (all_fit handle list count w)) reads two.1 in
    record {
      few = grind (arith, nat_tests, one.0);
      live = two.0;
      fit = done-of (all_fit handle list count w) three.0;
      read = λ i high. each-of (λ i. is_ok (pair_interface list i w)) 0 count three.1 i (omega arith) (omega arith);
    }

-- ---- pairs, one after the other

-- the first pairs are installed
record At (list owner : ℕ) (handle : Option ℕ) (w : State) (k : ℕ) (end : Option ℕ × State) : Type 0 where
  memory : end.1.soft.memory ≡ w.soft.memory
  fresh : is_some end.0 ≡ false → (handle ≡ None) × (end.1.soft.database ≡ w.soft.database)
  many : length (listed end.0 end.1.soft.database) ≡ length (listed handle w.soft.database) + k
  names : (name : List ℕ) → list_any (is_guid name) (listed end.0 end.1.soft.database) ≡ (list_any (is_guid name) (listed handle w.soft.database) || is_seen name list k w)
  live : live_if end.0 end.1.soft.database ≡ true
  there : (i : ℕ) → i < k → is_there end (pair_at list i w) owner ≡ true

-- and the last of them is
abbrev Reached : (list owner : ℕ) → Option ℕ → State → ℕ → Result (Option ℕ × State) Stop → Type 0
Reached list owner handle w k (Ok end) = At list owner handle w k end
Reached list owner handle w k (Err stop) = ⊥

none-is : (handle : Option ℕ) → is_some handle ≡ false → handle ≡ None
none-is None is = refl
none-is (Some handle) is = absurd cc

at-first : (list owner : ℕ) (handle : Option ℕ) (w : State) → live_if handle w.soft.database ≡ true → At list owner handle w 0 (handle, w)
at-first list owner handle w live = record {
  memory = refl;
  fresh = λ none. (none-is handle none, refl);
  many = sym (add-zero (length (listed handle w.soft.database)));
  names = λ name. sym (or-none (list_any (is_guid name) (listed handle w.soft.database)));
  live = live;
  there = λ i below. absurd (omega arith);
}

-- a handle's protocol is that of an interface that it lists
protocol-listed : (handle : Option ℕ) (name : List ℕ) (w : State) → has_protocol handle name w ≡ list_any (is_guid name) (listed handle w.soft.database)
protocol-listed None name w = refl
protocol-listed (Some handle) name w = had handle name w.soft.database

room-left : (handle : Option ℕ) (k : ℕ) (w : State) → no_room handle k w ≡ false → k < MOST_PAIRS → nat_le MOST_INTERFACES (length (listed handle w.soft.database) + k) ≡ false
room-left None k w room few = lt-leb MOST_INTERFACES (length {A = Interface} [] + k) (omega arith)
room-left (Some handle) k w room few = room

can-take : (list owner : ℕ) (handle : Option ℕ) (w : State) (k : ℕ) (on : Option ℕ) (mid : State) → At list owner handle w k (on, mid) → (name : List ℕ) → (has_protocol handle name w || is_seen name list k w) ≡ false
    → no_room handle k w ≡ false → k < MOST_PAIRS → list_any (is_handle w.soft.database.next) w.soft.database.handles ≡ false → CanTake on name mid.soft.database
can-take list owner handle w k None mid at name new room few free =
    let before = at.fresh refl in
    let full : is_full w.soft.database ≡ false = subst (λ on. no_room on k w ≡ false) before.0 room in
    (ap is_full before.1 ∙ full, ap (λ (db : Database). list_any (is_handle db.next) db.handles) before.1 ∙ free)
can-take list owner handle w k (Some on) mid at name new room few free = (
  at.live,
  at.names name ∙ ap (λ has. has || is_seen name list k w) (sym (protocol-listed handle name w)) ∙ new,
  ap (nat_le MOST_INTERFACES) at.many ∙ room-left handle k w room few,
)

-- an interface that is there stays when another is installed
same-test : (found : Option (ℕ × ℕ)) (address owner : ℕ) → is_interface found address owner ≡ is_address address owner found
same-test None address owner = refl
same-test (Some found) address owner = refl

stays : (on : Option ℕ) (mid : State) (new : Interface) (pair : Result (List ℕ × ℕ) Stop) (owner : ℕ) → is_there (on, mid) pair owner ≡ true
    → is_there (Some (unwrap_or on mid.soft.database.next), on_soft (interface_added on new) mid) pair owner ≡ true
stays None mid new (Ok (name, address)) owner there = absurd cc
stays None mid new (Err stop) owner there = absurd cc
stays (Some on) mid new (Err stop) owner there = absurd cc
stays (Some on) mid new (Ok (name, address)) owner there =
    same-test (interface_of on name (installed (Some on) new mid.soft.database)) address owner
    ∙ has-installed mid.soft.database (Some on) new on name address owner (sym (same-test (interface_of on name mid.soft.database) address owner) ∙ there)

-- an interface that is installed is there
here-found : (number : ℕ) (front : List Interface) (name : List ℕ) (address owner : ℕ) (db : Database) → interfaces_of number db ≡ front ++ interface name address owner ∷ [] → list_any (is_guid name) front ≡ false
    → is_interface (interface_of number name db) address owner ≡ true
here-found number front name address owner db is none =
    let new : Interface = interface name address owner in
    let same : is_guid name new ≡ true = (bytes_eq-Decides name name).1 refl in
    let one : nat_eq address address ≡ true = grind (arith, nat_tests) in
    let two : nat_eq owner owner ≡ true = grind (arith, nat_tests) in
    let found : find (is_guid name) (interfaces_of number db) ≡ Some new =
    ap (find (is_guid name)) is ∙ find-append (is_guid name) front (new ∷ []) ∙ rw (find-none (is_guid name) front none, same) refl in
    ap (λ (one : Option Interface). is_interface (option_map (λ (i : Interface). (i.interface, i.owner)) one) address owner) found ∙ rw (one, two) refl

pair-is : (list i : ℕ) (w : State) (name : List ℕ) (address : ℕ) → pair_name list i w ≡ Ok name → pair_interface list i w ≡ Ok address → pair_at list i w ≡ Ok (name, address)
pair-is list i w name address name_is read =
    ap (λ (one : Result (List ℕ) Stop). one >>= λ name. pair_interface list i w >>= λ address. Ok (name, address)) name_is
    ∙ ap (λ (two : Result ℕ Stop). two >>= λ address. Ok (name, address)) read

same-pair : (list i : ℕ) (w mid : State) → mid.soft.memory ≡ w.soft.memory → pair_at list i mid ≡ pair_at list i w
same-pair list i w mid same = ap (λ (segments : List Segment). pair_at list i (on_soft (with_memory segments) w)) same

at-next : (list owner : ℕ) (handle : Option ℕ) (w : State) (k : ℕ) (on : Option ℕ) (mid : State) → At list owner handle w k (on, mid)
    → (name : List ℕ) (address : ℕ) → pair_name list k w ≡ Ok name → pair_interface list k w ≡ Ok address
    → (has_protocol handle name w || is_seen name list k w) ≡ false → CanTake on name mid.soft.database
    → Reached list owner handle w (suc k) (pair_installed k list owner (on, mid))
at-next list owner handle w k on mid at name address name_is read new can =
    subst (Reached list owner handle w (suc k)) (sym installs) (record {
      memory = at.memory;
      fresh = λ none. absurd cc;
      many = count_is;
      names = known;
      live = taken.live;
      there = λ i below. elim (cases_lt i k) [
        | inl before ↦ stays on mid fresh (pair_at list i w) owner (at.there i before)
        | inr last ↦
            let same : i ≡ k = omega arith in
            rw (same, pair-is list k w name address name_is read)
            (here-found number (listed on mid.soft.database) name address owner after.soft.database taken.behind absent)
      ];
    })
  where
    fresh : Interface
    fresh = interface name address owner

    number : ℕ
    number = unwrap_or on mid.soft.database.next

    after : State
    after = on_soft (interface_added on fresh) mid

    taken : Took on fresh mid.soft.database number
    taken = took on fresh mid.soft.database can

    installs : pair_installed k list owner (on, mid) ≡ Ok (Some number, after)
    installs =
        ap (λ pair. pair >>= λ pair. pair_added (install_answer_of on pair.0 mid.soft) on pair owner mid) (same-pair list k w mid at.memory ∙ pair-is list k w name address name_is read)
        ∙ ap (λ answer. pair_added answer on (name, address) owner mid) taken.answer

    absent : list_any (is_guid name) (listed on mid.soft.database) ≡ false
    absent = at.names name ∙ ap (λ has. has || is_seen name list k w) (sym (protocol-listed handle name w)) ∙ new

    count_is : length (interfaces_of number after.soft.database) ≡ length (listed handle w.soft.database) + suc k
    count_is = ap length taken.behind ∙ length-append (listed on mid.soft.database) (fresh ∷ []) ∙ omega (arith, at.many)

    known : (other : List ℕ) → list_any (is_guid other) (interfaces_of number after.soft.database) ≡ (list_any (is_guid other) (listed handle w.soft.database) || is_seen other list (suc k) w)
    known other =
        let last : is_named other (pair_name list (0 + k) w) ≡ is_guid other fresh = ap (λ i. is_named other (pair_name list i w)) (zero-add k) ∙ ap (is_named other) name_is in
        let seen : is_seen other list (suc k) w ≡ (is_seen other list k w || is_guid other fresh) =
        any-more (λ i. is_named other (pair_name list i w)) 0 k ∙ ap (λ test. is_seen other list k w || test) last in
        ap (list_any (is_guid other)) taken.behind
        ∙ list_any-append (is_guid other) (listed on mid.soft.database) (fresh ∷ [])
        ∙ with-last (list_any (is_guid other) (listed on mid.soft.database)) (list_any (is_guid other) (listed handle w.soft.database)) (is_seen other list k w) (is_guid other fresh) (at.names other)
        ∙ sym (ap (λ test. list_any (is_guid other) (listed handle w.soft.database) || test) seen)

all-at : (list owner : ℕ) (handle : Option ℕ) (count : ℕ) (w : State) → Fits handle list count w → list_any (is_handle w.soft.database.next) w.soft.database.handles ≡ false
    → (k : ℕ) → k ≤ count → Reached list owner handle w k (pairs_installed k list owner handle w)
all-at list owner handle count w fits free zero few = at-first list owner handle w fits.live
all-at list owner handle count w fits free (suc k) few = after (pairs_installed k list owner handle w) (all-at list owner handle count w fits free k (omega arith))
  where
    fitting : pair_fits handle list w k ≡ Ok tt
    fitting = each-at (pair_fits handle list w) 0 count fits.fit k (omega arith) (omega arith)

    read-by : (result : Result ℕ Stop) → pair_interface list k w ≡ result → is_ok result ≡ true → (address : ℕ) × (pair_interface list k w ≡ Ok address)
    read-by (Ok address) is fine = (address, is)
    read-by (Err stop) is fine = absurd cc

    after : (result : Result (Option ℕ × State) Stop) → Reached list owner handle w k result → Reached list owner handle w (suc k) (result >>= pair_installed k list owner)
    after (Err stop) none = none
    after (Ok (on, mid)) at =
        let P : Unit {0} → Type 0 = λ done. Reached list owner handle w (suc k) (pair_installed k list owner (on, mid)) in
        let read = read-by (pair_interface list k w) refl (fits.read k (omega arith)) in
        let few : k < MOST_PAIRS = omega (arith, fits.few) in
        says-found P (pair_name list k w) _ (λ name name_is.
        says-after P (refuse_if (has_protocol handle name w || is_seen name list k w) INVALID_PARAMETER) _ (λ new end room.
        let absent : (has_protocol handle name w || is_seen name list k w) ≡ false = not-refused (has_protocol handle name w || is_seen name list k w) INVALID_PARAMETER new in
        at-next list owner handle w k on mid at name read.0 name_is read.1 absent
        (can-take list owner handle w k on mid at name absent (not-refused (no_room handle k w) OUT_OF_RESOURCES room) few free)))
        tt fitting

there-of : (list owner k : ℕ) (handle : Option ℕ) (w : State) (result : Result (Option ℕ × State) Stop) → Reached list owner handle w k result → all_there list k owner w result ≡ true
there-of list owner k handle w (Ok end) at = all-of (λ i. is_there end (pair_at list i w) owner) 0 k (λ i low high. at.there i (omega arith))
there-of list owner k handle w (Err stop) none = absurd none

pub pairs-go : PairsAreInstalled
pairs-go w handle list count owner k kept can few =
    there-of list owner k handle w (pairs_installed k list owner handle w)
    (all-at list owner handle count w (fits-from handle list count w can) (none-next w.soft.database.next w.soft.database.handles kept.database.sound.below) k few)

-- ---- what the row ends with

abbrev Owned : ℕ → State → Change → Type 0
Owned image w (InstallMany handle list count owner out) = (can_install handle list count w ≡ true) × (owner ≡ image)
Owned image w _ = Unit {0}

row-owned : (owner handle_at list : ℕ) (w : State) → Says (Owned owner w) (install_multiple owner handle_at list w)
row-owned owner handle_at list w = search (rules, says-after, says-found, says-end, fits-of) depth 30

pub row-goes : RowInstallsPairs
row-goes c a w handle list count owner out kept result =
    let owned : (can_install handle list count w ≡ true) × (owner ≡ c.image) = row-owned c.image (arg a 0) (first_pair c.sp) w (InstallMany handle list count owner out) result in
    subst (λ image. all_there list count image w (pairs_installed count list owner handle w) ≡ true) owned.1
    (pairs-go w handle list count owner count kept owned.0 (omega arith))
