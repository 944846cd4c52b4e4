-- Tests of segments, as mapping, unmapping and writing leave them.
use Rattle.std.proofs.Common.{◌≡◌, ◌≤◌, ◌<◌, inl, inr, ℕ, Bool, true, false, not, ◌&&◌, ◌||◌, cond, nat_eq, nat_le, nat_lt, List, [], ◌∷◌, ◌++◌, length, filter, refl, ap, ◌∙◌, arith}
use Rattle.std.specs.List.{list_all, list_any}
use Rattle.std.proofs.lemmas.Bool.{and_parts, and_from, or_parts, or_from, or_cases, or_left, or_right, eqb-true}
use Rattle.std.proofs.lemmas.Bool.Decides.{nat_tests}
use Rattle.guest_memory.specs.declared.segment.Segment.{Segment}
use Rattle.guest_memory.specs.declared.segment.SegKind.{SegKind}
use Rattle.guest_memory.specs.Segment.{end_of, has_bytes, with_number}
use Rattle.guest_memory.specs.GuestMemory.{begins, lie_from, mapped, unmapped, written}
use Rattle.guest_memory.proofs.SegmentLemmas.{length-with_number}

-- ---- tests of lists

-- what passes one test passes another
pub list_all-mono : {A : Type 0} (P Q : A → Bool) (xs : List A) → ((x : A) → P x ≡ true → Q x ≡ true) → list_all P xs ≡ true → list_all Q xs ≡ true
list_all-mono P Q [] more all = refl
list_all-mono P Q (x ∷ xs) more all =
    let parts = and_parts (P x) (list_all P xs) all in
    and_from (Q x) (list_all Q xs) (more x parts.0) (list_all-mono P Q xs more parts.1)

-- if whatever passes two tests passes a third, and all pass both, all pass the third
pub list_all-both : {A : Type 0} (O P Q : A → Bool) (xs : List A) → ((x : A) → O x ≡ true → P x ≡ true → Q x ≡ true) → list_all O xs ≡ true → list_all P xs ≡ true → list_all Q xs ≡ true
list_all-both O P Q [] more all also = refl
list_all-both O P Q (x ∷ xs) more all also =
    let parts = and_parts (O x) (list_all O xs) all in
    let others = and_parts (P x) (list_all P xs) also in
    and_from (Q x) (list_all Q xs) (more x parts.0 others.0) (list_all-both O P Q xs more parts.1 others.1)

-- if all pass one test, none passes another
pub list_any-none : {A : Type 0} (P Q : A → Bool) (xs : List A) → ((x : A) → P x ≡ true → Q x ≡ false) → list_all P xs ≡ true → list_any Q xs ≡ false
list_any-none P Q [] none all = refl
list_any-none P Q (x ∷ xs) none all =
    let parts = and_parts (P x) (list_all P xs) all in
    or_from (Q x) (list_any Q xs) (none x parts.0) (list_any-none P Q xs none parts.1)

pub list_all-filter : {A : Type 0} (P Q : A → Bool) (xs : List A) → list_all P xs ≡ true → list_all P (filter Q xs) ≡ true
list_all-filter P Q [] all = refl
list_all-filter P Q (x ∷ xs) all =
    let parts = and_parts (P x) (list_all P xs) all in
    let rest = list_all-filter P Q xs parts.1 in
    elim (Q x) as (λ b. list_all P (cond b (x ∷ filter Q xs) (filter Q xs)) ≡ true) [ true ↦ and_from (P x) (list_all P (filter Q xs)) parts.0 rest | false ↦ rest ]

-- ---- mapping

or-swap : (a b c : Bool) → (a || (b || c)) ≡ (b || (a || c))
or-swap true true c = refl
or-swap true false c = refl
or-swap false true c = refl
or-swap false false c = refl

and-swap : (a b c : Bool) → (a && (b && c)) ≡ (b && (a && c))
and-swap true true c = refl
and-swap true false c = refl
and-swap false true c = refl
and-swap false false c = refl

pub list_any-mapped : (P : Segment → Bool) (new : Segment) (segments : List Segment) → list_any P (mapped new segments) ≡ (P new || list_any P segments)
list_any-mapped P new [] = refl
list_any-mapped P new (s ∷ rest) =
    elim (nat_lt s.base new.base) as (λ b. list_any P (cond b (s ∷ mapped new rest) (new ∷ s ∷ rest)) ≡ (P new || (P s || list_any P rest))) [
      | true ↦ ap (λ b. P s || b) (list_any-mapped P new rest) ∙ or-swap (P s) (P new) (list_any P rest)
      | false ↦ refl
    ]

pub list_all-mapped : (P : Segment → Bool) (new : Segment) (segments : List Segment) → list_all P (mapped new segments) ≡ (P new && list_all P segments)
list_all-mapped P new [] = refl
list_all-mapped P new (s ∷ rest) =
    elim (nat_lt s.base new.base) as (λ b. list_all P (cond b (s ∷ mapped new rest) (new ∷ s ∷ rest)) ≡ (P new && (P s && list_all P rest))) [
      | true ↦ ap (λ b. P s && b) (list_all-mapped P new rest) ∙ and-swap (P s) (P new) (list_all P rest)
      | false ↦ refl
    ]

-- ---- unmapping

pub list_all-unmapped : (P : Segment → Bool) (base : ℕ) (segments : List Segment) → list_all P segments ≡ true → list_all P (unmapped segments base) ≡ true
list_all-unmapped P base [] all = refl
list_all-unmapped P base (s ∷ rest) all =
    let parts = and_parts (P s) (list_all P rest) all in
    elim (nat_eq s.base base) as (λ b. list_all P (cond b rest (s ∷ unmapped rest base)) ≡ true) [
      | true ↦ parts.1
      | false ↦ and_from (P s) (list_all P (unmapped rest base)) parts.0 (list_all-unmapped P base rest parts.1)
    ]

list_any-unmapped-more : (P : Segment → Bool) (base : ℕ) (s : Segment) (rest : List Segment) (here : Bool) → nat_eq s.base base ≡ here → (nat_eq s.base base ≡ true → P s ≡ false)
    → list_any P (unmapped rest base) ≡ list_any P rest → list_any P (cond here rest (s ∷ unmapped rest base)) ≡ list_any P (s ∷ rest)
list_any-unmapped-more P base s rest true is none later = rw (none is) refl
list_any-unmapped-more P base s rest false is none later = ap (λ b. P s || b) later

-- a test that no segment at the address passes
pub list_any-unmapped : (P : Segment → Bool) (base : ℕ) (segments : List Segment) → ((s : Segment) → nat_eq s.base base ≡ true → P s ≡ false) → list_any P (unmapped segments base) ≡ list_any P segments
list_any-unmapped P base [] none = refl
list_any-unmapped P base (s ∷ rest) none =
    list_any-unmapped-more P base s rest (nat_eq s.base base) refl (none s) (list_any-unmapped P base rest none)

-- ---- writing

-- a test of where a segment lies, of its kind and of how many bytes it has, but not of its bytes
abbrev pub IgnoresBytes : (Segment → Bool) → Type 0
IgnoresBytes P = (s : Segment) (bytes : List ℕ) → length bytes ≡ length s.bytes → P (record s { bytes = bytes }) ≡ P s

list_all-written-more : (P : Segment → Bool) (s : Segment) (rest : List Segment) (at n value : ℕ) (has : Bool) → has_bytes s at n ≡ has → IgnoresBytes P → list_all P (written rest at n value) ≡ list_all P rest
    → list_all P (cond has (with_number s at n value ∷ rest) (s ∷ written rest at n value)) ≡ list_all P (s ∷ rest)
list_all-written-more P s rest at n value true is ignores later =
    ap (λ b. b && list_all P rest) (ignores s (with_number s at n value).bytes (length-with_number s at n value is))
list_all-written-more P s rest at n value false is ignores later = ap (λ b. P s && b) later

pub list_all-written : (P : Segment → Bool) (segments : List Segment) (at n value : ℕ) → IgnoresBytes P → list_all P (written segments at n value) ≡ list_all P segments
list_all-written P [] at n value ignores = refl
list_all-written P (s ∷ rest) at n value ignores =
    list_all-written-more P s rest at n value (has_bytes s at n) refl ignores (list_all-written P rest at n value ignores)

list_any-written-more : (P : Segment → Bool) (s : Segment) (rest : List Segment) (at n value : ℕ) (has : Bool) → has_bytes s at n ≡ has → IgnoresBytes P → list_any P (written rest at n value) ≡ list_any P rest
    → list_any P (cond has (with_number s at n value ∷ rest) (s ∷ written rest at n value)) ≡ list_any P (s ∷ rest)
list_any-written-more P s rest at n value true is ignores later =
    ap (λ b. b || list_any P rest) (ignores s (with_number s at n value).bytes (length-with_number s at n value is))
list_any-written-more P s rest at n value false is ignores later = ap (λ b. P s || b) later

pub list_any-written : (P : Segment → Bool) (segments : List Segment) (at n value : ℕ) → IgnoresBytes P → list_any P (written segments at n value) ≡ list_any P segments
list_any-written P [] at n value ignores = refl
list_any-written P (s ∷ rest) at n value ignores =
    list_any-written-more P s rest at n value (has_bytes s at n) refl ignores (list_any-written P rest at n value ignores)

-- ---- a front of segments that stays

-- what is mapped after the front
pub mapped-behind : (front rest : List Segment) (new : Segment) → list_all (λ (s : Segment). nat_lt s.base new.base) front ≡ true → mapped new (front ++ rest) ≡ front ++ mapped new rest
mapped-behind [] rest new before = refl
mapped-behind (s ∷ front) rest new before =
    let parts = and_parts (nat_lt s.base new.base) (list_all (λ (s : Segment). nat_lt s.base new.base) front) before in
    rw (parts.0, mapped-behind front rest new parts.1) refl

-- what is unmapped after it
pub unmapped-behind : (front rest : List Segment) (base : ℕ) → list_all (λ (s : Segment). nat_lt s.base base) front ≡ true → unmapped (front ++ rest) base ≡ front ++ unmapped rest base
unmapped-behind [] rest base before = refl
unmapped-behind (s ∷ front) rest base before =
    let parts = and_parts (nat_lt s.base base) (list_all (λ (s : Segment). nat_lt s.base base) front) before in
    let other : nat_eq s.base base ≡ false = grind (arith, nat_tests, parts.0) in
    rw (other, unmapped-behind front rest base parts.1) refl

-- if all pass one test and none another, none passes a third
pub list_any-neither : {A : Type 0} (O P Q : A → Bool) (xs : List A) → ((x : A) → O x ≡ true → P x ≡ false → Q x ≡ false) → list_all O xs ≡ true → list_any P xs ≡ false → list_any Q xs ≡ false
list_any-neither O P Q [] none all other = refl
list_any-neither O P Q (x ∷ xs) none all other =
    let parts = and_parts (O x) (list_all O xs) all in
    let others = or_parts (P x) (list_any P xs) other in
    or_from (Q x) (list_any Q xs) (none x parts.0 others.0) (list_any-neither O P Q xs none parts.1 others.1)

-- what passes a test and is kept by a filter passes another
pub list_all-filter_both : {A : Type 0} (O P Q : A → Bool) (xs : List A) → ((x : A) → O x ≡ true → P x ≡ true → Q x ≡ true) → list_all O xs ≡ true → list_all Q (filter P xs) ≡ true
list_all-filter_both O P Q [] more all = refl
list_all-filter_both {A} O P Q (x ∷ xs) more all =
    let parts = and_parts (O x) (list_all O xs) all in
    by_head (P x) refl parts.0 (list_all-filter_both O P Q xs more parts.1)
  where
    by_head : (here : Bool) → P x ≡ here → O x ≡ true → list_all Q (filter P xs) ≡ true → list_all Q (cond here (x ∷ filter P xs) (filter P xs)) ≡ true
    by_head true h one later = and_from (Q x) (list_all Q (filter P xs)) (more x one h) later
    by_head false h one later = later

-- all fail a test that none passes
pub list_all-not : {A : Type 0} (P : A → Bool) (xs : List A) → list_any P xs ≡ false → list_all (λ (x : A). not (P x)) xs ≡ true
list_all-not P [] none = refl
list_all-not P (x ∷ xs) none =
    let parts = or_parts (P x) (list_any P xs) none in
    rw parts.0 (list_all-not P xs parts.1)

-- a segment that some test finds was there before
pub list_any-unmapped_less : (P : Segment → Bool) (base : ℕ) (segments : List Segment) → list_any P (unmapped segments base) ≡ true → list_any P segments ≡ true
list_any-unmapped_less P base [] some = some
list_any-unmapped_less P base (s ∷ rest) some = by_head (nat_eq s.base base) (λ later. list_any-unmapped_less P base rest later) some
  where
    by_head : (here : Bool) → (list_any P (unmapped rest base) ≡ true → list_any P rest ≡ true) → list_any P (cond here rest (s ∷ unmapped rest base)) ≡ true → (P s || list_any P rest) ≡ true
    by_head true later some = or_right (P s) (list_any P rest) some
    by_head false later some = elim (or_cases (P s) (list_any P (unmapped rest base)) some) [ inl here ↦ or_left (P s) (list_any P rest) here | inr there ↦ or_right (P s) (list_any P rest) (later there) ]

-- ---- segments that lie apart

pub none_before : (kind : SegKind) (base from : ℕ) (segments : List Segment) → lie_from from segments ≡ true → base < from → begins kind base segments ≡ false
none_before kind base from [] lies before = refl
none_before kind base from (s ∷ rest) lies before =
    let order = and_parts (nat_le from s.base) (lie_from (end_of s) rest) lies in
    let other : nat_eq s.base base ≡ false = grind (arith, nat_tests, order.0) in
    let from_here : from ≤ s.base = grind (arith, nat_tests, order.0) in
    rw other (none_before kind base (end_of s) rest order.1 (omega arith))

-- what is unmapped is no longer there
pub none-unmapped : (kind : SegKind) (base from : ℕ) (segments : List Segment) → lie_from from segments ≡ true → begins kind base (unmapped segments base) ≡ false
none-unmapped kind base from [] lies = refl
none-unmapped kind base from (s ∷ rest) lies =
    let order = and_parts (nat_le from s.base) (lie_from (end_of s) rest) lies in
    by_head (nat_eq s.base base) refl order.1 (none-unmapped kind base (end_of s) rest order.1)
  where
    by_head : (here : Bool) → nat_eq s.base base ≡ here → lie_from (end_of s) rest ≡ true → begins kind base (unmapped rest base) ≡ false → begins kind base (cond here rest (s ∷ unmapped rest base)) ≡ false
    by_head true is lie later = let same : s.base ≡ base = eqb-true s.base base is in none_before kind base (end_of s) rest lie (omega arith)
    by_head false is lie later = rw is later
