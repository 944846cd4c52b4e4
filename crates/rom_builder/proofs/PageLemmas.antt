-- Rising places page by page: those of the first page, and those of the pages after it.
use Rattle.std.proofs.Common.{◌≡◌, ◌≤◌, ◌<◌, ◌+◌, ◌*◌, ◌/◌, ℕ, zero, suc, Bool, true, false, nat_eq, nat_lt, cond, List, [], ◌∷◌, ◌++◌, length, map, filter, take, drop, slice_index, refl, ap, sym, ◌∙◌, subst, arith}
use Rattle.std.specs.List.{flat_map, take_while}
use Rattle.std.proofs.lemmas.Bool.Decides.{nat_tests}
use Rattle.std.proofs.lemmas.List.{length-drop}
use Rattle.std.proofs.lemmas.List.Sums.{take_while-cons}
use Rattle.rom_builder.specs.SortedOnce.{RiseFrom, insert_once, sorted_once}
use Rattle.rom_builder.specs.MadeImage.{page_block, page_blocks, page_of, pages_of, places_in}
use Rattle.rom_builder.proofs.SortedOnceLemmas.{rise-lower}

-- ---- numbers above one

abbrev pub AreAbove : ℕ → List ℕ → Type 0
AreAbove p [] = Unit {0}
AreAbove p (q ∷ qs) = (p < q) × AreAbove p qs

above-insert_once : (p n : ℕ) (ms : List ℕ) → p < n → AreAbove p ms → AreAbove p (insert_once n ms)
above-insert_once p n [] more all = (more, tt)
above-insert_once p n (m ∷ ms) more all = by_case (nat_lt n m) (nat_eq n m) (above-insert_once p n ms more all.1)
  where
    by_case : (less same : Bool) → AreAbove p (insert_once n ms) → AreAbove p (cond less (n ∷ m ∷ ms) (cond same (m ∷ ms) (m ∷ insert_once n ms)))
    by_case true same rest = (more, all)
    by_case false true rest = all
    by_case false false rest = (all.0, rest)

above-sorted_once : (p : ℕ) (ns : List ℕ) → AreAbove p ns → AreAbove p (sorted_once ns)
unfolding sorted_once
above-sorted_once p [] all = tt
above-sorted_once p (n ∷ ns) all = above-insert_once p n (sorted_once ns) all.0 (above-sorted_once p ns all.1)

less_test : (n m : ℕ) → n < m → nat_lt n m ≡ true
less_test n m h = grind (arith, nat_tests)

other_test : (n m : ℕ) → m < n → nat_eq n m ≡ false
other_test n m h = grind (arith, nat_tests)

equal_test : (n m : ℕ) → n ≡ m → nat_eq n m ≡ true
equal_test n m h = grind (arith, nat_tests)

insert_once-least : (p : ℕ) (ms : List ℕ) → AreAbove p ms → insert_once p ms ≡ p ∷ ms
insert_once-least p [] all = refl
insert_once-least p (m ∷ ms) all = rw (less_test p m all.0) refl

insert_once-again : (p : ℕ) (ms : List ℕ) → insert_once p (p ∷ ms) ≡ p ∷ ms
insert_once-again p ms = rw (not_less p, equal_test p p refl) refl
  where
    not_less : (p : ℕ) → nat_lt p p ≡ false
    not_less p = grind (arith, nat_tests)

-- ---- places of a page, followed by places of later pages

abbrev pub AreIn : ℕ → List ℕ → Type 0
AreIn page [] = Unit {0}
AreIn page (place ∷ places) = (page_of place ≡ page) × AreIn page places

pages_of-split : (page place : ℕ) (front back : List ℕ) → AreIn page (place ∷ front) → AreAbove page (map page_of back) → pages_of ((place ∷ front) ++ back) ≡ page ∷ pages_of back
unfolding sorted_once
pages_of-split page place [] back here later =
    rw here.0 (insert_once-least page (pages_of back) (above-sorted_once page (map page_of back) later))
pages_of-split page place (next ∷ front) back here later =
    ap (insert_once (page_of place)) (pages_of-split page next front back here.1 later)
    ∙ ap (λ (p : ℕ). insert_once p (page ∷ pages_of back)) here.0
    ∙ insert_once-again page (pages_of back)

places_in-none : (page : ℕ) (back : List ℕ) → AreAbove page (map page_of back) → places_in page back ≡ []
places_in-none page [] later = refl
places_in-none page (place ∷ places) later = rw (other_test (page_of place) page later.0) (places_in-none page places later.1)

places_in-here : (page : ℕ) (front back : List ℕ) → AreIn page front → AreAbove page (map page_of back) → places_in page (front ++ back) ≡ front
places_in-here page [] back here later = places_in-none page back later
places_in-here page (place ∷ front) back here later =
    rw (equal_test (page_of place) page here.0) (ap (λ (places : List ℕ). place ∷ places) (places_in-here page front back here.1 later))

places_in-later : (page other : ℕ) (front back : List ℕ) → AreIn page front → page < other → places_in other (front ++ back) ≡ places_in other back
places_in-later page other [] back here more = refl
places_in-later page other (place ∷ front) back here more =
    rw (differs (page_of place) page other here.0 more) (places_in-later page other front back here.1 more)
  where
    differs : (p page other : ℕ) → p ≡ page → page < other → nat_eq p other ≡ false
    differs p page other is more = grind (arith, nat_tests)

flat_map-above : (f g : ℕ → List ℕ) (p : ℕ) (qs : List ℕ) → AreAbove p qs → ((q : ℕ) → p < q → f q ≡ g q) → flat_map f qs ≡ flat_map g qs
flat_map-above f g p [] all same = refl
flat_map-above f g p (q ∷ qs) all same = rw (same q all.0, flat_map-above f g p qs all.1 same) refl

-- what is made of each page, and of the places in it
abbrev pub by_page : (ℕ → List ℕ → List ℕ) → List ℕ → List ℕ
by_page make places = flat_map (λ page. make page (places_in page places)) (pages_of places)

by_page-split : (make : ℕ → List ℕ → List ℕ) (page place : ℕ) (front back : List ℕ) → AreIn page (place ∷ front) → AreAbove page (map page_of back)
    → by_page make ((place ∷ front) ++ back) ≡ make page (place ∷ front) ++ by_page make back
by_page-split make page place front back here later =
    let whole = (place ∷ front) ++ back in
    let of_page : ℕ → List ℕ = λ page. make page (places_in page whole) in
    ap (flat_map of_page) (pages_of-split page place front back here later)
    ∙ ap (λ (places : List ℕ). make page places ++ flat_map of_page (pages_of back)) (places_in-here page (place ∷ front) back here later)
    ∙ ap (λ (rest : List ℕ). make page (place ∷ front) ++ rest)
    (flat_map-above of_page (λ page. make page (places_in page back)) page (pages_of back) (above-sorted_once page (map page_of back) later)
    (λ other more. ap (make other) (places_in-later page other (place ∷ front) back here more)))

-- ---- rising places

-- rising places from a page's end on lie in later pages
later_pages : (page : ℕ) (places : List ℕ) → RiseFrom (4096 * page + 4096) places → AreAbove page (map page_of places)
later_pages page [] rises = tt
later_pages page (place ∷ places) rises =
    (omega (arith, rises.0), later_pages page places (rise-lower (4096 * page + 4096) (place + 1) places (omega (arith, rises.0)) rises.1))

-- how many places at the front lie in a page
abbrev pub count_in : ℕ → List ℕ → ℕ
count_in page places = length (take_while (λ place. nat_eq (page_of place) page) places)

-- they lie in it, and the others in later pages
pub record IsFirstPage (page n : ℕ) (places : List ℕ) : Type 0 where
  pub here : AreIn page (take n places)
  pub later : AreAbove page (map page_of (drop n places))
  pub rises : RiseFrom 0 (drop n places)
  pub inside : n ≤ length places

pub first_page : (page : ℕ) (places : List ℕ) → RiseFrom (4096 * page) places → IsFirstPage page (count_in page places) places
first_page page [] rises = record { here = tt; later = tt; rises = tt; inside = omega arith }
first_page page (place ∷ places) rises =
    subst (λ (n : ℕ). IsFirstPage page n (place ∷ places)) (sym (ap length (take_while-cons (λ place. nat_eq (page_of place) page) place places)))
    (by_case (nat_eq (page_of place) page) refl (first_page page places (rise-lower (4096 * page) (place + 1) places (omega (arith, rises.0)) rises.1)))
  where
    in_page : (p page : ℕ) → nat_eq p page ≡ true → p ≡ page
    in_page p page h = grind (arith, nat_tests)

    past_page : (place page : ℕ) → 4096 * page ≤ place → nat_eq (place / 4096) page ≡ false → 4096 * page + 4096 ≤ place
    past_page place page low h = let other = differ (place / 4096) page h in omega (arith, low, other)
      where
        differ : (n m : ℕ) → nat_eq n m ≡ false → n ≡ m → ⊥
        differ n m h e = grind (arith, nat_tests)

    by_case : (here : Bool) → nat_eq (page_of place) page ≡ here → IsFirstPage page (count_in page places) places
        → IsFirstPage page (length (cond here (place ∷ take_while (λ place. nat_eq (page_of place) page) places) [])) (place ∷ places)
    by_case true is rest = record { here = (in_page (page_of place) page is, rest.here); later = rest.later; rises = rest.rises; inside = omega (arith, rest.inside) }
    by_case false is rest = record {
      here = tt;
      later = later_pages page (place ∷ places) (past_page place page rises.0 is, rises.1);
      rises = (omega arith, rises.1);
      inside = omega arith;
    }

rise-take : (a n : ℕ) (places : List ℕ) → RiseFrom a places → RiseFrom a (take n places)
rise-take a zero places rises = tt
rise-take a (suc n) [] rises = tt
rise-take a (suc n) (place ∷ places) rises = (rises.0, rise-take (place + 1) n places rises.1)

rise-filter : (a : ℕ) (p : ℕ → Bool) (places : List ℕ) → RiseFrom a places → RiseFrom a (filter p places)
rise-filter a p [] rises = tt
rise-filter a p (place ∷ places) rises = by_case (p place) (rise-filter (place + 1) p places rises.1)
  where
    by_case : (keep : Bool) → RiseFrom (place + 1) (filter p places) → RiseFrom a (cond keep (place ∷ filter p places) (filter p places))
    by_case true rest = (rises.0, rest)
    by_case false rest = rise-lower a (place + 1) (filter p places) (omega (arith, rises.0)) rest

in-filter : (page : ℕ) (places : List ℕ) → AreIn page (places_in page places)
in-filter page [] = tt
in-filter page (place ∷ places) = by_case (nat_eq (page_of place) page) refl (in-filter page places)
  where
    in_page : (p page : ℕ) → nat_eq p page ≡ true → p ≡ page
    in_page p page h = grind (arith, nat_tests)

    by_case : (here : Bool) → nat_eq (page_of place) page ≡ here → AreIn page (places_in page places) → AreIn page (cond here (place ∷ places_in page places) (places_in page places))
    by_case true is rest = (in_page (page_of place) page is, rest)
    by_case false is rest = rest

-- a page has no more of them than it has places
few_from : (page a : ℕ) (places : List ℕ) → a ≤ 4096 * page + 4096 → RiseFrom a places → AreIn page places → length places + a ≤ 4096 * page + 4096
few_from page a [] low rises here = omega (arith, low)
few_from page a (place ∷ places) low rises here =
    let below : place < 4096 * page + 4096 = omega (arith, here.0) in
    let rest = few_from page (place + 1) places (omega (arith, below)) rises.1 here.1 in
    omega (arith, rest, rises.0)

few : (page : ℕ) (places : List ℕ) → RiseFrom 0 places → AreIn page places → length places ≤ 4096
few page [] rises here = omega arith
few page (place ∷ places) rises here =
    let low : 4096 * page ≤ place = omega (arith, here.0) in
    let below : place < 4096 * page + 4096 = omega (arith, here.0) in
    let rest = few_from page (place + 1) places (omega (arith, below)) rises.1 here.1 in
    omega (arith, rest, low)

pub few_in_front : (page n : ℕ) (places : List ℕ) → RiseFrom 0 places → IsFirstPage page n places → length (take n places) ≤ 4096
few_in_front page n places rises first = few page (take n places) (rise-take 0 n places rises) first.here

pub few_in_page : (page : ℕ) (places : List ℕ) → RiseFrom 0 places → length (places_in page places) ≤ 4096
few_in_page page places rises = few page (places_in page places) (rise-filter 0 (λ place. nat_eq (page_of place) page) places rises) (in-filter page places)

-- ---- the first page of rising places

from_page : (place : ℕ) (places : List ℕ) → RiseFrom 0 (place ∷ places) → RiseFrom (4096 * page_of place) (place ∷ places)
from_page place places rises = (omega arith, rises.1)

front_and_back : (n : ℕ) (places : List ℕ) → take n places ++ drop n places ≡ places
front_and_back zero places = refl
front_and_back (suc n) [] = refl
front_and_back (suc n) (place ∷ places) = ap (λ (rest : List ℕ). place ∷ rest) (front_and_back n places)

pub first_page_of : (place : ℕ) (places : List ℕ) → RiseFrom 0 (place ∷ places) → IsFirstPage (page_of place) (count_in (page_of place) (place ∷ places)) (place ∷ places)
first_page_of place places rises = first_page (page_of place) (place ∷ places) (from_page place places rises)

count_in-first : (place : ℕ) (places : List ℕ) → count_in (page_of place) (place ∷ places) ≡ suc (count_in (page_of place) places)
count_in-first place places =
    ap length (take_while-cons (λ other. nat_eq (page_of other) (page_of place)) place places) ∙ rw (equal_test (page_of place) (page_of place) refl) refl

pub some_in_first : (place : ℕ) (places : List ℕ) → 1 ≤ count_in (page_of place) (place ∷ places)
some_in_first place places = omega (arith, count_in-first place places)

pub by_page-first : (make : ℕ → List ℕ → List ℕ) (place : ℕ) (places : List ℕ) (n : ℕ) → RiseFrom 0 (place ∷ places) → n ≡ count_in (page_of place) (place ∷ places)
    → by_page make (place ∷ places) ≡ make (page_of place) (take n (place ∷ places)) ++ by_page make (drop n (place ∷ places))
by_page-first make place places n rises is =
    let m = count_in (page_of place) places in
    let count : n ≡ suc m = is ∙ count_in-first place places in
    let first : IsFirstPage (page_of place) (suc m) (place ∷ places) = rw (count_in-first place places) at (first_page_of place places rises) in
    rw count
    (ap (by_page make) (sym (ap (λ (rest : List ℕ). place ∷ rest) (front_and_back m places)))
    ∙ by_page-split make (page_of place) place (take m places) (drop m places) first.here first.later)

-- the places of all pages are all places
pub all_pages : (most : ℕ) (places : List ℕ) → length places ≤ most → RiseFrom 0 places → by_page (λ page places. places) places ≡ places
unfolding sorted_once
all_pages zero [] fits rises = refl
all_pages zero (place ∷ places) fits rises = absurd (omega (arith, fits))
all_pages (suc most) [] fits rises = refl
all_pages (suc most) (place ∷ places) fits rises =
    let n = count_in (page_of place) (place ∷ places) in
    let first = first_page_of place places rises in
    let shorter : length (drop n (place ∷ places)) ≤ most = less_left n (place ∷ places) most (some_in_first place places) fits in
    by_page-first (λ page places. places) place places n rises refl
    ∙ ap (λ (rest : List ℕ). take n (place ∷ places) ++ rest) (all_pages most (drop n (place ∷ places)) shorter first.rises)
    ∙ front_and_back n (place ∷ places)
  where
    less_left : (n : ℕ) (xs : List ℕ) (most : ℕ) → 1 ≤ n → length xs ≤ suc most → length (drop n xs) ≤ most
    less_left n xs most some fits = omega (arith, length-drop n xs, some, fits)

-- the blocks of rising places are that of the first page, and those of the others
pub page_blocks-first : (place : ℕ) (places : List ℕ) (n : ℕ) → RiseFrom 0 (place ∷ places) → n ≡ count_in (page_of place) (place ∷ places)
    → page_blocks (place ∷ places) ≡ page_block (page_of place) (take n (place ∷ places)) ++ page_blocks (drop n (place ∷ places))
unfolding page_blocks
page_blocks-first place places n rises is = by_page-first page_block place places n rises is

-- what the loop over the pages needs of rising places of which there are some
pub record FirstPage (n : ℕ) (places : List ℕ) : Type 0 where
  pub few : length (take n places) ≤ 4096
  pub some : 1 ≤ n
  pub inside : n ≤ length places
  pub rises : RiseFrom 0 (drop n places)
  pub split : page_blocks places ≡ page_block (page_of (slice_index places 0)) (take n places) ++ page_blocks (drop n places)

pub first_page_is : (n : ℕ) (places : List ℕ) → 0 < length places → RiseFrom 0 places → n ≡ count_in (page_of (slice_index places 0)) places → FirstPage n places
first_page_is n [] some rises is = absurd (omega (arith, some))
first_page_is n (place ∷ places) some rises is =
    let first : IsFirstPage (page_of place) n (place ∷ places) = rw is (first_page_of place places rises) in
    record {
      few = few_in_front (page_of place) n (place ∷ places) rises first;
      some = omega (arith, is, some_in_first place places);
      inside = first.inside;
      rises = first.rises;
      split = page_blocks-first place places n rises is;
    }

-- no places have no blocks
pub page_blocks-none : (places : List ℕ) → length places ≡ 0 → page_blocks places ≡ []
unfolding page_blocks sorted_once
page_blocks-none [] none = refl
page_blocks-none (place ∷ places) none = absurd (omega (arith, none))
