-- Lists of places that become longer and shorter.
use Rattle.std.proofs.Common.{◌≡◌, ◌-◌, ◌<◌, ℕ, Bool, true, false, ◌&&◌, nat_eq, List, [], ◌∷◌, ◌++◌, get_or, set, length, map, take, vec_len, refl, sym, ap, subst, ◌∙◌, inl, inr, arith}
use Rattle.std.specs.Prelude.{Err, Ok, OnErr, Result, Vec, if◌then◌else◌}
use Rattle.std.specs.declared.alloc.Global.{Global}
use Rattle.std.proofs.lemmas.Bool.{cases_Bool, cases_eq, eq-eqb, ne_eqb}
use Rattle.std.proofs.lemmas.List.{append-nil, get_or-map, get_or-set_other, get_or-set_same, length-map, map-set, set-get_or}
use Rattle.record_rows.specs.Index.{RowKey, is_other_on, is_key_named, is_key_on, is_strong_on, places_of}
use Rattle.record_rows.specs.IndexInside.{AreListed, AreNamedLonger, AreNamedShorter, AreSame, EachIsLonger, EachIsShorter, IsIndexed, IsLonger, IsShorter, is_holding, is_other, list_at, without_last}
use Rattle.record_rows.specs.declared.interface_places.InterfacePlaces.{InterfacePlaces}
use Rattle.record_rows.proofs.IndexLemmas.{place_if, places_more, without_pushed}

-- ---- lists by number

pub same_on : (a b c : List (List ℕ)) → AreSame a b → AreSame b c → AreSame a c
same_on a b c first second = record { each = λ number. second.each number ∙ first.each number }

-- the list of a number that is set
pub list_set : (lists : List (List ℕ)) (number other : ℕ) (list : List ℕ) → number < length lists → list_at other (set lists number list) ≡ (if nat_eq number other then list else list_at other lists)
list_set lists number other list within = elim (cases_eq number other) [
  | inl same ↦ let on = eq-eqb number other same in rw on (ap (λ (n : ℕ). get_or (set lists number list) n []) (sym same) ∙ get_or-set_same lists number list [] within)
  | inr apart ↦ let off = ne_eqb number other apart in rw off (get_or-set_other lists number other list [] (λ same. apart (sym same)))
]

and_true : (b : Bool) → (b && true) ≡ b
and_true true = refl
and_true false = refl

pub longer_by_set : (lists : List (List ℕ)) (number place : ℕ) → number < length lists → IsLonger true number place lists (set lists number (list_at number lists ++ place ∷ []))
longer_by_set lists number place within = record { each = each }
  where
    each : (other : ℕ) → list_at other (set lists number (list_at number lists ++ place ∷ [])) ≡ (if nat_eq number other && true then list_at other lists ++ place ∷ [] else list_at other lists)
    each other =
        list_set lists number other (list_at number lists ++ place ∷ []) within ∙ elim (cases_eq number other) [
          | inl same ↦ let on = eq-eqb number other same in rw (on) (ap (λ (n : ℕ). list_at n lists ++ place ∷ []) same)
          | inr apart ↦ let off = ne_eqb number other apart in rw (off) refl
        ]

pub shorter_by_set : (lists : List (List ℕ)) (number : ℕ) → number < length lists → IsShorter true number lists (set lists number (without_last (list_at number lists)))
shorter_by_set lists number within = record { each = each }
  where
    each : (other : ℕ) → list_at other (set lists number (without_last (list_at number lists))) ≡ (if nat_eq number other && true then without_last (list_at other lists) else list_at other lists)
    each other =
        list_set lists number other (without_last (list_at number lists)) within ∙ elim (cases_eq number other) [
          | inl same ↦ let on = eq-eqb number other same in rw (on) (ap (λ (n : ℕ). without_last (list_at n lists)) same)
          | inr apart ↦ let off = ne_eqb number other apart in rw (off) refl
        ]

-- ---- one more key, and one fewer

module _ (test : (number : ℕ) → RowKey → Bool) where
  listed_more : (keys : List RowKey) (key : RowKey) (old new : List (List ℕ)) → ((number : ℕ) → list_at number new ≡ (if test number key then list_at number old ++ length keys ∷ [] else list_at number old))
      → AreListed test keys old → AreListed test (keys ++ key ∷ []) new
  listed_more keys key old new longer are = record { each = each }
    where
      each : (number : ℕ) → list_at number new ≡ places_of (test number) (keys ++ key ∷ [])
      each number =
          let more = places_more (test number) keys key in
          let was = are.each number in
          elim (cases_Bool (test number key)) [
            | inl on ↦
                let now : list_at number new ≡ list_at number old ++ length keys ∷ [] = longer number ∙ rw on refl in
                let last : place_if (test number) (length keys) key ≡ length keys ∷ [] = rw on refl in
                now ∙ ap (λ (l : List ℕ). l ++ length keys ∷ []) was ∙ ap (λ (l : List ℕ). places_of (test number) keys ++ l) (sym last) ∙ sym more
            | inr off ↦
                let now : list_at number new ≡ list_at number old = longer number ∙ rw off refl in
                let last : place_if (test number) (length keys) key ≡ [] = rw off refl in
                now ∙ was ∙ sym (append-nil (places_of (test number) keys)) ∙ ap (λ (l : List ℕ). places_of (test number) keys ++ l) (sym last) ∙ sym more
          ]

  listed_fewer : (keys : List RowKey) (key : RowKey) (old new : List (List ℕ)) → ((number : ℕ) → list_at number new ≡ (if test number key then without_last (list_at number old) else list_at number old))
      → AreListed test (keys ++ key ∷ []) old → AreListed test keys new
  listed_fewer keys key old new shorter are = record { each = each }
    where
      each : (number : ℕ) → list_at number new ≡ places_of (test number) keys
      each number =
          let was = are.each number ∙ places_more (test number) keys key in
          elim (cases_Bool (test number key)) [
            | inl on ↦
                let now : list_at number new ≡ without_last (list_at number old) = shorter number ∙ rw on refl in
                let last : place_if (test number) (length keys) key ≡ length keys ∷ [] = rw on refl in
                now ∙ ap without_last (was ∙ ap (λ (l : List ℕ). places_of (test number) keys ++ l) last) ∙ without_pushed (places_of (test number) keys) (length keys)
            | inr off ↦
                let now : list_at number new ≡ list_at number old = shorter number ∙ rw off refl in
                let last : place_if (test number) (length keys) key ≡ [] = rw off refl in
                now ∙ was ∙ ap (λ (l : List ℕ). places_of (test number) keys ++ l) last ∙ append-nil (places_of (test number) keys)
          ]

-- ---- all lists

module _ (keys : List RowKey) (key : RowKey) (old new : InterfacePlaces) (names after : List (List ℕ)) where
  all_longer : (place : ℕ) → EachIsLonger key place old new → (number : ℕ) → list_at number new.all ≡ (if is_key_on number key then list_at number old.all ++ place ∷ [] else list_at number old.all)
  all_longer place longer number = longer.all.each number ∙ ap (λ (b : Bool). if b then list_at number old.all ++ place ∷ [] else list_at number old.all) (and_true (nat_eq key.0 number))

  pub indexed_more : (place : ℕ) → place ≡ length keys → IsIndexed keys old names → EachIsLonger key place old new → AreNamedLonger key place names after → IsIndexed (keys ++ key ∷ []) new after
  indexed_more place last are longer more =
      let all = subst (λ (n : ℕ). (number : ℕ) → list_at number new.all ≡ (if is_key_on number key then list_at number old.all ++ n ∷ [] else list_at number old.all)) last (all_longer place longer) in
      let each = subst (λ (n : ℕ). EachIsLonger key n old new) last longer in
      let named = subst (λ (n : ℕ). AreNamedLonger key n names after) last more in
      record {
        all = listed_more is_key_on keys key old.all new.all all are.all;
        others = listed_more is_other_on keys key old.others new.others each.others.each are.others;
        strong = listed_more is_strong_on keys key old.strong new.strong each.strong.each are.strong;
        named = listed_more is_key_named keys key names after named.each are.named;
      }

  pub indexed_fewer : IsIndexed (keys ++ key ∷ []) old names → EachIsShorter key old new → AreNamedShorter key names after → IsIndexed keys new after
  indexed_fewer are shorter fewer =
      let all : (number : ℕ) → list_at number new.all ≡ (if is_key_on number key then without_last (list_at number old.all) else list_at number old.all) =
      λ number. shorter.all.each number ∙ ap (λ (b : Bool). if b then without_last (list_at number old.all) else list_at number old.all) (and_true (nat_eq key.0 number)) in
      record {
        all = listed_fewer is_key_on keys key old.all new.all all are.all;
        others = listed_fewer is_other_on keys key old.others new.others shorter.others.each are.others;
        strong = listed_fewer is_strong_on keys key old.strong new.strong shorter.strong.each are.strong;
        named = listed_fewer is_key_named keys key names after fewer.each are.named;
      }

-- ---- one more key, which is taken out again

back_again : (chosen : Bool) (number place : ℕ) (old mid new : List (List ℕ)) → IsLonger chosen number place old mid → IsShorter chosen number mid new → AreSame old new
back_again chosen number place old mid new longer shorter = record { each = each }
  where
    each : (other : ℕ) → list_at other new ≡ list_at other old
    each other =
        shorter.each other ∙ elim (cases_Bool (nat_eq number other && chosen)) [
          | inl on ↦
              let pushed : list_at other mid ≡ list_at other old ++ place ∷ [] = longer.each other ∙ rw on refl in
              rw on (ap without_last pushed ∙ without_pushed (list_at other old) place)
          | inr off ↦
              let same : list_at other mid ≡ list_at other old = longer.each other ∙ rw off refl in
              rw off same
        ]

listed_same : (test : (number : ℕ) → RowKey → Bool) (keys : List RowKey) (old new : List (List ℕ)) → AreListed test keys old → AreSame old new → AreListed test keys new
listed_same test keys old new are same = record { each = λ number. same.each number ∙ are.each number }

pub indexed_back : (keys : List RowKey) (key : RowKey) (place : ℕ) (old mid new : InterfacePlaces) (names after : List (List ℕ))
    → IsIndexed keys old names → EachIsLonger key place old mid → EachIsShorter key mid new → AreSame names after → IsIndexed keys new after
indexed_back keys key place old mid new names after are longer shorter same = record {
  all = listed_same is_key_on keys old.all new.all are.all (back_again true key.0 place old.all mid.all new.all longer.all shorter.all);
  others = listed_same is_other_on keys old.others new.others are.others (back_again (is_other key.3) key.0 place old.others mid.others new.others longer.others shorter.others);
  strong = listed_same is_strong_on keys old.strong new.strong are.strong (back_again (is_holding key.3) key.0 place old.strong mid.strong new.strong longer.strong shorter.strong);
  named = listed_same is_key_named keys names after are.named same;
}

-- ---- lists as they are kept

abbrev pub lists_in : List (Vec ℕ Global) → List (List ℕ)
lists_in lists = map (λ (list : Vec ℕ Global). list.items) lists

-- a list that was read at a number
list_read : (lists : List (Vec ℕ Global)) (number : ℕ) (list : Vec ℕ Global) → number < length lists → list ≡ get_or lists number list → list.items ≡ list_at number (lists_in lists)
list_read lists number list within is =
    ap (λ (one : Vec ℕ Global). one.items) is ∙ sym (get_or-map (λ (one : Vec ℕ Global). one.items) lists number list [] within)

lists_set : (lists : List (Vec ℕ Global)) (number : ℕ) (list : Vec ℕ Global) → lists_in (set lists number list) ≡ set (lists_in lists) number list.items
lists_set lists number list = map-set (λ (one : Vec ℕ Global). one.items) lists number list

pub lists_long : (lists : List (Vec ℕ Global)) → length (lists_in lists) ≡ length lists
lists_long lists = length-map lists (λ (one : Vec ℕ Global). one.items)

pub lists_pushed : (lists : List (Vec ℕ Global)) (number place : ℕ) (before after : Vec ℕ Global) → number < length lists → before ≡ get_or lists number before → after.items ≡ before.items ++ place ∷ []
    → IsLonger true number place (lists_in lists) (lists_in (set lists number after))
lists_pushed lists number place before after within is pushed =
    let list : after.items ≡ list_at number (lists_in lists) ++ place ∷ [] = pushed ∙ ap (λ (l : List ℕ). l ++ place ∷ []) (list_read lists number before within is) in
    let all : lists_in (set lists number after) ≡ set (lists_in lists) number (list_at number (lists_in lists) ++ place ∷ []) = lists_set lists number after ∙ ap (set (lists_in lists) number) list in
    subst (IsLonger true number place (lists_in lists)) (sym all) (longer_by_set (lists_in lists) number place (omega (arith, within, lists_long lists)))

pub lists_kept : (lists : List (Vec ℕ Global)) (number : ℕ) (before after : Vec ℕ Global) → number < length lists → before ≡ get_or lists number before → after.items ≡ before.items
    → AreSame (lists_in lists) (lists_in (set lists number after))
lists_kept lists number before after within is kept =
    let list : after.items ≡ list_at number (lists_in lists) = kept ∙ list_read lists number before within is in
    let all : lists_in (set lists number after) ≡ lists_in lists = lists_set lists number after ∙ ap (set (lists_in lists) number) list ∙ set-get_or (lists_in lists) number [] in
    record { each = λ other. ap (list_at other) all }

pub lists_popped : (lists : List (Vec ℕ Global)) (number : ℕ) (before after : Vec ℕ Global) → number < length lists → before ≡ get_or lists number before → after.items ≡ take (vec_len before - 1) before.items
    → IsShorter true number (lists_in lists) (lists_in (set lists number after))
lists_popped lists number before after within is popped =
    let read = list_read lists number before within is in
    let list : after.items ≡ without_last (list_at number (lists_in lists)) =
    popped ∙ ap (λ (n : ℕ). take (n - 1) before.items) before.ok.0 ∙ ap without_last read in
    let all : lists_in (set lists number after) ≡ set (lists_in lists) number (without_last (list_at number (lists_in lists))) = lists_set lists number after ∙ ap (set (lists_in lists) number) list in
    subst (IsShorter true number (lists_in lists)) (sym all) (shorter_by_set (lists_in lists) number (omega (arith, within, lists_long lists)))

-- whatever comes before an addition that fails, or succeeds
pub longer_after : (number place : ℕ) (a b c : List (List ℕ)) → AreSame a b → IsLonger true number place b c → IsLonger true number place a c
longer_after number place a b c same longer = record { each = λ other. longer.each other ∙ ap (λ (l : List ℕ). if nat_eq number other && true then l ++ place ∷ [] else l) (same.each other) }

pub on_err : {T E : Type 0} {P : Type 0} (result : Result T E) → P → OnErr result P
on_err (Ok value) holds = tt
on_err (Err error) holds = holds
