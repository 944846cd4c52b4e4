-- Reading argument slots one after the other.
use Rattle.std.proofs.Common.{◌≡◌, ◌<◌, ℕ, zero, suc, ◌+◌, ◌-◌, List, [], ◌∷◌, ◌++◌, length, map, get_or, set, replicate, Option, Some, None, option_map, refl, ap, sym, ◌∙◌, arith}
use Rattle.std.specs.List.{range_with_len}
use Rattle.std.proofs.lemmas.List.{set_at, append_assoc}
use Rattle.std.proofs.lemmas.List.FromFn.{get_or-map-range_with_len, length-map-range_with_len, map-range_with_len_more}
use Rattle.guest_memory.specs.GuestMemory.{number_of}
use Rattle.guest_memory.specs.declared.segment.Segment.{Segment}
use Rattle.service_thunks.specs.Arguments.{all_there, arguments, most_arguments, slot_at, slots}

-- what a mapped option was
was_some : {X Y : Type 0} (f : X → Y) (o : Option X) (y : Y) → option_map f o ≡ Some y → (x : X) × (o ≡ Some x) × (f x ≡ y)
was_some f None y e = absurd cc
was_some f (Some x) y e = (x, refl, cc)

-- one more value after the others
all_there-push : (values : List (Option ℕ)) (numbers : List ℕ) (value : ℕ) → all_there values ≡ Some numbers → all_there (values ++ Some value ∷ []) ≡ Some (numbers ++ value ∷ [])
all_there-push [] numbers value e = let nothing : [] ≡ numbers = cc in rw (← nothing) refl
all_there-push (None ∷ rest) numbers value e = absurd cc
all_there-push (Some first ∷ rest) numbers value e =
    let parts = was_some (λ (values : List ℕ). first ∷ values) (all_there rest) numbers e in
    ap (option_map (λ (values : List ℕ). first ∷ values)) (all_there-push rest parts.0 value parts.1) ∙ ap (λ (values : List ℕ). Some (values ++ value ∷ [])) parts.2

-- there are as many values
length-all_there : (values : List (Option ℕ)) (numbers : List ℕ) → all_there values ≡ Some numbers → length numbers ≡ length values
length-all_there [] numbers e = let nothing : [] ≡ numbers = cc in rw (← nothing) refl
length-all_there (None ∷ rest) numbers e = absurd cc
length-all_there (Some first ∷ rest) numbers e =
    let parts = was_some (λ (values : List ℕ). first ∷ values) (all_there rest) numbers e in
    sym (ap length parts.2) ∙ ap suc (length-all_there rest parts.0 parts.1)

-- a value that is not there
one_missing : (values : List (Option ℕ)) (i : ℕ) → i < length values → get_or values i None ≡ None → all_there values ≡ None
one_missing [] i inside missing = absurd (omega arith)
one_missing (None ∷ rest) i inside missing = refl
one_missing (Some first ∷ rest) zero inside missing = absurd cc
one_missing (Some first ∷ rest) (suc i) inside missing = rw (one_missing rest i (omega arith) missing) refl

module _ (segments : List Segment) (sp : ℕ) where
  -- the slots that can be read, as many as there are
  count-slots : (i : ℕ) (numbers : List ℕ) → slots segments sp i ≡ Some numbers → length numbers ≡ i
  count-slots i numbers e =
      let read : ℕ → Option ℕ = λ i. number_of segments (slot_at sp i) 8 in
      length-all_there (map read (range_with_len 0 i)) numbers e ∙ length-map-range_with_len read 0 i

  more_slots : (i v : ℕ) (numbers : List ℕ) → slots segments sp i ≡ Some numbers → number_of segments (slot_at sp i) 8 ≡ Some v → slots segments sp (i + 1) ≡ Some (numbers ++ v ∷ [])
  more_slots i v numbers so_far next =
      let read : ℕ → Option ℕ = λ i. number_of segments (slot_at sp i) 8 in
      ap all_there (map-range_with_len_more read 0 i i (omega arith) ∙ ap (λ (last : Option ℕ). map read (range_with_len 0 i) ++ last ∷ []) next)
      ∙ all_there-push (map read (range_with_len 0 i)) numbers v so_far

  -- the next slot is read
  pub next_slot : (i v : ℕ) (read : List ℕ) → i < most_arguments → arguments segments sp i ≡ Some read → number_of segments (slot_at sp i) 8 ≡ Some v → arguments segments sp (i + 1) ≡ Some (set read i v)
  next_slot i v read few so_far next =
      let zeros : List ℕ = replicate (most_arguments - (i + 1)) 0 in
      let parts = was_some (λ (values : List ℕ). values ++ replicate (most_arguments - i) 0) (slots segments sp i) read so_far in
      let numbers : List ℕ = parts.0 in
      let one : most_arguments - i ≡ suc (most_arguments - (i + 1)) = omega arith in
      let was : numbers ++ 0 ∷ zeros ≡ read = ap (λ (n : ℕ). numbers ++ replicate n 0) (sym one) ∙ parts.2 in
      let put : set read i v ≡ numbers ++ v ∷ zeros = ap (λ (slots : List ℕ). set slots i v) (sym was) ∙ set_at numbers 0 zeros v i (count-slots i numbers parts.1) in
      ap (option_map (λ (values : List ℕ). values ++ zeros)) (more_slots i v numbers parts.1 next)
      ∙ ap Some (append_assoc numbers (v ∷ []) zeros ∙ sym put)

  -- or can't be
  pub no_slot : (i n : ℕ) → i < n → number_of segments (slot_at sp i) 8 ≡ None → arguments segments sp n ≡ None
  no_slot i n lt none =
      let read : ℕ → Option ℕ = λ i. number_of segments (slot_at sp i) 8 in
      let long = length-map-range_with_len read 0 n in
      let missing : get_or (map read (range_with_len 0 n)) i None ≡ None = get_or-map-range_with_len read 0 n i i None lt (omega arith) ∙ none in
      ap (option_map (λ (values : List ℕ). values ++ replicate (most_arguments - n) 0)) (one_missing (map read (range_with_len 0 n)) i (omega arith) missing)
