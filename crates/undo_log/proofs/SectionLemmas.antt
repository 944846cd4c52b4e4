-- What the calls of a log leave of its sections.
use Rattle.std.proofs.Common.{◌≡◌, ◌<◌, ◌≤◌, ℕ, suc, ◌+◌, ◌-◌, ◌≢◌, Bool, true, false, nat_eq, List, [], ◌∷◌, ◌++◌, length, reverse, take, drop, get_or, Option, Some, None, Result, Ok, Err, refl, ap, sym, ◌∙◌, arith}
use Rattle.std.specs.List.{slice_get}
use Rattle.std.specs.Option.{option_to_list}
use Rattle.std.specs.Result.{OnErr}
use Rattle.std.proofs.lemmas.Bool.Decides.{nat_tests}
use Rattle.std.proofs.lemmas.List.{append-nil, drop_all, length_push, get_or-reverse, length-append, length-reverse, length-take, reverse-append, drop-append-le, take-append-le, take-append-drop, take-take, length-take-le}
use Rattle.std.proofs.lemmas.Option.{slice_get_within, get_or_from_slice_get}
use Rattle.std.proofs.Math.Seq.{drop-cons}
use Rattle.undo_log.specs.Log.{committed, has_room, last_change, noted, without_last}
use Rattle.undo_log.specs.Sections.{AreStarts, sections}
use Rattle.undo_log.specs.declared.mark.OpenMark.{OpenMark}

-- a list is not empty, as the code tests it
pub some_in : {X : Type 0} (xs : List X) (count : ℕ) (empty : Bool) → empty ≡ false → empty ≡ nat_eq count 0 → count ≡ length xs → 0 < length (reverse xs)
some_in xs count empty some test long =
    let positive : 0 < count = grind (arith, nat_tests) in
    omega (arith, length-reverse xs)

-- what holds anyway holds of an error
pub on_error : {T E : Type 0} {P : Type 0} (result : Result T E) → P → OnErr result P
on_error (Ok value) holds = tt
on_error (Err error) holds = holds

-- each mark has its section
pub length-sections : {C P : Type 0} (marks : List (OpenMark P)) (changes : List C) → length (sections marks changes) ≡ length marks
length-sections [] changes = refl
length-sections (newest ∷ older) changes = ap suc (length-sections older (take newest.start changes))

-- one more change
pub sections-push : {C P : Type 0} (marks : List (OpenMark P)) (changes : List C) (change : C) → AreStarts (length changes) marks → 0 < length marks
    → sections marks (changes ++ change ∷ []) ≡ noted change (sections marks changes)
sections-push [] changes change starts some = absurd (omega arith)
sections-push (newest ∷ older) changes change starts some =
    let low : newest.start ≤ length changes = starts.0 in
    rw (drop-append-le newest.start changes (change ∷ []) low, take-append-le newest.start changes (change ∷ []) low, reverse-append) refl

pub starts-push : {P : Type 0} (marks : List (OpenMark P)) (count more : ℕ) → AreStarts count marks → 0 < length marks → count ≤ more → AreStarts more marks
starts-push [] count more starts some le = absurd (omega arith)
starts-push (newest ∷ older) count more starts some le = (omega (arith, starts.0), starts.1)

-- the newest mark closed
pub sections-closed : {C P : Type 0} (newest : OpenMark P) (older : List (OpenMark P)) (changes : List C) → AreStarts (length changes) (newest ∷ older) → 0 < length older
    → sections older changes ≡ committed (sections (newest ∷ older) changes)
sections-closed newest [] changes starts some = absurd (omega arith)
sections-closed {C} {P} newest (next ∷ older) changes starts some =
    let low : newest.start ≤ length changes = starts.0 in
    let lower : next.start ≤ newest.start = starts.1.0 in
    let long : next.start ≤ length (take newest.start changes) = omega (arith, length-take-le newest.start changes low) in
    let parts : drop next.start changes ≡ drop next.start (take newest.start changes) ++ drop newest.start changes =
    ap (drop next.start) (sym (take-append-drop newest.start changes)) ∙ drop-append-le next.start (take newest.start changes) (drop newest.start changes) long in
    let changed : reverse (drop next.start changes) ≡ reverse (drop newest.start changes) ++ reverse (drop next.start (take newest.start changes)) =
    ap reverse parts ∙ reverse-append (drop next.start (take newest.start changes)) (drop newest.start changes) in
    let rest : take next.start (take newest.start changes) ≡ take next.start changes = take-take next.start newest.start changes lower in
    rw (changed, rest) refl

pub starts-closed : {P : Type 0} (newest : OpenMark P) (older : List (OpenMark P)) (count : ℕ) → AreStarts count (newest ∷ older) → 0 < length older → AreStarts count older
starts-closed newest [] count starts some = absurd (omega arith)
starts-closed newest (next ∷ older) count starts some = (omega (arith, starts.0, starts.1.0), starts.1.1)

-- with a mark open there is room in the list itself
pub room_in : {C P : Type 0} (marks : List (OpenMark P)) (changes : List C) (room : Bool) → 0 < length marks
    → has_room (record { marks = sections marks changes; room = room }) ≡ true → room ≡ true
room_in [] changes room some has = absurd (omega arith)
room_in (newest ∷ older) changes room some has = has

-- ---- the last of a list

-- the newest mark is the last of the list that the code keeps
pub newest_first : {X : Type 0} (shown xs : List X) (last : X) → shown ≡ xs → Some last ≡ slice_get shown (length shown - 1) → reverse xs ≡ last ∷ drop 1 (reverse xs)
newest_first {X} shown xs last same read =
    let is : slice_get xs (length xs - 1) ≡ Some last = sym (read ∙ ap (λ (ys : List X). slice_get ys (length ys - 1)) same) in
    let within : length xs - 1 < length xs = slice_get_within xs (length xs - 1) last is in
    let place : length xs - 1 - 0 ≡ length xs - 1 = omega arith in
    let first : get_or (reverse xs) 0 last ≡ last =
    get_or-reverse xs 0 last (omega arith) ∙ ap (λ k. get_or xs k last) place ∙ get_or_from_slice_get xs (length xs - 1) last last is in
    drop-cons (reverse xs) 0 last (omega (arith, length-reverse xs)) ∙ ap (λ (x : X). x ∷ drop 1 (reverse xs)) first

-- from a list that is not empty something is popped
pub popped : {X : Type 0} (xs front : List X) (last : Option X) (count : ℕ) → count ≡ length xs → xs ≡ front ++ option_to_list last → front ≡ take (count - 1) xs → 0 < count
    → (x : X) × (last ≡ Some x) × (xs ≡ front ++ x ∷ [])
popped xs front None count long items rest some =
    let same : length xs ≡ length front = ap length (items ∙ append-nil front) in
    absurd (omega (arith, ap length rest, length-take (count - 1) xs))
popped xs front (Some last) count long items rest some = (last, refl, items)

-- nothing was changed since the newest mark
pub nothing_since : {C P : Type 0} (marks older : List (OpenMark P)) (newest : OpenMark P) (changes : List C) → marks ≡ newest ∷ older → length changes ≡ newest.start
    → (None ≡ last_change (sections marks changes)) × (sections marks changes ≡ without_last (sections marks changes))
nothing_since {C} marks older newest changes is none =
    let no_rest : drop newest.start changes ≡ [] = drop_all newest.start changes (omega (arith, none)) in
    rw (is, no_rest) (refl, refl)

-- the last change since the newest mark is taken out
pub taken_since : {C P : Type 0} (marks older : List (OpenMark P)) (newest : OpenMark P) (changes front : List C) (last : Option C) (count : ℕ)
    → count ≡ length changes → marks ≡ newest ∷ older → AreStarts (length changes) marks → count ≢ newest.start
    → changes ≡ front ++ option_to_list last → front ≡ take (count - 1) changes
    → (last ≡ last_change (sections marks changes)) × (sections marks front ≡ without_last (sections marks changes)) × AreStarts (length front) marks
taken_since {C} {P} marks older newest changes front last count long is starts some items rest =
    let given : AreStarts (length changes) (newest ∷ older) = rw is at starts in
    let low : newest.start ≤ length changes = given.0 in
    let positive : 0 < count = omega arith in
    let there = popped changes front last count long items rest positive in
    let shorter : length changes ≡ length front + 1 = ap length there.2 ∙ length_push front there.0 in
    let fewer : AreStarts (length front) (newest ∷ older) = (omega arith, given.1) in
    let whole : sections marks changes ≡ noted there.0 (sections (newest ∷ older) front) =
    ap (λ (ms : List (OpenMark P)). sections ms changes) is ∙ ap (sections (newest ∷ older)) there.2
    ∙ sections-push (newest ∷ older) front there.0 fewer (omega arith) in
    let rest_is : sections marks front ≡ sections (newest ∷ older) front = ap (λ (ms : List (OpenMark P)). sections ms front) is in
    (there.1 ∙ sym (ap last_change whole), rest_is ∙ sym (ap without_last whole), rw is fewer)

-- the newest mark is popped, and an older one is left
pub popped_newest : {X : Type 0} (xs front : List X) (last : Option X) (count : ℕ) → count ≡ length xs → xs ≡ front ++ option_to_list last → front ≡ take (count - 1) xs → 0 < length (reverse front)
    → (x : X) × (reverse xs ≡ x ∷ reverse front)
popped_newest xs front last count long items rest some =
    let shorter : length front ≤ length xs = omega (arith, ap length items, length-append front (option_to_list last)) in
    let there = popped xs front last count long items rest (omega (arith, length-reverse front)) in
    (there.0, ap reverse there.2 ∙ reverse-append front (there.0 ∷ []))
