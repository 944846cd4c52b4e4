-- The places of the rows that count, by interface, as long as nothing changes.
use Rattle.std.specs.Prelude.{◌≡◌, ℕ, ◌≤◌, ◌-◌, ◌^◌, Bool, false, ◌&&◌, nat_eq, nat_lt, List, [], ◌∷◌, ◌++◌, filter, slice_get, slice_index_or, option_map, Option, Some, None, if◌then◌else◌}
use Rattle.record_rows.specs.Asking.{counts_at}
use Rattle.record_rows.specs.Index.{RowKey, places_of}
use Rattle.record_rows.specs.Rows.{RowsView}
use Rattle.record_rows.specs.declared.shown_places.ShownList.{ShownList}

-- whether a stamp is that of the last change; the largest number is that of no change
abbrev pub is_fresh : (changes stamp : ℕ) → Bool
is_fresh changes stamp = nat_eq stamp changes && nat_lt changes (2 ^ 64 - 1)

-- what is listed, if nothing changed since
abbrev pub listed_in : (changes : ℕ) → ShownList → Option (List ℕ)
listed_in changes list = if is_fresh changes list.stamp then Some list.places.items else None

-- what is listed of the interface with a number
abbrev pub listed_at : (number : ℕ) → List (Option (List ℕ)) → Option (List ℕ)
listed_at number listed = slice_index_or listed number None

-- one more place, if it is chosen
abbrev pub with_place_if : (chosen : Bool) → (place : ℕ) → Option (List ℕ) → Option (List ℕ)
with_place_if chosen place listed = if chosen then option_map (λ (places : List ℕ). places ++ place ∷ []) listed else listed

-- A list has one more place, or is out of date.
pub record IsAddedOrOld (place : ℕ) (old new : ShownList) : Type 0 where
  pub stamp : new.stamp ≤ old.stamp
  pub same : nat_eq new.stamp 0 ≡ false → new.stamp ≡ old.stamp
  pub added : nat_eq new.stamp 0 ≡ false → new.places.items ≡ old.places.items ++ place ∷ []

-- Of the interface with a number this is listed, or nothing. Of the others the same is listed as before.
pub record IsListedAt (number : ℕ) (wanted : Option (List ℕ)) (old new : List (Option (List ℕ))) : Type 0 where
  pub others : (other : ℕ) → nat_eq other number ≡ false → listed_at other new ≡ listed_at other old
  pub here : (places : List ℕ) → listed_at number new ≡ Some places → wanted ≡ Some places

-- There was a change, and no stamp is later than the last one.
pub record AreStamped (changes : ℕ) (lists : List ShownList) : Type 0 where
  pub some : 1 ≤ changes
  pub each : (number : ℕ) (one : ShownList) → slice_get lists number ≡ Some one → one.stamp ≤ changes

-- What is listed of an interface are the places of those of its rows, by a test of their keys, that count.
pub record AreShownPlaces (by : (interface : ℕ) → RowKey → Bool) (rows : RowsView) (keys : List RowKey) (listed : List (Option (List ℕ))) : Type 0 where
  pub each : (number : ℕ) (places : List ℕ) → listed_at number listed ≡ Some places → places ≡ filter (counts_at rows) (places_of (by number) keys)
