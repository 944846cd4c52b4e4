-- Lists of numbers, as the code makes them.
use Rattle.std.specs.Prelude.{◌≡◌, ℕ, nat_eq, List, [], ◌∷◌, ◌++◌, if◌then◌else◌}
use Rattle.std.specs.BTreeSet.{BTreeSet, contains}
use Rattle.std.specs.List.{list_any}
use Rattle.std.specs.Ordering.{nat_cmp}

-- numbers, with one more after them if it is new
abbrev pub with_number : ℕ → List ℕ → List ℕ
with_number number found = if list_any (λ other. nat_eq other number) found then found else found ++ number ∷ []

-- numbers, and after them those of a list that are new, each once
abbrev pub joined : List ℕ → List ℕ → List ℕ
joined found [] = found
joined found (number ∷ numbers) = joined (with_number number found) numbers

-- a set has exactly the numbers of a list
abbrev pub HasSeen : List ℕ → BTreeSet ℕ → Type 0
HasSeen found seen = (number : ℕ) → contains nat_cmp seen number ≡ list_any (λ other. nat_eq other number) found
