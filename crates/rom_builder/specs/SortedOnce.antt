-- Numbers in rising order, once each.
use Rattle.std.specs.Prelude.{ℕ, ◌+◌, ◌≤◌, nat_eq, nat_lt, List, [], ◌∷◌, if◌then◌else◌}

-- such numbers with one more, at its place
abbrev pub insert_once : ℕ → List ℕ → List ℕ
insert_once n [] = n ∷ []
insert_once n (m ∷ ms) = if nat_lt n m then n ∷ m ∷ ms else if nat_eq n m then m ∷ ms else m ∷ insert_once n ms

-- any numbers, sorted and once each
unfoldable pub sorted_once : List ℕ → List ℕ
sorted_once [] = []
sorted_once (n ∷ ns) = insert_once n (sorted_once ns)

-- the first number is this one or a larger one, and each other is larger than the one before it
abbrev pub RiseFrom : ℕ → List ℕ → Type 0
RiseFrom least [] = Unit {0}
RiseFrom least (n ∷ ns) = (least ≤ n) × RiseFrom (n + 1) ns
