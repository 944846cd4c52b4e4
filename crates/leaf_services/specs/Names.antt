-- The GUIDs of a handle's protocols.
use Rattle.std.specs.Prelude.{ℕ, List, map}
use Rattle.std.specs.List.{flat_map}
use Rattle.uuid.specs.Parts.{swap_fields}

-- their guest form, one after the other
abbrev pub names_alone : List (List ℕ × ℕ × ℕ) → List ℕ
names_alone protocols = flat_map (λ (listed : List ℕ × ℕ × ℕ). swap_fields listed.0) protocols

-- the GUIDs themselves
abbrev pub names_in : List (List ℕ × ℕ × ℕ) → List (List ℕ)
names_in protocols = map (λ (listed : List ℕ × ℕ × ℕ). listed.0) protocols
