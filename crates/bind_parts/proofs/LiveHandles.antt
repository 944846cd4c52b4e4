-- The number of a live handle is not 0.
use Rattle.std.proofs.Common.{◌≡◌, ◌<◌, ◌≤◌, ℕ, ◌+◌, Bool, true, false, not, ◌||◌, nat_eq, nat_le, List, [], ◌∷◌, arith, inl, inr, refl}
use Rattle.std.specs.Prelude.{Option, Some, None, SomeIff}
use Rattle.std.specs.List.{list_any}
use Rattle.std.proofs.lemmas.Bool.{and_parts, or_cases}
use Rattle.std.proofs.lemmas.Bool.Decides.{nat_tests}
use Rattle.handle_db.specs.Database.{is_handle, is_live, rise_from}
use Rattle.handle_db.specs.declared.handle_entry.HandleEntry.{HandleEntry}
use Rattle.world_model.specs.World.{Soft}
use Rattle.world_model.specs.Kept.{IsKept}
use Rattle.driver_model.specs.Disconnect.{is_meaningless}
use Rattle.driver_model.specs.declared.request.Disconnection.{Disconnection}

at_least : (low number : ℕ) (entries : List HandleEntry) → rise_from low entries ≡ true → list_any (is_handle number) entries ≡ true → low ≤ number
at_least low number [] rising there = absurd cc
at_least low number (entry ∷ entries) rising there =
    let parts = and_parts (nat_le low entry.handle) (rise_from (entry.handle + 1) entries) rising in
    elim (or_cases (nat_eq entry.handle number) (list_any (is_handle number) entries) there) [
      | inl same ↦ grind (arith, nat_tests, parts.0, same)
      | inr later ↦ grind (arith, nat_tests, parts.0, at_least (entry.handle + 1) number entries parts.1 later)
    ]

pub live_is_some : (soft : Soft) (number : ℕ) → IsKept soft → is_live number soft.database ≡ true → 0 < number
live_is_some soft number kept live = at_least 1 number soft.database.handles kept.database.sound.rising live

pub some_number : (found : Option ℕ) (number : ℕ) → 0 < number → SomeIff found (0 < number) number → found ≡ Some number
some_number None number some is = absurd (is some)
some_number (Some other) number some is = rw (is.1) refl

-- a disconnect whose handles all mean something has a live controller
all_false : (one two three : Bool) → (one || two || three) ≡ false → one ≡ false
all_false true two three is = absurd cc
all_false false two three is = refl

not_false : (live : Bool) → not live ≡ false → live ≡ true
not_false true is = refl
not_false false is = absurd cc

pub live_of_meant : (soft : Soft) (d : Disconnection) → IsKept soft → is_meaningless d soft ≡ false → 0 < d.controller
live_of_meant soft d kept meant =
    live_is_some soft d.controller kept (not_false (is_live d.controller soft.database) (all_false (not (is_live d.controller soft.database)) _ _ meant))
