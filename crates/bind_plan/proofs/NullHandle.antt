-- The NULL handle has no binding.
use Rattle.std.proofs.Common.{◌≡◌, ◌<◌, ℕ, ◌+◌, true, false, nat_eq, nat_le, List, [], ◌∷◌, refl, arith}
use Rattle.std.specs.Prelude.{None, find}
use Rattle.std.proofs.lemmas.Bool.{and_parts}
use Rattle.std.proofs.lemmas.Bool.Decides.{nat_tests}
use Rattle.handle_db.specs.Database.{is_handle, rise_from}
use Rattle.handle_db.specs.declared.handle_entry.HandleEntry.{HandleEntry}
use Rattle.world_model.specs.Kept.{IsKept}
use Rattle.world_model.specs.World.{Soft}
use Rattle.driver_model.specs.Bindings.{binding}

not_found : (number low : ℕ) (entries : List HandleEntry) → number < low → rise_from low entries ≡ true → find (is_handle number) entries ≡ None
not_found number low [] less rising = refl
not_found number low (entry ∷ entries) less rising =
    let parts = and_parts (nat_le low entry.handle) (rise_from (entry.handle + 1) entries) rising in
    let first = parts.0 in
    let above : number < entry.handle = grind (arith, nat_tests, first, less) in
    let other : nat_eq entry.handle number ≡ false = grind (arith, nat_tests, above) in
    rw other (not_found number (entry.handle + 1) entries (omega (arith, above)) parts.1)

pub no_binding : (soft : Soft) (number : ℕ) → IsKept soft → (0 < number → ⊥) → None ≡ binding number soft
no_binding soft number kept none =
    let zero : number < 1 = omega (arith, none) in
    rw (not_found number 1 soft.database.handles zero kept.database.sound.rising) refl
