use Rattle.std.proofs.Common.{◌≡◌, ◌≤◌, ℕ, true, List, [], ◌∷◌, length, inl, inr, arith}
use Rattle.std.specs.Prelude.{find}
use Rattle.std.specs.List.{list_all}
use Rattle.std.proofs.lemmas.Bool.{and_parts, cases_Bool, leb-true}
use Rattle.fw_types.specs.declared.limits.TheConstants.{MOST_INTERFACES}
use Rattle.handle_db.specs.Database.{interfaces_in, is_handle, is_kept}
use Rattle.handle_db.specs.declared.handle_entry.HandleEntry.{HandleEntry}
use Rattle.leaf_services.proofs.buffers.protocol_count.Goals as goal

-- a handle has at most `MOST_INTERFACES` interfaces
few : (handle : ℕ) (entries : List HandleEntry) → list_all is_kept entries ≡ true → length (interfaces_in (find (is_handle handle) entries)) ≤ MOST_INTERFACES
few handle [] kept = omega arith
few handle (entry ∷ entries) kept =
    let parts = and_parts (is_kept entry) (list_all is_kept entries) kept in
    elim (cases_Bool (is_handle handle entry)) [
      | inl here ↦ rw here (leb-true _ _ (and_parts _ _ (and_parts _ _ parts.0).0).1)
      | inr other ↦ rw other (few handle entries parts.1)
    ]

pub returns-clause-few : goal.returns-clause-few
returns-clause-few c =
    let handles = c.db.result.now.handles in
    let kept : list_all is_kept handles ≡ true = rw c.db.ensures c.is_kept.ensures.database.sound.kept in
    omega (arith, c.interface_count.ensures, few c.args.handle handles kept)
