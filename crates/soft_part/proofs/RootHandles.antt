-- A second interface, of another protocol, is installed on a new handle of the opening state.
use Rattle.std.proofs.Common.{◌≡◌, ℕ, true, false, bytes_eq, List, [], ◌∷◌, ◌++◌, find, Some, None, refl, ap, ◌∙◌, arith}
use Rattle.std.specs.Prelude.{Ok, is_ok}
use Rattle.std.specs.List.{list_all, list_any}
use Rattle.std.proofs.lemmas.Bool.{or_right}
use Rattle.std.proofs.lemmas.Bool.Decides.{nat_tests}
use Rattle.std.proofs.lemmas.List.Folds.{find-append, list_any-append}
use Rattle.guest_memory.specs.declared.segment.SegKind.TheVariants.{Firmware}
use Rattle.handle_db.specs.declared.handle_entry.Interface.{Interface}
use Rattle.handle_db.specs.Database.{is_below, is_handle}
use Rattle.handle_db.specs.Installing.{new_entry}
use Rattle.world_model.specs.World.{Soft}
use Rattle.world_model.specs.Blocks.{block_added}
use Rattle.world_model.specs.Interfaces.{firmware, install_answer, interface, interface_added}
use Rattle.world_model.specs.Kept.{IsKept}
use Rattle.world_model.proofs.KeepingImages.{none_next}
use Rattle.world_model.proofs.OpeningState.{new_is_next}

second_accepted : (soft : Soft) (first : Interface) (guid : List ℕ) → bytes_eq first.guid guid ≡ false → list_all (is_below soft.database.next) soft.database.handles ≡ true
    → is_ok (install_answer (Some soft.database.next) guid (interface_added None first soft)) ≡ true
second_accepted soft first guid other below =
    let next = soft.database.next in
    let handles = soft.database.handles in
    let entry = new_entry next first in
    let here : is_handle next entry ≡ true = grind (arith, nat_tests) in
    let found : find (is_handle next) (handles ++ entry ∷ []) ≡ Some entry = find-append (is_handle next) handles (entry ∷ []) ∙ rw (none_next next handles below, here) refl in
    let live : list_any (is_handle next) (handles ++ entry ∷ []) ≡ true =
    list_any-append (is_handle next) handles (entry ∷ []) ∙ or_right (list_any (is_handle next) handles) (list_any (is_handle next) (entry ∷ [])) (rw here refl) in
    rw (live, found, other) refl

pub second_fits : (soft one two : Soft) (address handle : ℕ) (bytes first second : List ℕ) → IsKept soft → one ≡ block_added bytes Firmware soft → bytes_eq first second ≡ false
    → install_answer None first one ≡ Ok handle → two ≡ interface_added None (interface first address firmware) one → is_ok (install_answer (Some handle) second two) ≡ true
second_fits soft one two address handle bytes first second kept one_is other handle_is two_is =
    let with_block : Soft = block_added bytes Firmware soft in
    let number : handle ≡ soft.database.next = new_is_next one first handle handle_is ∙ ap (λ (s : Soft). s.database.next) one_is in
    let whole : two ≡ interface_added None (interface first address firmware) with_block =
    two_is ∙ ap (λ (s : Soft). interface_added None (interface first address firmware) s) one_is in
    ap (λ (h : ℕ). is_ok (install_answer (Some h) second two)) number
    ∙ ap (λ (s : Soft). is_ok (install_answer (Some soft.database.next) second s)) whole
    ∙ second_accepted with_block (interface first address firmware) second other kept.database.sound.below
