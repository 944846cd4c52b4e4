-- An image is found under its handle once it is added.
use Rattle.std.proofs.Common.{◌≡◌, true, false, not, nat_eq, List, [], ◌∷◌, ◌++◌, Some, refl, ap, arith}
use Rattle.std.specs.Prelude.{option_map}
use Rattle.std.specs.List.{list_all}
use Rattle.std.proofs.lemmas.Bool.{and_parts, not-true}
use Rattle.std.proofs.lemmas.Bool.Decides.{nat_tests}
use Rattle.guest_memory.specs.declared.address_map.TheConstants.{FIRST_BLOCK, FIRST_IMAGE}
use Rattle.world_model.specs.declared.image.LoadedImage.{LoadedImage}
use Rattle.world_model.specs.Images.{image_of, next_loaded}
use Rattle.world_model.specs.ImageLaws.{AddedIsFound}
use Rattle.world_model.proofs.Segments.{list_all-mono}
use Rattle.world_model.proofs.ImageLists.{all_between, is_between}

-- after images of other handles
found_behind : (images : List LoadedImage) (new : LoadedImage) → list_all (λ (i : LoadedImage). not (nat_eq i.handle new.handle)) images ≡ true → image_of new.handle (images ++ new ∷ []) ≡ Some new
found_behind [] new others = let same : nat_eq new.handle new.handle ≡ true = grind (arith, nat_tests) in rw same refl
found_behind (i ∷ images) new others =
    let parts = and_parts (not (nat_eq i.handle new.handle)) (list_all (λ (i : LoadedImage). not (nat_eq i.handle new.handle)) images) others in
    let other : nat_eq i.handle new.handle ≡ false = not-true (nat_eq i.handle new.handle) parts.0 in
    rw other (found_behind images new parts.1)

pub found : AddedIsFound
found soft bytes entry subsystem device kept =
    let new = next_loaded entry soft in
    let between = all_between 3 FIRST_IMAGE FIRST_BLOCK soft.images soft.database.next soft.next_image soft.next_block kept.images.rising in
    let others : list_all (λ (i : LoadedImage). not (nat_eq i.handle soft.database.next)) soft.images ≡ true =
    list_all-mono (is_between 3 FIRST_IMAGE FIRST_BLOCK soft.database.next soft.next_image soft.next_block) (λ (i : LoadedImage). not (nat_eq i.handle soft.database.next)) soft.images (λ i within. grind (arith, nat_tests)) between in
    ap (option_map (λ (i : LoadedImage). i.entry)) (found_behind soft.images new others)
