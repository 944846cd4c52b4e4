-- Making a thunk leaves what holds of every soft part.
use Rattle.std.proofs.Common.{◌≡◌, ◌<◌, ℕ, Bool, true, false, List, [], ◌∷◌, Option, Some, None, refl, ◌∙◌, arith}
use Rattle.std.specs.Prelude.{Ok, Err, is_ok, is_some, option_map, if◌then◌else◌}
use Rattle.std.specs.List.{list_all}
use Rattle.std.proofs.lemmas.Bool.{and_from}
use Rattle.std.proofs.lemmas.Bool.Decides.{nat_tests}
use Rattle.std.proofs.lemmas.List.Folds.{list_all-append}
use Rattle.guest_memory.specs.declared.segment.Segment.{Segment}
use Rattle.guest_memory.specs.GuestMemory.{image_with}
use Rattle.fw_types.specs.declared.limits.TheConstants.{MOST_THUNKS}
use Rattle.world_model.specs.declared.fault.WorldFault.{WorldFault}
use Rattle.world_model.specs.declared.fault.WorldFault.TheVariants.{Full}
use Rattle.world_model.specs.declared.image.LoadedImage.{LoadedImage}
use Rattle.world_model.specs.declared.thunk.Thunk.{Thunk}
use Rattle.world_model.specs.Images.{image_from}
use Rattle.world_model.specs.Kept.{enters_image}
use Rattle.world_model.specs.Keeping.{MakingKeeps}
use Rattle.world_model.proofs.ThunkTargets.{numbers-push}

-- if an image is found at the address of a segment, there is such a segment
some_image : (found : Option Segment) (images : List LoadedImage) → is_some (image_from (option_map (λ (segment : Segment). segment.base) found) images) ≡ true → is_some found ≡ true
some_image None images some = absurd cc
some_image (Some segment) images some = refl

-- if a number is answered, a number is left
left : (full : Bool) (address : ℕ) → is_ok {E = WorldFault} (if full then Err Full else Ok address) ≡ true → full ≡ false
left true address ok = absurd cc
left false address ok = refl

pub making : MakingKeeps
making soft entry kept some ok =
    let new : Thunk = record { number = soft.next_thunk; entry = entry } in
    let here : enters_image soft.memory new ≡ true = some_image (image_with soft.memory entry) soft.images some in
    let room : soft.next_thunk < MOST_THUNKS = grind (arith, nat_tests, left _ _ ok) in
    record {
      memory = kept.memory;
      images = kept.images;
      database = kept.database;
      thunks = record {
        targets =
            list_all-append (enters_image soft.memory) soft.thunks (new ∷ [])
            ∙ and_from (list_all (enters_image soft.memory) soft.thunks) (list_all (enters_image soft.memory) (new ∷ [])) kept.thunks.targets (and_from (enters_image soft.memory new) true here refl);
        numbers = numbers-push 0 soft.thunks new kept.thunks.numbers;
      };
      records = kept.records;
      children = kept.children;
      ranges = record {
        images = kept.ranges.images;
        blocks = kept.ranges.blocks;
        thunks = omega arith;
      };
    }
