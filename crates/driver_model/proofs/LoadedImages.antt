-- Driver calls unload no image.
use Rattle.std.proofs.Common.{◌≡◌, ℕ, suc, Bool, true, false, nat_eq, nat_lt, List, [], ◌∷◌, ◌++◌, length, refl, ap, ◌∙◌}
use Rattle.std.specs.Prelude.{Some, is_ok}
use Rattle.std.proofs.lemmas.List.Folds.{find-append}
use Rattle.guest_memory.specs.declared.segment.SegKind.TheVariants.{Firmware}
use Rattle.world_model.specs.declared.image.LoadedImage.{LoadedImage}
use Rattle.world_model.specs.Blocks.{free_answer}
use Rattle.world_model.specs.Images.{image_of}
use Rattle.world_model.specs.NewChild.{child_added, has_rom, path_below}
use Rattle.driver_model.specs.BusChildren.{firmware_block_freed}
use Rattle.world_model.specs.World.{Soft, State}
use Rattle.world_model.specs.Kept.{IsKept}
use Rattle.world_model.proofs.Children.{children_are_few}
use Rattle.service_model.proofs.AllowedRows.{rows-allowed}
use Rattle.service_model.proofs.SecondLooks.{second_look-goes}
use Rattle.service_model.proofs.SoftPart.{IsKeptBy, services-go}
use Rattle.driver_model.specs.Moves.{Move, adds_child, frees, lists_images, opens_root, changed, plain, pays, caps, returns, begins_event, ends_event, steps, serves, looks_again, makes_thunk, pushes, pops, sets_tpl, puts_back, closes_all, closes_child, drops_weak, uninstalls, adds_image, drops_all}
use Rattle.driver_model.specs.Allowed.{is_allowed_in_calls}
use Rattle.driver_model.specs.Staying.{CanRun, Stays, fits_list}
use Rattle.driver_model.specs.StopOrder.{children_of}
use Rattle.driver_model.specs.UnloadLaws.{CallsUnloadNone}
use Rattle.driver_model.proofs.AllLevels.{level_itself}
use Rattle.driver_model.proofs.Keeping.{KeepsMoves, allowed_in_calls, choose_by}
use Rattle.driver_model.proofs.PushedStacks.{next_can_run, popped_stays}
use Rattle.driver_model.proofs.Changes.{joined_stays, same_stays}
use Rattle.driver_model.proofs.SingleMoves.{ground, move_stays}
use Rattle.driver_model.proofs.Staying.{can_run_after, can_run_deeper, few_to_stop}

-- ---- single moves

abbrev HasImagesOf : (old new : Soft) → Type 0
HasImagesOf old new = (handle : ℕ) (image : LoadedImage) → image_of handle old.images ≡ Some image → image_of handle new.images ≡ Some image

same_images : (soft : Soft) → HasImagesOf soft soft
same_images soft handle image is = is

images_by_changes : IsKeptBy HasImagesOf
images_by_changes = record {
  same = λ soft kept. same_images soft;
  after = λ a b c one two. λ handle image is. two handle image (one handle image is);
  tpl = λ soft tpl kept. same_images soft;
  put = λ soft at bytes kept can. same_images soft;
  allot = λ soft bytes kept room. same_images soft;
  free = λ soft at kept done. same_images soft;
  install = λ soft handle new kept fine. same_images soft;
  enter = λ soft handle name agent controller attr kept can. same_images soft;
  leave = λ soft handle name agent controller kept. same_images soft;
}

-- one more image leaves those that are found
more_images : (handle : ℕ) (image new : LoadedImage) (images : List LoadedImage) → image_of handle images ≡ Some image → image_of handle (images ++ new ∷ []) ≡ Some image
more_images handle image new images is = find-append (λ (one : LoadedImage). nat_eq one.handle handle) images (new ∷ []) ∙ rw is refl

-- a child adds none, and a block that is freed removes none
noted_images : (function : ℕ) (rom : Bool) (path : List ℕ) (soft : Soft) → (child_added path rom function soft).images ≡ soft.images
noted_images function true path soft =
    choose_by (λ (s : Soft). s.images ≡ soft.images) (nat_lt function (length soft.bus_lists)) _ _ (λ is. refl) (λ is. refl)
noted_images function false path soft =
    choose_by (λ (s : Soft). s.images ≡ soft.images) (nat_lt function (length soft.bus_lists)) _ _ (λ is. refl) (λ is. refl)

freed_images : (at : ℕ) (soft : Soft) → (firmware_block_freed at soft).images ≡ soft.images
freed_images at soft = choose_by (λ (s : Soft). s.images ≡ soft.images) (is_ok (free_answer at Firmware soft)) _ _ (λ is. refl) (λ is. refl)

child_images : (controller function : ℕ) (w : State) → (changed (adds_child controller function) w).soft.images ≡ w.soft.images
child_images controller function w = noted_images function (has_rom function w) (path_below controller function w) w.soft

listed : (old new : Soft) → new.images ≡ old.images → HasImagesOf old new
listed old new same handle image is = ap (image_of handle) same ∙ is

move_images : (move : Move) (w : State) → is_allowed_in_calls move w ≡ true → IsKept w.soft → HasImagesOf w.soft (changed move w).soft
move_images (pays price) w can kept = same_images w.soft
move_images (caps most) w can kept = same_images w.soft
move_images (returns aside) w can kept = same_images w.soft
move_images (begins_event parent kind driver controller extra) w can kept = same_images w.soft
move_images (ends_event serial outcome) w can kept = same_images w.soft
move_images (steps cpu) w can kept = same_images w.soft
move_images (serves service caller) w can kept = services-go HasImagesOf images_by_changes ground rows-allowed service caller w kept
move_images (looks_again opening) w can kept = second_look-goes HasImagesOf images_by_changes ground opening w kept
move_images (makes_thunk place entry at) w can kept = same_images w.soft
move_images (pushes level slots children) w can kept = absurd cc
move_images (pops level) w can kept = same_images w.soft
move_images (sets_tpl tpl) w can kept = same_images w.soft
move_images (puts_back before) w can kept = absurd cc
move_images (closes_all controller agent) w can kept = same_images w.soft
move_images (closes_child controller agent child) w can kept = same_images w.soft
move_images (drops_weak handle guid) w can kept = same_images w.soft
move_images (uninstalls handle guid) w can kept = same_images w.soft
move_images (adds_image bytes entry subsystem device) w can kept = λ handle image is. more_images handle image _ w.soft.images is
move_images (drops_all image) w can kept = absurd cc
move_images (opens_root controller) w can kept = same_images w.soft
move_images (adds_child controller function) w can kept = listed w.soft (changed (adds_child controller function) w).soft (child_images controller function w)
move_images (lists_images function images) w can kept = same_images w.soft
move_images (frees at) w can kept = listed w.soft (firmware_block_freed at w.soft) (freed_images at w.soft)

-- ---- all levels

-- what holds of every world stays, and so do the images
record StaysLoaded (old new : Soft) : Type 0 where
  stays : Stays old new
  images : HasImagesOf old new

abbrev StaysLoadedAt : (level : ℕ) → State → State → Type 0
StaysLoadedAt level old new = CanRun level old.soft → StaysLoaded old.soft new.soft

same_loaded : (level : ℕ) (soft : Soft) → CanRun level soft → StaysLoaded soft soft
same_loaded level soft can = record { stays = same_stays soft can.kept; images = same_images soft }

loaded_kept : KeepsMoves plain fits_list StaysLoadedAt
loaded_kept = record {
  sees = λ move w. refl;
  same = λ level w can. same_loaded level w.soft can;
  joined = λ level a b c one two can.
      let first : StaysLoaded a.soft b.soft = one can in
      let second : StaysLoaded b.soft c.soft = two (can_run_after level a.soft b.soft can first.stays) in
      record { stays = joined_stays a.soft b.soft c.soft first.stays second.stays; images = λ handle image is. second.images handle image (first.images handle image is) };
  moves = λ level move w is can. record { stays = move_stays move w (allowed_in_calls move w is) can.kept; images = move_images move w is can.kept };
  begins = λ level parent kind driver controller extra w enough can. same_loaded level w.soft can;
  capped = λ level most w v inner can. inner can;
  stacked = λ level slots children w v lt sixteen few inner can.
      let within : StaysLoaded (changed (pushes (suc level) slots children) w).soft v.soft = inner (next_can_run level slots children w.soft can lt sixteen few) in
      record { stays = popped_stays level slots children w.soft can lt sixteen few v.soft within.stays; images = within.images };
  childless = refl;
  few = λ level controller agent child w v goes can.
      goes (few_to_stop child (children_of controller (Some agent) w.soft) (children_are_few w.soft controller (Some agent) can.kept)) can;
  deeper = λ level w v inner can. inner (can_run_deeper level w.soft can);
  undone = λ level w v inner can. same_loaded level w.soft can;
}

pub calls_unload_none : CallsUnloadNone
calls_unload_none settings room scope call children handle image w lt sixteen few can is =
    ((level_itself plain fits_list StaysLoadedAt loaded_kept settings room lt).call scope call children w sixteen few can).images handle image is
