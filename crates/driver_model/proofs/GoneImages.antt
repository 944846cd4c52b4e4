-- After an unload that succeeds nothing of the image is left, and everything else is as its handler
-- left it.
use Rattle.std.proofs.Common.{◌≡◌, ◌<◌, ℕ, suc, [], Some, refl, sym, subst}
use Rattle.fw_types.specs.declared.limits.TheConstants.{MOST_LEVELS}
use Rattle.fw_types.specs.declared.status.TheConstants.Status.{SUCCESS}
use Rattle.world_model.specs.World.{Soft, State}
use Rattle.world_model.specs.Images.{image_of}
use Rattle.world_model.specs.Kept.{IsKept}
use Rattle.world_model.specs.declared.image.LoadedImage.{LoadedImage}
use Rattle.world_model.proofs.ThunkLaws.{entering}
use Rattle.world_model.specs.ImageSweep.{image_swept}
use Rattle.driver_model.specs.Levels.{level_with}
use Rattle.driver_model.specs.Staying.{CanRun}
use Rattle.driver_model.specs.UnloadLaws.{IsGone, OthersStay, ThunksEnterLoadedImages, UnloadedImagesAreGone, UnloadsLeaveOthers, left_by_handler, left_by_unload, status_of_unload}
use Rattle.driver_model.specs.Unloading.{handler_of, unload_call}
use Rattle.driver_model.specs.declared.call.Scope.{Scope}
use Rattle.driver_model.specs.declared.settings.Settings.{Settings}
use Rattle.driver_model.proofs.Levels.{calls_stay, unloads_stay}
use Rattle.driver_model.proofs.LoadedImages.{calls_unload_none}
use Rattle.driver_model.proofs.Unloads.{unloads_that_succeed_sweep}
use Rattle.driver_model.proofs.WhatSweepsLeave.{sweeps_leave_others, swept_images_are_gone}

-- what the handler left, and what the unload makes of it
record Handled (image : LoadedImage) (handled after : Soft) : Type 0 where
  kept : IsKept handled
  loaded : image_of image.handle handled.images ≡ Some image
  swept : after ≡ image_swept image.handle handled

handled_and_swept : (settings : Settings) (room : ℕ) (scope : Scope) (image : LoadedImage) (w : State)
    → room < MOST_LEVELS → CanRun (level_with (suc room)) w.soft → image_of image.handle w.soft.images ≡ Some image
    → status_of_unload settings room scope image.handle w ≡ SUCCESS
    → Handled image (left_by_handler settings room scope image w).soft (left_by_unload settings room scope image.handle w).soft
handled_and_swept settings room scope image w lt can found is =
    let end = unloads_that_succeed_sweep settings room scope image.handle w is in
    let same : end.0 ≡ image = let one = end.1 in cc in
    let call = unload_call image.handle (handler_of image w.soft) in
    record {
      kept = (calls_stay settings room scope call [] w lt refl refl can).kept;
      loaded = calls_unload_none settings room scope call [] image.handle image w lt refl refl can found;
      swept = subst (λ (one : LoadedImage). (left_by_unload settings room scope image.handle w).soft ≡ image_swept one.handle (left_by_handler settings room scope one w).soft) same end.2;
    }

pub unloaded_images_are_gone : UnloadedImagesAreGone
unloaded_images_are_gone settings room scope image w lt can found is =
    let handled : Soft = (left_by_handler settings room scope image w).soft in
    let end = handled_and_swept settings room scope image w lt can found is in
    subst (λ (after : Soft). IsGone image handled after) (sym end.swept) (swept_images_are_gone image handled end.kept end.loaded)

pub unloads_leave_others : UnloadsLeaveOthers
unloads_leave_others settings room scope image w lt can found is =
    let handled : Soft = (left_by_handler settings room scope image w).soft in
    let end = handled_and_swept settings room scope image w lt can found is in
    subst (λ (after : Soft). OthersStay image handled after) (sym end.swept) (sweeps_leave_others image handled end.kept end.loaded)

pub thunks_enter_loaded_images : ThunksEnterLoadedImages
thunks_enter_loaded_images settings room scope handle at entry w lt can found =
    entering (left_by_unload settings room scope handle w).soft at entry (unloads_stay settings room scope handle w lt can).kept found
