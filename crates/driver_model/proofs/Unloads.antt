-- The unload of an image keeps what each single move keeps. One that does not succeed leaves the soft part, and one
-- that succeeds sweeps what its handler left.
use Rattle.std.proofs.Common.{◌≡◌, ◌≢◌, ℕ, Bool, true, false, not, nat_eq, List, [], Option, Some, None, refl, ap}
use Rattle.std.specs.Prelude.{if◌then◌else◌}
use Rattle.std.proofs.lemmas.Bool.{both_ways}
use Rattle.fw_types.specs.Status.{is_error}
use Rattle.fw_types.specs.declared.event.Outcome.{Outcome}
use Rattle.fw_types.specs.declared.event.Outcome.TheVariants.{Value, Trapped}
use Rattle.fw_types.specs.declared.status.Status.{Status}
use Rattle.fw_types.specs.declared.status.TheConstants.Status.{ABORTED, ACCESS_DENIED, INVALID_PARAMETER, SUCCESS, UNSUPPORTED}
use Rattle.world_model.specs.World.{Soft, State}
use Rattle.world_model.specs.Images.{image_of}
use Rattle.world_model.specs.Interfaces.{firmware}
use Rattle.world_model.specs.declared.image.LoadedImage.{LoadedImage}
use Rattle.driver_model.specs.Moves.{Operations, drops_all, plain}
use Rattle.driver_model.specs.Level.{Level}
use Rattle.driver_model.specs.DriverCall.{commits}
use Rattle.driver_model.specs.ImageLife.{failure_of}
use Rattle.world_model.specs.ImageSweep.{image_swept, is_in_use}
use Rattle.driver_model.specs.Levels.{below, level_over, level_with}
use Rattle.driver_model.specs.UnloadLaws.{UnloadsThatFailLeave, UnloadsThatSucceedSweep, left_by_handler}
use Rattle.driver_model.specs.Unloading.{gone_or_in_use, handled, handler_of, unless_failed, unless_none, unload_call, unloaded}
use Rattle.driver_model.specs.declared.call.CallKind.TheVariants.{Unload}
use Rattle.driver_model.specs.declared.call.Scope.{Scope}
use Rattle.driver_model.specs.declared.settings.Settings.{Settings}
use Rattle.driver_model.proofs.Calls.{uncommitted-law}
use Rattle.driver_model.proofs.Keeping.{Keeps, KeepsEachMove, KeepsMoves, choose}

-- ---- what unloads keep

module _ {S : Type 0} (o : Operations S) (is_listable : List ℕ → Bool) (R : (level : ℕ) → S → S → Type 0) (kept : KeepsMoves o is_listable R) (each : KeepsEachMove o R)
    (level : ℕ) (l : Level S) (k : Keeps is_listable R level l) (scope : Scope) where
  by_use : (in_use : Bool) (image : ℕ) (w v : S) → R level w v → R level w (gone_or_in_use o in_use image (o.see w).soft v).1
  by_use true image w v keeps = kept.undone level w v keeps
  by_use false image w v keeps = kept.joined level w v _ keeps (each level (drops_all image) v refl)

  by_failure : (failure : Option Status) (image : ℕ) (w v : S) → R level w v → R level w (unless_failed o failure image (o.see w).soft v).1
  by_failure (Some status) image w v keeps = keeps
  by_failure None image w v keeps = by_use (is_in_use image (o.see v).soft) image w v keeps

  handled_keeps : (image : LoadedImage) (handler : ℕ) (w : S) → R level w (handled o l scope image handler w).1
  handled_keeps image handler w =
      let r : Outcome × S = l.call scope (unload_call image.handle handler) [] w in
      choose (λ (x : Status × S). R level w x.1) (nat_eq handler 0) _ _ (kept.same level w)
      (by_failure (failure_of r.0) image.handle w r.1 (k.call scope (unload_call image.handle handler) [] w refl kept.childless))

  by_image : (image : Option LoadedImage) (w : S) → R level w (unless_none o l scope image w).1
  by_image None w = kept.same level w
  by_image (Some image) w = handled_keeps image (handler_of image (o.see w).soft) w

  pub unload_keeps : (handle : ℕ) (w : S) → R level w (unloaded o l scope handle w).1
  unfolding unloaded
  unload_keeps handle w =
      choose (λ (x : Status × S). R level w x.1) (nat_eq handle firmware) _ _ (kept.same level w) (by_image (image_of handle (o.see w).soft.images) w)

-- ---- unloads that do not succeed

-- a call of a handler that failed did not commit
failed_is_uncommitted : (outcome : Outcome) (status : Status) → failure_of outcome ≡ Some status → commits Unload outcome ≡ false
failed_is_uncommitted (Value value) status is = by_error (is_error value) is
  where
    by_error : (error : Bool) → (if error then Some value else None) ≡ Some status → not error ≡ false
    by_error true is = refl
    by_error false is = absurd cc
failed_is_uncommitted (Trapped cause) status is = refl

abbrev Leaves : (before : Soft) → Status × State → Type 0
Leaves before r = r.0 ≢ SUCCESS → r.1.soft ≡ before

leaves_by_use : (in_use : Bool) (image : ℕ) (before : Soft) (v : State) → Leaves before (gone_or_in_use plain in_use image before v)
leaves_by_use true image before v fails = refl
leaves_by_use false image before v fails = absurd (fails refl)

leaves_by_failure : (failure : Option Status) (image : ℕ) (before : Soft) (r : Outcome × State) → failure_of r.0 ≡ failure → (commits Unload r.0 ≡ false → r.1.soft ≡ before)
    → Leaves before (unless_failed plain failure image before r.1)
leaves_by_failure (Some status) image before r is undone fails = undone (failed_is_uncommitted r.0 status is)
leaves_by_failure None image before r is undone fails = leaves_by_use (is_in_use image r.1.soft) image before r.1 fails

leaves_by_image : (settings : Settings) (room : ℕ) (scope : Scope) (image : Option LoadedImage) (w : State)
    → Leaves w.soft (unless_none plain (level_over plain settings (level_with room) (below plain settings room)) scope image w)
leaves_by_image settings room scope None w = λ fails. refl
leaves_by_image settings room scope (Some image) w =
    let handler : ℕ = handler_of image w.soft in
    let l : Level State = level_over plain settings (level_with room) (below plain settings room) in
    let r : Outcome × State = l.call scope (unload_call image.handle handler) [] w in
    choose (Leaves w.soft) (nat_eq handler 0) _ _ (λ fails. refl)
    (leaves_by_failure (failure_of r.0) image.handle w.soft r refl (λ fails. uncommitted-law settings room scope (unload_call image.handle handler) [] w fails))

pub unloads_that_fail_leave : UnloadsThatFailLeave
unfolding unloaded
unloads_that_fail_leave settings room scope handle w =
    choose (Leaves w.soft) (nat_eq handle firmware) _ _ (λ fails. refl) (leaves_by_image settings room scope (image_of handle w.soft.images) w)

-- ---- unloads that succeed

-- an error is no success
errors_fail : (status : Status) → is_error status ≡ true → status ≡ SUCCESS → ⊥
errors_fail status error is = both_ways (is_error status) (ap is_error is) error

failure_is_error : (outcome : Outcome) (status : Status) → failure_of outcome ≡ Some status → is_error status ≡ true
failure_is_error (Value value) status is = by_error (is_error value) refl is
  where
    by_error : (error : Bool) → is_error value ≡ error → (if error then Some value else None) ≡ Some status → is_error status ≡ true
    by_error true error is = let same : value ≡ status = cc in rw (← same) error
    by_error false error is = absurd cc
failure_is_error (Trapped cause) status is = let same : ABORTED ≡ status = cc in rw (← same) refl

-- what an unload comes to, after the handler left a state
abbrev SweptIfSuccess : (image : ℕ) → (handled : Soft) → Status × State → Type 0
SweptIfSuccess image handled r = r.0 ≡ SUCCESS → r.1.soft ≡ image_swept image handled

swept_by_use : (in_use : Bool) (image : ℕ) (before : Soft) (v : State) → SweptIfSuccess image v.soft (gone_or_in_use plain in_use image before v)
swept_by_use true image before v is = absurd (errors_fail ACCESS_DENIED refl is)
swept_by_use false image before v is = refl

swept_by_failure : (failure : Option Status) (image : ℕ) (before : Soft) (r : Outcome × State) → failure_of r.0 ≡ failure → SweptIfSuccess image r.1.soft (unless_failed plain failure image before r.1)
swept_by_failure (Some status) image before r fails is = absurd (errors_fail status (failure_is_error r.0 status fails) is)
swept_by_failure None image before r fails is = swept_by_use (is_in_use image r.1.soft) image before r.1 is

-- that of an image that is loaded
abbrev SweptOf : (handle : ℕ) → (images : List LoadedImage) → (handled : LoadedImage → Soft) → Status × State → Type 0
SweptOf handle images handled r =
    r.0 ≡ SUCCESS → (image : LoadedImage) × (image_of handle images ≡ Some image) × (r.1.soft ≡ image_swept image.handle (handled image))

swept_by_image : (settings : Settings) (room : ℕ) (scope : Scope) (handle : ℕ) (image : Option LoadedImage) (w : State) → image_of handle w.soft.images ≡ image
    → SweptOf handle w.soft.images (λ image. (left_by_handler settings room scope image w).soft) (unless_none plain (level_over plain settings (level_with room) (below plain settings room)) scope image w)
swept_by_image settings room scope handle None w found = λ is. absurd (errors_fail INVALID_PARAMETER refl is)
swept_by_image settings room scope handle (Some image) w found =
    let r : Outcome × State = (level_over plain settings (level_with room) (below plain settings room)).call scope (unload_call image.handle (handler_of image w.soft)) [] w in
    choose (SweptOf handle w.soft.images (λ image. (left_by_handler settings room scope image w).soft)) (nat_eq (handler_of image w.soft) 0) _ _ (λ is. absurd (errors_fail UNSUPPORTED refl is))
    (λ is. (image, found, swept_by_failure (failure_of r.0) image.handle w.soft r refl is))

pub unloads_that_succeed_sweep : UnloadsThatSucceedSweep
unfolding unloaded
unloads_that_succeed_sweep settings room scope handle w =
    choose (SweptOf handle w.soft.images (λ image. (left_by_handler settings room scope image w).soft)) (nat_eq handle firmware) _ _ (λ is. absurd (errors_fail UNSUPPORTED refl is))
    (swept_by_image settings room scope handle (image_of handle w.soft.images) w refl)
