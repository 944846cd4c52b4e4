-- The unload of an image (UEFI 2.8, 7.4: EFI_BOOT_SERVICES.UnloadImage(); 9.1: EFI_LOADED_IMAGE_PROTOCOL.Unload()). It is
-- a piece of a command: its driver call is of the level below its caller's.
--
-- The rules, in their order:
--  1. INVALID_PARAMETER if the handle is not that of a loaded image.
--  2. UNSUPPORTED for the firmware's own image, and for an image whose loaded image block names no handler: its 8 bytes
--     at 88 are 0.
--  3. The handler is called with the handle of the image. If that does not succeed, the status is its value, or ABORTED
--     after a trap.
--  4. If the image is in use then, the soft part is as before the unload, and the status is ACCESS_DENIED.
--  5. Otherwise the image is removed in one sweep, and the status is SUCCESS.
use Rattle.std.specs.Prelude.{ℕ, Bool, true, false, nat_eq, [], ◌∷◌, replicate, Option, Some, None, if◌then◌else◌}
use Rattle.fw_types.specs.Layout.{uint64_at}
use Rattle.fw_types.specs.declared.event.Outcome.{Outcome}
use Rattle.fw_types.specs.declared.status.Status.{Status}
use Rattle.fw_types.specs.declared.status.TheConstants.Status.{ACCESS_DENIED, INVALID_PARAMETER, SUCCESS, UNSUPPORTED}
use Rattle.guest_memory.specs.GuestMemory.{bytes_of}
use Rattle.world_model.specs.World.{Soft}
use Rattle.world_model.specs.Images.{block_size, image_of}
use Rattle.world_model.specs.Interfaces.{firmware}
use Rattle.world_model.specs.declared.image.LoadedImage.{LoadedImage}
use Rattle.driver_model.specs.Moves.{Operations, drops_all, puts_back}
use Rattle.driver_model.specs.Level.{Level}
use Rattle.driver_model.specs.ImageLife.{failure_of}
use Rattle.world_model.specs.ImageSweep.{is_in_use}
use Rattle.driver_model.specs.declared.call.Call.{Call}
use Rattle.driver_model.specs.declared.call.CallKind.TheVariants.{Unload}
use Rattle.driver_model.specs.declared.call.Scope.{Scope}

-- ---- rule 2

-- where a loaded image block has the address of the handler
abbrev pub handler_place : ℕ
handler_place = 88

-- the handler that the block of an image names, or 0
abbrev pub handler_of : LoadedImage → Soft → ℕ
handler_of image soft = uint64_at handler_place (bytes_of soft.memory image.block block_size)

-- ---- rule 3: the driver call

abbrev pub unload_call : (image handler : ℕ) → Call
unload_call image handler = record {
  kind = Unload;
  driver = image;
  controller = 0;
  extra = 0;
  address = handler;
  binding = 0;
  slots = image ∷ replicate 15 0;
}

module _ {S : Type 0} (o : Operations S) where
  -- rules 4 and 5
  abbrev pub gone_or_in_use : (in_use : Bool) → (image : ℕ) → (before : Soft) → S → Status × S
  gone_or_in_use true image before w = (ACCESS_DENIED, o.make (puts_back before) w)
  gone_or_in_use false image before w = (SUCCESS, o.make (drops_all image) w)

  abbrev pub unless_failed : Option Status → (image : ℕ) → (before : Soft) → S → Status × S
  unless_failed (Some status) image before w = (status, w)
  unless_failed None image before w = gone_or_in_use (is_in_use image (o.see w).soft) image before w

  -- rules 3 to 5, after the handler
  abbrev pub after_handler : (image : ℕ) → (before : Soft) → Outcome × S → Status × S
  after_handler image before r = unless_failed (failure_of r.0) image before r.1

  -- rules 2 to 5, of an image that a file was loaded for
  abbrev pub handled : Level S → Scope → LoadedImage → (handler : ℕ) → S → Status × S
  handled below scope image handler w =
      if nat_eq handler 0 then (UNSUPPORTED, w)
      else after_handler image.handle (o.see w).soft (below.call scope (unload_call image.handle handler) [] w)

  abbrev pub unless_none : Level S → Scope → Option LoadedImage → S → Status × S
  unless_none below scope None w = (INVALID_PARAMETER, w)
  unless_none below scope (Some image) w = handled below scope image (handler_of image (o.see w).soft) w

  -- all rules
  unfoldable pub unloaded : Level S → Scope → (handle : ℕ) → S → Status × S
  unloaded below scope handle w =
      if nat_eq handle firmware then (UNSUPPORTED, w) else unless_none below scope (image_of handle (o.see w).soft.images) w
