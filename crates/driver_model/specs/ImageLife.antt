-- The load of an image (UEFI 2.8, 7.4: LoadImage and StartImage, as one step). It is a piece of a command, and of the
-- bus driver's Start: its driver call is of the level below its caller's.
--
-- The rules, in their order:
--  1. A file that is not accepted is noted as refused. The status is UNSUPPORTED if its machine, magic or subsystem is of
--     another kind, and otherwise LOAD_ERROR.
--  2. Laying the image costs a unit for each 64 bytes of its size, rounded up. ABORTED if fewer are left; nothing is
--     spent then.
--  3. OUT_OF_RESOURCES if a limit is met. The units for laying the image stay spent.
--  4. The image is laid at the next image address, and a new handle gets its loaded image block as an interface of the
--     firmware. Its entry point is called with the handle and the system table.
--  5. If that does not succeed, the soft part is as it was before the image was added. The status is the value of the entry
--     point, or ABORTED after a trap. Otherwise the image stays loaded, and the status is SUCCESS.
use Rattle.std.specs.Prelude.{ℕ, ◌+◌, ◌/◌, nat_lt, List, [], ◌∷◌, replicate, Option, Some, None, if◌then◌else◌}
use Rattle.fw_types.specs.Status.{is_error}
use Rattle.fw_types.specs.declared.event.Outcome.{Outcome}
use Rattle.fw_types.specs.declared.event.Outcome.TheVariants.{Value, Trapped}
use Rattle.fw_types.specs.declared.image.ImageNote.{ImageNote}
use Rattle.fw_types.specs.declared.image.ImageNote.TheVariants.{Loaded, Failed, Refused}
use Rattle.fw_types.specs.declared.image.PeRefusal.{PeRefusal}
use Rattle.fw_types.specs.declared.image.PeRefusal.TheVariants as refusal
use Rattle.fw_types.specs.declared.status.Status.{Status}
use Rattle.fw_types.specs.declared.status.TheConstants.Status.{ABORTED, LOAD_ERROR, OUT_OF_RESOURCES, SUCCESS, UNSUPPORTED}
use Rattle.guest_memory.specs.declared.address_map.TheConstants.{SYSTEM_TABLE}
use Rattle.pe_image.specs.ImageRules.{entry_of, refusal_of, size_of, subsystem_of}
use Rattle.pe_image.specs.LaidImage.{laid}
use Rattle.world_model.specs.World.{Soft}
use Rattle.world_model.specs.Images.{is_image_full}
use Rattle.driver_model.specs.Moves.{Operations, adds_image, pays, puts_back}
use Rattle.driver_model.specs.Level.{Level}
use Rattle.driver_model.specs.declared.call.Call.{Call}
use Rattle.driver_model.specs.declared.call.CallKind.TheVariants.{Entry}
use Rattle.driver_model.specs.declared.call.Scope.{Scope}

-- ---- rule 1

abbrev pub refusal_status : PeRefusal → Status
refusal_status refusal.Short = LOAD_ERROR
refusal_status refusal.NoMz = LOAD_ERROR
refusal_status refusal.NoPe = LOAD_ERROR
refusal_status refusal.Machine = UNSUPPORTED
refusal_status refusal.Magic = UNSUPPORTED
refusal_status refusal.Subsystem = UNSUPPORTED
refusal_status refusal.Stripped = LOAD_ERROR
refusal_status refusal.Size = LOAD_ERROR
refusal_status refusal.Headers = LOAD_ERROR
refusal_status refusal.Section = LOAD_ERROR
refusal_status refusal.Reloc = LOAD_ERROR
refusal_status refusal.Entry = LOAD_ERROR

-- ---- rule 2

abbrev pub laying_price : (file : List ℕ) → ℕ
laying_price file = (size_of file + 63) / 64

-- ---- rule 4: the driver call (UEFI 2.8, 4.1: EFI_IMAGE_ENTRY_POINT)

abbrev pub entry_call : (image entry : ℕ) → Call
entry_call image entry = record {
  kind = Entry;
  driver = image;
  controller = 0;
  extra = 0;
  address = entry;
  binding = 0;
  slots = image ∷ SYSTEM_TABLE ∷ replicate 14 0;
}

-- ---- rule 5

-- the status of a load whose driver call had this outcome, if the call did not succeed
abbrev pub failure_of : Outcome → Option Status
failure_of (Value status) = if is_error status then Some status else None
failure_of (Trapped cause) = Some ABORTED

-- what a load comes to: the note on the image, the status, and the machine after it
pub record Load (S : Type 0) : Type 0 where
  pub note : ImageNote
  pub status : Status
  pub world : S

abbrev pub failed : {S : Type 0} → Status → S → Load S
failed status w = record { note = Failed status; status = status; world = w }

module _ {S : Type 0} (o : Operations S) where
  abbrev pub kept_unless : Option Status → (image : ℕ) → (before : Soft) → S → Load S
  kept_unless None image before w = record { note = Loaded image; status = SUCCESS; world = w }
  kept_unless (Some status) image before w = failed status (o.make (puts_back before) w)

  abbrev pub after_entry : (image : ℕ) → (before : Soft) → Outcome × S → Load S
  after_entry image before r = kept_unless (failure_of r.0) image before r.1

  -- rules 3 to 5
  abbrev pub laid_and_entered : Level S → Scope → (file : List ℕ) → (device : ℕ) → S → Load S
  laid_and_entered below scope file device w =
      if is_image_full (size_of file) (o.see w).soft then failed OUT_OF_RESOURCES w
      else after_entry (o.see w).soft.database.next (o.see w).soft
      (below.call scope (entry_call (o.see w).soft.database.next ((o.see w).soft.next_image + entry_of file)) []
      (o.make (adds_image (laid file (o.see w).soft.next_image) (entry_of file) (subsystem_of file) device) w))

  -- rules 2 to 5
  abbrev pub accepted : Level S → Scope → (file : List ℕ) → (device : ℕ) → S → Load S
  accepted below scope file device w =
      if nat_lt (o.see w).hard.units (laying_price file) then failed ABORTED w
      else laid_and_entered below scope file device (o.make (pays (laying_price file)) w)

  abbrev pub unless_refused : Level S → Scope → (file : List ℕ) → (device : ℕ) → Option PeRefusal → S → Load S
  unless_refused below scope file device (Some refusal) w = record { note = Refused refusal; status = refusal_status refusal; world = w }
  unless_refused below scope file device None w = accepted below scope file device w

  -- all rules, for the bytes of a file, with the device of the image or 0
  unfoldable pub image_loaded : Level S → Scope → (file : List ℕ) → (device : ℕ) → S → Load S
  image_loaded below scope file device w = unless_refused below scope file device (refusal_of file) w
