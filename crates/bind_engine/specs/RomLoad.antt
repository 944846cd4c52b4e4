-- The load of a file: one image, or the images of an option ROM, in order (UEFI 2.8, 14.4.2 'PCI Option
-- ROMs').
use Rattle.std.specs.Prelude.{ℕ, List, [], ◌∷◌, ◌++◌, Bool, true, false, ◌||◌, nat_eq, Some, None, unwrap_or, if◌then◌else◌}
use Rattle.std.specs.List.{starts_with}
use Rattle.fw_types.specs.declared.status.Status.{Status}
use Rattle.fw_types.specs.declared.status.TheConstants.Status.{SUCCESS, UNSUPPORTED}
use Rattle.fw_types.specs.declared.image.ImageNote.{ImageNote}
use Rattle.fw_types.specs.declared.image.ImageNote.TheVariants.{Loaded, Failed, Refused, Compressed, Skipped}
use Rattle.option_rom.specs.RomGrammar.{Image}
use Rattle.world_model.specs.World.{State}
use Rattle.driver_model.specs.ImageLife.{Load}
use Rattle.driver_model.specs.RomDrivers.{is_driver}
use Rattle.bind_engine.specs.declared.rom_load.RomTally.{RomTally}
use Rattle.driver_model.specs.declared.settings.Settings.{Settings}
use Rattle.bind_engine.specs.Levels.{loaded}

-- whether a file is an option ROM: it begins with the signature of its header
abbrev pub is_rom : List ℕ → Bool
is_rom file = starts_with nat_eq file (0x55 ∷ 0xAA ∷ [])

-- the tally before the first image
abbrev pub no_images : RomTally
no_images = record { notes = []; any_loaded = false; last_status = None }

-- the tally after an image that is noted and not loaded
abbrev pub with_note : ImageNote → RomTally → RomTally
with_note note tally = record tally { notes = tally.notes ++ note ∷ [] }

-- whether an image stays loaded
abbrev pub is_loaded : ImageNote → Bool
is_loaded (Loaded handle) = true
is_loaded (Failed status) = false
is_loaded (Refused refusal) = false
is_loaded Compressed = false
is_loaded Skipped = false

-- the tally after an image whose load came to this note and status
abbrev pub with_load : ImageNote → Status → RomTally → RomTally
with_load note status tally = record {
  notes = tally.notes ++ note ∷ [];
  any_loaded = tally.any_loaded || is_loaded note;
  last_status = Some status;
}

-- the tally and the state after the load of a driver
abbrev pub with_driver : Settings → List ℕ → RomTally × State → RomTally × State
with_driver settings file (tally, w) =
    let load : Load State = loaded settings file w in
    (with_load load.note load.status tally, load.world)

-- a driver that is not compressed is loaded; one that is compressed, and any other image, is only noted
abbrev pub with_image : Settings → Image → RomTally × State → RomTally × State
with_image settings image (tally, w) =
    if is_driver image
    then (if nat_eq image.compression 0 then with_driver settings image.body (tally, w) else (with_note Compressed tally, w))
    else (with_note Skipped tally, w)

-- the same for images, in order
abbrev pub with_images : Settings → List Image → RomTally × State → RomTally × State
with_images settings [] so_far = so_far
with_images settings (image ∷ images) so_far = with_images settings images (with_image settings image so_far)

-- the status: SUCCESS if an image stays loaded, and otherwise that of the last load, or UNSUPPORTED if there was no
-- load
abbrev pub rom_status : RomTally → Status
rom_status tally = if tally.any_loaded then SUCCESS else unwrap_or tally.last_status UNSUPPORTED
