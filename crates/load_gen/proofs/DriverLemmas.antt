-- The smallest driver has an image.
use Rattle.std.proofs.Common.{◌≡◌, None, refl}
use Rattle.rom_builder.specs.MadeImage.{fault_of, has_bad_entry, has_bad_reloc, has_bad_subsystem, header_bytes, is_too_long, made_image, page_blocks}
use Rattle.rom_builder.specs.SortedOnce.{sorted_once}
use Rattle.fw_types.specs.Layout.{put}
use Rattle.load_gen.specs.GeneratedLoad.{smallest_driver}

pub smallest_driver_made : fault_of smallest_driver ≡ None
unfolding fault_of is_too_long has_bad_entry has_bad_reloc has_bad_subsystem made_image header_bytes page_blocks sorted_once put
smallest_driver_made = refl
