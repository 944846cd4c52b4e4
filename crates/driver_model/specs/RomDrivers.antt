-- The drivers that an option ROM brings (UEFI 2.8, 14.4.2: PCI Option ROMs).
use Rattle.std.specs.Prelude.{ℕ, Bool, ◌&&◌, nat_eq, List, filter, map}
use Rattle.fw_types.specs.declared.image.TheConstants.{EFI_CODE, MACHINE_EBC}
use Rattle.option_rom.specs.RomGrammar.{Image, rom_in}

-- whether an image has an EBC driver: the code type of EFI and the machine of EBC
abbrev pub is_driver : Image → Bool
is_driver image = nat_eq image.code_type EFI_CODE && nat_eq image.machine MACHINE_EBC

-- only a driver that is not compressed can be loaded
abbrev pub is_loadable : Image → Bool
is_loadable image = is_driver image && nat_eq image.compression 0

-- the files of the drivers that can be loaded, in order
abbrev pub drivers_in : (rom : List ℕ) → List (List ℕ)
drivers_in rom = map (λ image. image.body) (filter is_loadable (rom_in rom).images)
