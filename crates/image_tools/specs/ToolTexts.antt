-- What the image tools write, except for images and option ROMs: lines of words.
use Rattle.std.specs.Prelude.{ℕ, ◌+◌, List, [], ◌∷◌, ◌++◌, Bool, ◌&&◌, not, nat_eq, nat_le, codes, map, if◌then◌else◌}
use Rattle.std.specs.List.{before_first, flat_map}
use Rattle.std.specs.Fmt.{decimal}
use Rattle.fw_types.specs.declared.image.PeRefusal.{PeRefusal}
use Rattle.pe_image.specs.declared.sections.Section.{Section}
use Rattle.pe_image.specs.Headers.{named_sections_of}
use Rattle.pe_image.specs.ImageRules.{entry_of, size_of, subsystem_of}
use Rattle.option_rom.specs.RomGrammar.{Image, Rom}
use Rattle.option_rom.specs.declared.part.RomWriteFault.{RomWriteFault}
use Rattle.option_rom.specs.declared.part.RomWriteFault.TheVariants as rom_fault
use Rattle.rom_builder.specs.declared.parts.BuildFault.{BuildFault}
use Rattle.rom_builder.specs.declared.parts.BuildFault.TheVariants as build_fault
use Rattle.ebc_asm.specs.declared.fault.AsmKind.{AsmKind}
use Rattle.ebc_asm.specs.declared.fault.AsmKind.TheVariants as kind
use Rattle.report_text.specs.Report.{end_word, hex, line, refusal_word}

-- the line for words that have none of the forms
abbrev pub usage_line : List ℕ
usage_line = codes "usage: asm LISTING [ENTRY], rom VENDOR DEVICE CLASS FILE..., walk ROM, look IMAGE" ++ 10 ∷ []

-- there is no file under a name
abbrev pub absent_line : List ℕ → List ℕ
absent_line name = line (codes "no such file:" ∷ name ∷ [])

-- the file under a name has more than 16 MiB
abbrev pub too_long_line : List ℕ → List ℕ
too_long_line name = line (codes "file too long:" ∷ name ∷ [])

-- ---- asm

-- why a line of a listing is refused; one that is no text has a word of its own
abbrev pub kind_word : AsmKind → List ℕ
kind_word kind.UnknownWord = codes "UnknownWord"
kind_word kind.Operand = codes "Operand"
kind_word kind.Number = codes "Number"
kind_word kind.Label = codes "Label"
kind_word kind.Range = codes "Range"

abbrev pub not_ascii : List ℕ
not_ascii = codes "NotAscii"

-- a line of a listing is refused
abbrev pub refused_line : ℕ → List ℕ → List ℕ
refused_line number word = line (codes "line" ∷ decimal number ∷ word ∷ [])

-- no line of the listing is the label at which the driver is to be entered
abbrev pub missing_entry_line : List ℕ
missing_entry_line = line (codes "entry" ∷ codes "Label" ∷ [])

-- why no image is made of a listing's bytes
abbrev pub build_word : BuildFault → List ℕ
build_word build_fault.TooLong = codes "TooLong"
build_word build_fault.BadEntry = codes "BadEntry"
build_word build_fault.BadReloc = codes "BadReloc"
build_word build_fault.BadSubsystem = codes "BadSubsystem"
build_word build_fault.OutOfMemory = codes "OutOfMemory"

abbrev pub refused_parts_line : BuildFault → List ℕ
refused_parts_line fault = line (codes "image" ∷ build_word fault ∷ [])

-- ---- rom

-- why no option ROM is made of files
abbrev pub rom_word : RomWriteFault → List ℕ
rom_word rom_fault.Empty = codes "Empty"
rom_word rom_fault.TooLong = codes "TooLong"
rom_word rom_fault.OutOfMemory = codes "OutOfMemory"

abbrev pub refused_rom_line : RomWriteFault → List ℕ
refused_rom_line fault = line (codes "rom" ∷ rom_word fault ∷ [])

-- ---- walk

-- a number after its name, in lower-case hexadecimal digits
unfoldable pub hex_field : List ℕ → ℕ → List ℕ
hex_field name n = 32 ∷ name ++ codes " 0x" ++ hex n

-- where an image of an option ROM lies in it; which devices it is for; and what code it has
abbrev pub place_fields : ℕ → Image → List ℕ
place_fields place image = hex_field (codes "at") place ++ hex_field (codes "size") image.size

abbrev pub device_fields : Image → List ℕ
device_fields image =
    hex_field (codes "vendor") image.vendor ++ hex_field (codes "device") image.device ++ hex_field (codes "class") image.class

abbrev pub code_fields : Image → List ℕ
code_fields image =
    hex_field (codes "code-type") image.code_type ++ hex_field (codes "machine") image.machine
    ++ hex_field (codes "compression") image.compression

-- an image of an option ROM, by its number from 1 and its place
abbrev pub image_line : ℕ → ℕ → Image → List ℕ
image_line number place image =
    codes "image " ++ decimal number ++ place_fields place image ++ device_fields image ++ code_fields image ++ 10 ∷ []

-- images that follow one another
abbrev pub image_lines : ℕ → ℕ → List Image → List ℕ
image_lines number place [] = []
image_lines number place (image ∷ images) =
    image_line number place image ++ image_lines (number + 1) (place + image.size) images

-- the images of an option ROM, and how it ends
abbrev pub rom_text : Rom → List ℕ
rom_text rom = image_lines 1 0 rom.images ++ line (codes "rom" ∷ end_word rom.end ∷ [])

-- ---- look

-- a byte of a name, and `?` for one that is no printable ASCII character, and for the quotation mark
abbrev pub shown_byte : ℕ → ℕ
shown_byte b = if nat_le 32 b && nat_le b 126 && not (nat_eq b 34) then b else 63

abbrev pub is_zero : ℕ → Bool
is_zero b = nat_eq b 0

-- the name of a section: its bytes up to the first zero
abbrev pub shown_name : List ℕ → List ℕ
shown_name name = map shown_byte (before_first is_zero name)

-- where a section lies in the image, and where in the file
abbrev pub image_fields : Section → List ℕ
image_fields section = hex_field (codes "address") section.address ++ hex_field (codes "size") section.virtual_size

abbrev pub file_fields : Section → List ℕ
file_fields section = hex_field (codes "file-offset") section.file_offset ++ hex_field (codes "file-size") section.raw_size

-- a section, with its name between quotation marks
unfoldable pub section_line : Section → List ℕ
section_line section =
    codes "section " ++ 34 ∷ shown_name section.name ++ 34 ∷ [] ++ image_fields section ++ file_fields section ++ 10 ∷ []

-- what an accepted image says about itself
abbrev pub image_text : List ℕ → List ℕ
image_text file =
    line (codes "subsystem" ∷ decimal (subsystem_of file) ∷ [])
    ++ line (codes "size" ∷ (codes "0x" ++ hex (size_of file)) ∷ [])
    ++ line (codes "entry" ∷ (codes "0x" ++ hex (entry_of file)) ∷ [])
    ++ flat_map section_line (named_sections_of file)

-- an image is refused
abbrev pub refused_image_line : PeRefusal → List ℕ
refused_image_line refusal = line (codes "image" ∷ refusal_word refusal ∷ [])
