-- What the image tools answer to their words, with the files of a shelf: a status, and the bytes that they
-- write.
use Rattle.std.specs.Prelude.{◌≡◌, ℕ, ◌+◌, List, [], ◌∷◌, Bool, ◌||◌, Option, Some, None, Result, Ok, Err, bytes_eq, codes, map, nat_eq, option_map, String, string_bytes, if◌then◌else◌}
use Rattle.std.specs.declared.alloc.Global.{Global}
use Rattle.fw_types.specs.declared.image.TheConstants.{BOOT_SERVICE_DRIVER}
use Rattle.fw_types.specs.declared.image.PeRefusal.{PeRefusal}
use Rattle.fw_shelf.specs.Shelf.{Files, NamedFile, absent, file_of, present, too_long}
use Rattle.fw_shelf.specs.Sink.{with_bytes}
use Rattle.text_lines.specs.Words.{is_text_byte}
use Rattle.pe_image.specs.ImageRules.{refusal_of}
use Rattle.option_rom.specs.RomGrammar.{rom_in}
use Rattle.option_rom.specs.RomLayout.{laid_rom, fault_of as rom_fault_of}
use Rattle.option_rom.specs.declared.part.RomPart.{RomPart}
use Rattle.option_rom.specs.declared.part.RomWriteFault.{RomWriteFault}
use Rattle.rom_builder.specs.MadeImage.{fault_of, made_image}
use Rattle.rom_builder.specs.declared.parts.BuildFault.{BuildFault}
use Rattle.rom_builder.specs.declared.parts.DriverParts.{DriverParts}
use Rattle.ebc_asm.specs.Assembly.{assembly_of, place_of_label}
use Rattle.ebc_asm.specs.declared.fault.AsmKind.{AsmKind}
use Rattle.script_text.specs.Numbers.{number_in}
use Rattle.image_tools.specs.declared.answer.Answer.{Answer}
use Rattle.image_tools.specs.declared.files.Found.{Found}
use Rattle.image_tools.specs.declared.files.Found.TheVariants.{Absent, Present, TooLong}
use Rattle.image_tools.specs.declared.words.Form.{Form as FormOfCode}
use Rattle.image_tools.specs.declared.words.Form.TheVariants.{Asm, Rom, Walk, Look}
use Rattle.image_tools.specs.ToolTexts.{absent_line, image_text, kind_word, missing_entry_line, not_ascii, refused_image_line, refused_line, refused_parts_line, refused_rom_line, rom_text, too_long_line, usage_line}

-- ---- the words

-- the words as lists of bytes
abbrev pub words_in : List (String Global) → List (List ℕ)
words_in words = map string_bytes words

-- What the words ask for, with names of files: the image of a listing, entered at a label if one is given;
-- an option ROM of files, for a vendor, a device and a class; the images of an option ROM; or what an image
-- says about itself.
pub data Form : Type 0 where
  asm : List ℕ → Option (List ℕ) → Form
  rom : ℕ → ℕ → ℕ → List (List ℕ) → Form
  walk : List ℕ → Form
  look : List ℕ → Form

-- the form for a value of the code: it has the words themselves in place of references to them
abbrev pub form_value : FormOfCode → Form
form_value (Asm listing entry) = asm listing.now (option_map (λ name. name.now) entry)
form_value (Rom vendor device class files) = rom vendor device class (words_in files.now)
form_value (Walk name) = walk name.now
form_value (Look name) = look name.now

-- a listing, and maybe the label at which the driver is entered
abbrev pub asm_form : List (List ℕ) → Option Form
asm_form [] = None
asm_form (listing ∷ []) = Some (asm listing None)
asm_form (listing ∷ entry ∷ []) = Some (asm listing (Some entry))
asm_form (listing ∷ entry ∷ other ∷ others) = None

-- vendor and device of 16 bits, a class of 24 bits, and at least one file
abbrev pub rom_form_of : Option ℕ → Option ℕ → Option ℕ → List (List ℕ) → Option Form
rom_form_of None device class files = None
rom_form_of (Some vendor) None class files = None
rom_form_of (Some vendor) (Some device) None files = None
rom_form_of (Some vendor) (Some device) (Some class) files = Some (rom vendor device class files)

abbrev pub rom_form : List (List ℕ) → Option Form
rom_form [] = None
rom_form (vendor ∷ []) = None
rom_form (vendor ∷ device ∷ []) = None
rom_form (vendor ∷ device ∷ class ∷ []) = None
rom_form (vendor ∷ device ∷ class ∷ file ∷ files) =
    rom_form_of (number_in 0 0xFFFF vendor) (number_in 0 0xFFFF device) (number_in 0 0xFFFFFF class) (file ∷ files)

-- one name
abbrev pub only_name : List (List ℕ) → Option (List ℕ)
only_name [] = None
only_name (name ∷ []) = Some name
only_name (name ∷ other ∷ others) = None

-- the form of a verb and the words after it
abbrev pub form_of_verb : List ℕ → List (List ℕ) → Option Form
form_of_verb verb words =
    if bytes_eq verb (codes "asm") then asm_form words
    else if bytes_eq verb (codes "rom") then rom_form words
    else if bytes_eq verb (codes "walk") then option_map walk (only_name words)
    else if bytes_eq verb (codes "look") then option_map look (only_name words)
    else None

-- the form of the words, if they have one
abbrev pub form_of : List (List ℕ) → Option Form
form_of [] = None
form_of (verb ∷ words) = form_of_verb verb words

-- ---- answers

abbrev pub answer : ℕ → List ℕ → Answer
answer status output = record { status = status; output = output }

-- what the code found under a name
abbrev pub found_value : Found → NamedFile
found_value Absent = absent
found_value (Present bytes) = present bytes
found_value TooLong = too_long

-- the answer for the bytes of a file, or the line that says that it is absent or too long
abbrev pub file_answer : List ℕ → NamedFile → (List ℕ → Answer) → Answer
file_answer name absent answer_over = answer 6 (absent_line name)
file_answer name (present bytes) answer_over = answer_over bytes
file_answer name too_long answer_over = answer 7 (too_long_line name)

-- ---- asm

-- a byte of a listing: text, or an end of a line
abbrev pub is_listing_byte : ℕ → Bool
is_listing_byte b = is_text_byte b || nat_eq b 10 || nat_eq b 13

-- the number of the line after a byte of a line with this number
abbrev pub number_after : ℕ → ℕ → ℕ
number_after number b = if nat_eq b 10 then number + 1 else number

-- the line of the first byte that no listing may have, if the first byte is in a line with this number
abbrev pub line_not_ascii : ℕ → List ℕ → Option ℕ
line_not_ascii number [] = None
line_not_ascii number (b ∷ bytes) =
    if is_listing_byte b then line_not_ascii (number_after number b) bytes else Some number

-- a driver of code that is entered at a place of it: a boot service driver without relocations
abbrev pub driver_parts : List ℕ → ℕ → DriverParts
driver_parts code entry = record { code = code; entry = entry; relocs = []; subsystem = BOOT_SERVICE_DRIVER }

-- the image of parts, or why there is none
abbrev pub image_or_fault : Option BuildFault → DriverParts → Answer
image_or_fault None parts = answer 0 (made_image parts)
image_or_fault (Some fault) parts = answer 8 (refused_parts_line fault)

abbrev pub parts_answer : DriverParts → Answer
parts_answer parts = image_or_fault (fault_of parts) parts

-- the place at which the driver is entered: the first byte, or the label that is given
abbrev pub entry_place : Option (List ℕ) → List ℕ → Option ℕ
entry_place None text = Some 0
entry_place (Some name) text = place_of_label text name

-- the image of code, or the line that says that there is no such label
abbrev pub entered_answer : Option ℕ → List ℕ → Answer
entered_answer None code = answer 8 missing_entry_line
entered_answer (Some place) code = parts_answer (driver_parts code place)

-- the image of a text's bytes, or the line that says which of its lines is refused
abbrev pub assembled_answer : Result (List ℕ) (ℕ × AsmKind) → Option (List ℕ) → List ℕ → Answer
assembled_answer (Ok code) entry text = entered_answer (entry_place entry text) code
assembled_answer (Err (number, kind)) entry text = answer 8 (refused_line number (kind_word kind))

-- a listing is checked to be text before it is read
abbrev pub text_answer : Option ℕ → Option (List ℕ) → List ℕ → Answer
text_answer None entry text = assembled_answer (assembly_of text) entry text
text_answer (Some number) entry text = answer 8 (refused_line number not_ascii)

abbrev pub listing_answer : Option (List ℕ) → List ℕ → Answer
listing_answer entry text = text_answer (line_not_ascii 1 text) entry text

-- ---- rom

-- bytes before those of other files, or the first of the files that is absent or too long
abbrev pub body_before : List ℕ → NamedFile → Result (List (List ℕ)) Answer → Result (List (List ℕ)) Answer
body_before name absent others = Err (answer 6 (absent_line name))
body_before name too_long others = Err (answer 7 (too_long_line name))
body_before name (present bytes) (Ok bodies) = Ok (bytes ∷ bodies)
body_before name (present bytes) (Err refusal) = Err refusal

-- the bytes of files in their order
abbrev pub bodies_of : Files → List (List ℕ) → Result (List (List ℕ)) Answer
bodies_of files [] = Ok []
bodies_of files (name ∷ names) = body_before name (file_of files name) (bodies_of files names)

abbrev pub part_of : ℕ → ℕ → ℕ → List ℕ → RomPart
part_of vendor device class body = record { vendor = vendor; device = device; class = class; body = body }

abbrev pub parts_of : ℕ → ℕ → ℕ → List (List ℕ) → List RomPart
parts_of vendor device class bodies = map (part_of vendor device class) bodies

-- the option ROM of parts, or why there is none
abbrev pub rom_or_fault : Option RomWriteFault → List RomPart → Answer
rom_or_fault None parts = answer 0 (laid_rom parts)
rom_or_fault (Some fault) parts = answer 8 (refused_rom_line fault)

abbrev pub bodies_answer : ℕ → ℕ → ℕ → Result (List (List ℕ)) Answer → Answer
bodies_answer vendor device class (Ok bodies) =
    let parts : List RomPart = parts_of vendor device class bodies in
    rom_or_fault (rom_fault_of parts) parts
bodies_answer vendor device class (Err refusal) = refusal

-- ---- walk and look

abbrev pub walk_answer : List ℕ → Answer
walk_answer file = answer 0 (rom_text (rom_in file))

abbrev pub image_or_refusal : Option PeRefusal → List ℕ → List ℕ
image_or_refusal None file = image_text file
image_or_refusal (Some refusal) file = refused_image_line refusal

abbrev pub look_answer : List ℕ → Answer
look_answer file = answer 0 (image_or_refusal (refusal_of file) file)

-- ---- the whole answer

abbrev pub form_answer : Files → Option Form → Answer
form_answer files None = answer 1 usage_line
form_answer files (Some (asm listing entry)) = file_answer listing (file_of files listing) (listing_answer entry)
form_answer files (Some (rom vendor device class names)) = bodies_answer vendor device class (bodies_of files names)
form_answer files (Some (walk name)) = file_answer name (file_of files name) walk_answer
form_answer files (Some (look name)) = file_answer name (file_of files name) look_answer

-- the answer to words with these files
abbrev pub answer_of : Files → List (List ℕ) → Answer
answer_of files words = form_answer files (form_of words)

-- ---- how the program may end

-- whether the program gives up with a status: the shelf failed, the sink failed, or memory ran out
abbrev pub gives_up : ℕ → Bool
gives_up status = nat_eq status 3 || nat_eq status 4 || nat_eq status 5

-- whether a status is one that an answer with files may have; and one that any answer may have
abbrev pub is_file_status : ℕ → Bool
is_file_status status = nat_eq status 0 || nat_eq status 6 || nat_eq status 7 || nat_eq status 8

abbrev pub is_answer_status : ℕ → Bool
is_answer_status status = is_file_status status || nat_eq status 1

-- the status is the answer's, and exactly the answer's bytes were taken
abbrev pub IsAnswered : Files → List (List ℕ) → ℕ → Option (List ℕ) → Option (List ℕ) → Type 0
IsAnswered files words status old new =
    (status ≡ (answer_of files words).status) × (new ≡ with_bytes old (answer_of files words).output)
