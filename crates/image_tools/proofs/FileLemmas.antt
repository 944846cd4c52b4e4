-- What is found under names.
use Rattle.std.proofs.Common.{◌≡◌, ◌≤◌, ◌<◌, ℕ, ◌+◌, List, [], ◌∷◌, ◌++◌, Bool, true, false, nat_lt, length, drop, refl, sym, ap, ◌∙◌, append_assoc, arith, get_or, add-one, drop-cons}
use Rattle.std.specs.Prelude.{Option, Some, None, Result, Ok, Err, IfOk, String, Vec, string_bytes, if◌then◌else◌}
use Rattle.std.specs.declared.alloc.Global.{Global}
use Rattle.std.proofs.lemmas.Bool.Decides.{nat_tests}
use Rattle.std.proofs.lemmas.Grind.{common_steps}
use Rattle.std.proofs.lemmas.List.{append-nil}
use Rattle.fw_types.specs.declared.limits.TheConstants.{MOST_FILE_BYTES}
use Rattle.fw_shelf.specs.Shelf.{Files, NamedFile, absent, file_of, named_file, present, too_long}
use Rattle.option_rom.specs.RomLayout.{RefusesFor, laid_rom, fault_of as rom_fault_of}
use Rattle.option_rom.specs.declared.part.RomPart.{RomPart}
use Rattle.option_rom.specs.declared.part.RomWriteFault.{RomWriteFault}
use Rattle.option_rom.specs.declared.part.RomWriteFault.TheVariants.{Empty, TooLong, OutOfMemory}
use Rattle.rom_builder.specs.RomParts.{parts_of as parts_of_files}
use Rattle.image_tools.specs.declared.answer.Answer.{Answer}
use Rattle.image_tools.specs.ToolTexts.{refused_rom_line}
use Rattle.image_tools.specs.Steps.{AddsBody, bytes_in}
use Rattle.image_tools.specs.Tools.{answer, bodies_answer, bodies_of, body_before, part_of, parts_of, words_in}

-- a file that is there has at most as many bytes as a file may have
pub present-short : (file : Option (List ℕ)) (bytes : List ℕ) → named_file file ≡ present bytes → length bytes ≤ MOST_FILE_BYTES
present-short None bytes h = absurd cc
present-short (Some all) bytes h = by_size (nat_lt MOST_FILE_BYTES (length all)) refl h
  where
    by_size : (long : Bool) → nat_lt MOST_FILE_BYTES (length all) ≡ long → (if long then too_long else present all) ≡ present bytes → length bytes ≤ MOST_FILE_BYTES
    by_size true is there = absurd cc
    by_size false is there =
        let same : all ≡ bytes = cc in
        let few : length all ≤ MOST_FILE_BYTES = grind (arith, nat_tests) in
        rw (sym same) few

-- ---- several files

-- the bytes so far, before those of later files
abbrev pub after_bodies : List (List ℕ) → Result (List (List ℕ)) Answer → Result (List (List ℕ)) Answer
after_bodies bodies (Ok more) = Ok (bodies ++ more)
after_bodies bodies (Err refusal) = Err refusal

pub after_bodies-none : (later : Result (List (List ℕ)) Answer) → after_bodies [] later ≡ later
after_bodies-none (Ok more) = refl
after_bodies-none (Err refusal) = refl

grouped : (bodies : List (List ℕ)) (name bytes : List ℕ) (later : Result (List (List ℕ)) Answer) → after_bodies bodies (body_before name (present bytes) later) ≡ after_bodies (bodies ++ bytes ∷ []) later
grouped bodies name bytes (Ok more) = ap Ok (sym (append_assoc bodies (bytes ∷ []) more))
grouped bodies name bytes (Err refusal) = refl

one_more : (file : NamedFile) (name : List ℕ) (old new : List (Vec ℕ Global)) (later : Result (List (List ℕ)) Answer) → AddsBody name file None old new
    → after_bodies (bytes_in old) (body_before name file later) ≡ after_bodies (bytes_in new) later
one_more absent name old new later adds = absurd cc
one_more too_long name old new later adds = absurd cc
one_more (present bytes) name old new later adds = grouped (bytes_in old) name bytes later ∙ ap (λ (bodies : List (List ℕ)). after_bodies bodies later) (sym adds.1)

none_more : (file : NamedFile) (name : List ℕ) (old new : List (Vec ℕ Global)) (later : Result (List (List ℕ)) Answer) (refusal : Answer) → AddsBody name file (Some refusal) old new
    → after_bodies (bytes_in old) (body_before name file later) ≡ Err refusal
none_more absent name old new later refusal adds = cc
none_more too_long name old new later refusal adds = cc
none_more (present bytes) name old new later refusal adds = let no : Some refusal ≡ None = adds.0 in absurd cc

-- the name at a place
here : (names : List (String Global)) (i : ℕ) (name : String Global) → i < length names → name ≡ get_or names i name → words_in (drop i names) ≡ string_bytes name ∷ words_in (drop (i + 1) names)
here names i name within is = let split : drop i names ≡ name ∷ drop (i + 1) names = rw (add-one, is) (drop-cons names i name within) in ap words_in split

pub bodies-step : (files : Files) (names : List (String Global)) (i : ℕ) (name : String Global) (old new : List (Vec ℕ Global)) → i < length names → name ≡ get_or names i name
    → AddsBody (string_bytes name) (file_of files (string_bytes name)) None old new
    → after_bodies (bytes_in old) (bodies_of files (words_in (drop i names))) ≡ after_bodies (bytes_in new) (bodies_of files (words_in (drop (i + 1) names)))
bodies-step files names i name old new within is adds =
    ap (λ (words : List (List ℕ)). after_bodies (bytes_in old) (bodies_of files words)) (here names i name within is)
    ∙ one_more (file_of files (string_bytes name)) (string_bytes name) old new (bodies_of files (words_in (drop (i + 1) names))) adds

pub bodies-refused : (files : Files) (names : List (String Global)) (i : ℕ) (name : String Global) (old new : List (Vec ℕ Global)) (refusal : Answer) → i < length names → name ≡ get_or names i name
    → AddsBody (string_bytes name) (file_of files (string_bytes name)) (Some refusal) old new
    → after_bodies (bytes_in old) (bodies_of files (words_in (drop i names))) ≡ Err refusal
bodies-refused files names i name old new refusal within is adds =
    ap (λ (words : List (List ℕ)). after_bodies (bytes_in old) (bodies_of files words)) (here names i name within is)
    ∙ none_more (file_of files (string_bytes name)) (string_bytes name) old new (bodies_of files (words_in (drop (i + 1) names))) refusal adds

pub bodies-end : (files : Files) (names : List (String Global)) (i : ℕ) (bodies : List (List ℕ)) → length names ≤ i → after_bodies bodies (bodies_of files (words_in (drop i names))) ≡ Ok bodies
bodies-end files names i bodies past =
    let none : drop i names ≡ [] = grind (arith, common_steps) in
    ap (λ (rest : List (String Global)). after_bodies bodies (bodies_of files (words_in rest))) none ∙ ap Ok (append-nil bodies)

-- parts of vectors are parts of their bytes
pub parts_same : (vendor device class : ℕ) (bodies : List (Vec ℕ Global)) → parts_of_files vendor device class bodies ≡ parts_of vendor device class (bytes_in bodies)
parts_same vendor device class [] = refl
parts_same vendor device class (body ∷ bodies) = ap (λ (parts : List RomPart). part_of vendor device class body.items ∷ parts) (parts_same vendor device class bodies)

-- the option ROM of vectors
pub rom-made : (vendor device class : ℕ) (bodies : List (Vec ℕ Global)) (rom : List ℕ) → rom_fault_of (parts_of_files vendor device class bodies) ≡ None → rom ≡ laid_rom (parts_of_files vendor device class bodies)
    → answer 0 rom ≡ bodies_answer vendor device class (Ok (bytes_in bodies))
rom-made vendor device class bodies rom none laid =
    let same = parts_same vendor device class bodies in
    let fault : rom_fault_of (parts_of vendor device class (bytes_in bodies)) ≡ None = rw (← same) none in
    let bytes : rom ≡ laid_rom (parts_of vendor device class (bytes_in bodies)) = rw (← same) laid in
    rw (fault, bytes) refl

-- and why there is none
refused-for : (vendor device class : ℕ) (bodies : List (Vec ℕ Global)) (fault : RomWriteFault) → rom_fault_of (parts_of_files vendor device class bodies) ≡ Some fault
    → answer 8 (refused_rom_line fault) ≡ bodies_answer vendor device class (Ok (bytes_in bodies))
refused-for vendor device class bodies fault is =
    let found : rom_fault_of (parts_of vendor device class (bytes_in bodies)) ≡ Some fault = rw (← parts_same vendor device class bodies) is in
    rw found refl

refused : (vendor device class : ℕ) (bodies : List (Vec ℕ Global)) (fault : RomWriteFault) → (fault ≡ OutOfMemory → ⊥) → RefusesFor (rom_fault_of (parts_of_files vendor device class bodies)) (Err fault)
    → answer 8 (refused_rom_line fault) ≡ bodies_answer vendor device class (Ok (bytes_in bodies))
refused vendor device class bodies Empty memory refuses = refused-for vendor device class bodies Empty refuses
refused vendor device class bodies TooLong memory refuses = refused-for vendor device class bodies TooLong refuses
refused vendor device class bodies OutOfMemory memory refuses = absurd (memory refl)

pub rom-refused : {E : Type 0} → (vendor device class : ℕ) (bodies : List (Vec ℕ Global)) (fault : RomWriteFault) (made : Result Answer E) → RefusesFor (rom_fault_of (parts_of_files vendor device class bodies)) (Err fault)
    → IfOk made (λ line. line ≡ answer 8 (refused_rom_line fault)) → IfOk made (λ line. fault ≡ OutOfMemory → ⊥) → IfOk made (λ line. line ≡ bodies_answer vendor device class (Ok (bytes_in bodies)))
rom-refused vendor device class bodies fault (Ok line) refuses says memory = says ∙ refused vendor device class bodies fault memory refuses
rom-refused vendor device class bodies fault (Err stop) refuses says memory = tt
