-- A place past 32 bits is refused as an entry, and so is the last place of 32 bits.
use Rattle.std.proofs.Common.{◌≡◌, ◌≤◌, ℕ, min, nat_le, Bool, true, false, List, refl, ap, ◌∙◌, arith}
use Rattle.std.specs.Prelude.{if◌then◌else◌, Some, Result, Ok, Err, IfOk, Vec}
use Rattle.std.specs.declared.alloc.Global.{Global}
use Rattle.std.proofs.lemmas.Bool.Decides.{nat_tests}
use Rattle.fw_types.specs.declared.limits.TheConstants.{MOST_FILE_BYTES}
use Rattle.rom_builder.specs.MadeImage.{Gives, fault_of, is_too_long}
use Rattle.rom_builder.specs.declared.parts.BuildFault.{BuildFault}
use Rattle.rom_builder.specs.declared.parts.BuildFault.TheVariants.{BadEntry, BadReloc, BadSubsystem, OutOfMemory, TooLong}
use Rattle.rom_builder.specs.declared.parts.DriverParts.{DriverParts}
use Rattle.image_tools.specs.declared.answer.Answer.{Answer}
use Rattle.image_tools.specs.Tools.{answer, driver_parts, parts_answer}
use Rattle.image_tools.specs.ToolTexts.{refused_parts_line}

-- what the law of the image writer says about an entry past the most bytes of a file
abbrev pub FarEntries : Type 0
FarEntries = (parts : DriverParts) (entry : ℕ) → MOST_FILE_BYTES ≤ entry → fault_of (record parts { entry = entry }) ≡ Some (if is_too_long parts then TooLong else BadEntry)

-- two entries past them are refused in the same way
far_same : FarEntries → (code : List ℕ) (near far : ℕ) → MOST_FILE_BYTES ≤ near → MOST_FILE_BYTES ≤ far → parts_answer (driver_parts code near) ≡ parts_answer (driver_parts code far)
far_same law code near far past too =
    let parts = driver_parts code 0 in
    rw (law parts near past, law parts far too) refl

-- so the answer for a place is that for the place cut to 32 bits
pub cut_same : FarEntries → (code : List ℕ) (place : ℕ) → parts_answer (driver_parts code (min place 4294967295)) ≡ parts_answer (driver_parts code place)
cut_same law code place = by_order (nat_le place 4294967295) refl
  where
    by_order : (small : Bool) → nat_le place 4294967295 ≡ small → parts_answer (driver_parts code (min place 4294967295)) ≡ parts_answer (driver_parts code place)
    by_order true is = let same : min place 4294967295 ≡ place = grind (arith, nat_tests) in ap (λ (entry : ℕ). parts_answer (driver_parts code entry)) same
    by_order false is = far_same law code (min place 4294967295) place (grind (arith, nat_tests)) (grind (arith, nat_tests))

-- the answer with an image
pub image-made : FarEntries → (code : List ℕ) (place : ℕ) (parts : DriverParts) (file : Vec ℕ Global) → parts ≡ driver_parts code (min place 4294967295) → Gives (Ok file) parts → answer 0 file.items ≡ parts_answer (driver_parts code place)
image-made law code place parts file is gives =
    let of_parts : answer 0 file.items ≡ parts_answer parts = rw (gives.0, gives.1) refl in
    of_parts ∙ ap parts_answer is ∙ cut_same law code place

-- and without one
fault-answer : (parts : DriverParts) (fault : BuildFault) → fault_of parts ≡ Some fault → answer 8 (refused_parts_line fault) ≡ parts_answer parts
fault-answer parts fault is = rw is refl

refused : (parts : DriverParts) (fault : BuildFault) → (fault ≡ OutOfMemory → ⊥) → Gives (Err fault) parts → answer 8 (refused_parts_line fault) ≡ parts_answer parts
refused parts TooLong memory gives = fault-answer parts TooLong gives
refused parts BadEntry memory gives = fault-answer parts BadEntry gives
refused parts BadReloc memory gives = fault-answer parts BadReloc gives
refused parts BadSubsystem memory gives = fault-answer parts BadSubsystem gives
refused parts OutOfMemory memory gives = absurd (memory refl)

pub image-refused : {E : Type 0} → FarEntries → (code : List ℕ) (place : ℕ) (parts : DriverParts) (fault : BuildFault) (made : Result Answer E) → parts ≡ driver_parts code (min place 4294967295) → Gives (Err fault) parts
    → IfOk made (λ line. line ≡ answer 8 (refused_parts_line fault)) → IfOk made (λ line. fault ≡ OutOfMemory → ⊥) → IfOk made (λ line. line ≡ parts_answer (driver_parts code place))
image-refused law code place parts fault (Ok line) is gives says memory = says ∙ refused parts fault memory gives ∙ ap parts_answer is ∙ cut_same law code place
image-refused law code place parts fault (Err stop) is gives says memory = tt
