-- Placing an image in the world (UEFI 2.8, 7.4: LoadImage): its file is checked, its laying is paid for, and it is
-- added, unless a limit is met.
use Rattle.std.specs.Prelude.{◌≡◌, ℕ, nat_lt, List, Option, Some, None, Result, Ok, Err, if◌then◌else◌}
use Rattle.fw_types.specs.declared.image.PeRefusal.{PeRefusal}
use Rattle.pe_image.specs.ImageRules.{entry_of, refusal_of, size_of, subsystem_of}
use Rattle.pe_image.specs.LaidImage.{laid}
use Rattle.world_model.specs.World.{Soft, State, on_hard, on_soft}
use Rattle.world_model.specs.Units.{units_spent}
use Rattle.world_model.specs.Images.{image_added, is_image_full}
use Rattle.driver_model.specs.ImageLife.{laying_price}
use Rattle.image_table.specs.declared.fault.PlaceFault.{PlaceFault}
use Rattle.image_table.specs.declared.fault.PlaceFault.TheVariants.{Refused, Units, Full, OutOfMemory}

-- ---- the answer

-- after its laying is paid for, the image of a file gets the next handle, unless a limit is met
abbrev pub adding_answer : List ℕ → Soft → Result ℕ PlaceFault
adding_answer file soft = if is_image_full (size_of file) soft then Err Full else Ok soft.database.next

-- an accepted file is paid for, unless too few units are left
abbrev pub accepted_answer : List ℕ → State → Result ℕ PlaceFault
accepted_answer file w =
    if nat_lt w.hard.units (laying_price file) then Err Units else adding_answer file w.soft

abbrev pub unless_refused : Option PeRefusal → List ℕ → State → Result ℕ PlaceFault
unless_refused (Some refusal) file w = Err (Refused refusal)
unless_refused None file w = accepted_answer file w

abbrev pub place_answer : List ℕ → State → Result ℕ PlaceFault
place_answer file w = unless_refused (refusal_of file) file w

-- ---- the state after it

-- the image of a file is added, its bytes laid at the next image address
abbrev pub file_added : List ℕ → ℕ → Soft → Soft
file_added file device soft = image_added (laid file soft.next_image) (entry_of file) (subsystem_of file) device soft

abbrev pub added_unless_full : List ℕ → ℕ → State → State
added_unless_full file device w = if is_image_full (size_of file) w.soft then w else on_soft (file_added file device) w

-- The price is spent, and the image is added unless a limit is met. If too few units are left, nothing is spent.
abbrev pub accepted_placed : List ℕ → ℕ → State → State
accepted_placed file device w =
    if nat_lt w.hard.units (laying_price file) then w
    else added_unless_full file device (on_hard (units_spent (laying_price file)) w)

abbrev pub placed_unless : Option PeRefusal → List ℕ → ℕ → State → State
placed_unless (Some refusal) file device w = w
placed_unless None file device w = accepted_placed file device w

abbrev pub placed : List ℕ → ℕ → State → State
placed file device w = placed_unless (refusal_of file) file device w

-- ---- the call

-- the call gives this answer, unless memory ran out
abbrev pub Gives : Result ℕ PlaceFault → Result ℕ PlaceFault → Type 0
Gives (Ok image) answer = answer ≡ Ok image
Gives (Err (Refused refusal)) answer = answer ≡ Err (Refused refusal)
Gives (Err Units) answer = answer ≡ Err Units
Gives (Err Full) answer = answer ≡ Err Full
Gives (Err OutOfMemory) answer = Unit {0}

-- something holds after the call, unless memory ran out
abbrev pub UnlessMemory : Result ℕ PlaceFault → Type 0 → Type 0
UnlessMemory (Ok image) fact = fact
UnlessMemory (Err (Refused refusal)) fact = fact
UnlessMemory (Err Units) fact = fact
UnlessMemory (Err Full) fact = fact
UnlessMemory (Err OutOfMemory) fact = Unit {0}
