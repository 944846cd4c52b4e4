-- What the world's calls answer.
use Rattle.std.specs.Prelude.{◌≡◌, Result, Ok, Err}
use Rattle.world_model.specs.declared.fault.WorldFault.{WorldFault}
use Rattle.world_model.specs.declared.fault.WorldFault.TheVariants.{Full, NotThere, OutOfMemory}

-- A call gives this answer, unless memory ran out.
abbrev pub Gives : {T : Type 0} → Result T WorldFault → Result T WorldFault → Type 0
Gives (Ok value) answer = answer ≡ Ok value
Gives (Err Full) answer = answer ≡ Err Full
Gives (Err NotThere) answer = answer ≡ Err NotThere
Gives (Err OutOfMemory) answer = Unit {0}
