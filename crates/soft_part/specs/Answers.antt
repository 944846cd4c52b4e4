-- What stays as it was if a call of the world is refused.
use Rattle.std.specs.Prelude.{◌≡◌, Result, Ok, Err}
use Rattle.handle_db.specs.declared.refusal.DbRefusal.{DbRefusal}
use Rattle.handle_db.specs.declared.refusal.DbRefusal.TheVariants as refusal
use Rattle.open_records.specs.declared.fault.RecFault.{RecFault}
use Rattle.open_records.specs.declared.fault.RecFault.TheVariants as rec_fault
use Rattle.world_model.specs.declared.fault.WorldFault.{WorldFault}
use Rattle.world_model.specs.declared.fault.WorldFault.TheVariants.{Full, NotThere, OutOfMemory}

-- an answer without its value
abbrev pub done : {T : Type 0} → Result T WorldFault → Result Unit WorldFault
done (Ok value) = Ok tt
done (Err fault) = Err fault

-- After a refusal other than OutOfMemory everything is as before.
abbrev pub AsBefore : {T W : Type 0} → Result T WorldFault → W → W → Type 0
AsBefore (Ok value) old new = Unit {0}
AsBefore (Err Full) old new = new ≡ old
AsBefore (Err NotThere) old new = new ≡ old
AsBefore (Err OutOfMemory) old new = Unit {0}

-- The same of the database's refusals.
abbrev pub AsBeforeRefusal : {T W : Type 0} → Result T DbRefusal → W → W → Type 0
AsBeforeRefusal (Ok value) old new = Unit {0}
AsBeforeRefusal (Err refusal.BadHandle) old new = new ≡ old
AsBeforeRefusal (Err refusal.Already) old new = new ≡ old
AsBeforeRefusal (Err refusal.Full) old new = new ≡ old
AsBeforeRefusal (Err refusal.NotThere) old new = new ≡ old
AsBeforeRefusal (Err refusal.OutOfMemory) old new = Unit {0}

-- The same of a record that is not entered.
abbrev pub AsBeforeFull : {T W : Type 0} → Result T RecFault → W → W → Type 0
AsBeforeFull (Ok value) old new = Unit {0}
AsBeforeFull (Err rec_fault.Full) old new = new ≡ old
AsBeforeFull (Err rec_fault.OutOfMemory) old new = Unit {0}
