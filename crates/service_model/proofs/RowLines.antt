-- A row, line by line: what it ends with, what is known after a line that did not stop, and why lines trap.
use Rattle.std.proofs.Common.{◌≡◌, ◌<◌, ◌≤◌, inl, inr, ℕ, zero, suc, ◌+◌, Bool, true, false, refl, subst, arith}
use Rattle.std.specs.List.{range_with_len}
use Rattle.std.proofs.lemmas.Bool.{cases_lt}
use Rattle.std.specs.Prelude.{List, [], ◌∷◌, Option, Some, None, ok_or, Result, Ok, Err, if◌then◌else◌}
use Rattle.fw_types.specs.Attr.{is_legal}
use Rattle.fw_types.specs.declared.status.Status.{Status as StatusValue}
use Rattle.fw_types.specs.declared.event.Cause.{Cause}
use Rattle.fw_types.specs.declared.event.Cause.TheVariants.{Memory}
use Rattle.fw_types.specs.declared.status.TheConstants.Status.{INVALID_PARAMETER, NOT_FOUND}
use Rattle.handle_db.specs.Database.{interface_of}
use Rattle.world_model.specs.World.{State}
use Rattle.service_model.specs.Words.{◌>>=◌, ◌>>◌, each, legal, refuse_if, installed_interface}
use Rattle.service_model.specs.declared.plan.Stop.{Stop}
use Rattle.service_model.specs.declared.plan.Stop.TheVariants.{Status, Trap}

-- the change that a row or some of its lines end with, if they do, is of this sort
abbrev pub Says : {B : Type 0} → (B → Type 0) → Result B Stop → Type 0
Says {B} P result = (end : B) → result ≡ Ok end → P end

pub says-end : {B : Type 0} (P : B → Type 0) (end : B) → P end → Says P (Ok end)
says-end P end holds other same =
    let equal : end ≡ other = cc in
    subst P equal holds

pub says-stop : {B : Type 0} (P : B → Type 0) (stop : Stop) → Says P (Err stop)
says-stop P stop end same = absurd cc

-- a line that finds nothing
pub says-after : {B : Type 0} (P : B → Type 0) (line : Result Unit Stop) (rest : Result B Stop) → (line ≡ Ok tt → Says P rest) → Says P (line >> rest)
says-after P (Ok done) rest later = later refl
says-after P (Err stop) rest later = says-stop P stop

-- a line that finds something
pub says-found : {A B : Type 0} (P : B → Type 0) (line : Result A Stop) (rest : A → Result B Stop) → ((found : A) → line ≡ Ok found → Says P (rest found)) → Says P (line >>= rest)
says-found P (Ok found) rest later = later found refl
says-found P (Err stop) rest later = says-stop P stop

-- a test
pub says-if : {B : Type 0} (P : B → Type 0) (test : Bool) (one other : Result B Stop) → (test ≡ true → Says P one) → (test ≡ false → Says P other) → Says P (if test then one else other)
says-if P true one other holds_one holds_other = holds_one refl
says-if P false one other holds_one holds_other = holds_other refl

-- what is of a sort is of a wider one
pub says-weaker : {B : Type 0} {P : B → Type 0} (Q : B → Type 0) (result : Result B Stop) → Says P result → ((end : B) → P end → Q end) → Says Q result
says-weaker Q result holds wider end is = wider end (holds end is)

-- ---- what is known after a line that did not stop

pub not-refused : (test : Bool) (status : StatusValue) → refuse_if test status ≡ Ok tt → test ≡ false
not-refused true status is = absurd cc
not-refused false status is = refl

pub not-stopped : (test : Bool) (stop : Stop) → ◌≡◌ {A = Result Unit Stop} (if test then Ok tt else Err stop) (Ok tt) → test ≡ true
not-stopped true stop is = refl
not-stopped false stop is = absurd cc

-- what is found under a test is the item itself, and the test holds
under-test : {A : Type 0} → (test : Bool) (item found : A) (stop : Stop) (P : A → Type 0) → (test ≡ true → P item) → ◌≡◌ {A = Result A Stop} (if test then Ok item else Err stop) (Ok found) → P found
under-test true item found stop P holds is =
    let equal : item ≡ found = cc in
    subst P equal (holds refl)
under-test false item found stop P holds is = absurd cc

pub is-same : (bits attr : ℕ) → legal bits ≡ Ok attr → bits ≡ attr
is-same bits attr is = under-test (is_legal bits) bits attr (Status INVALID_PARAMETER) (λ found. bits ≡ found) (λ can. refl) is

pub is-legal : (bits attr : ℕ) → legal bits ≡ Ok attr → is_legal attr ≡ true
is-legal bits attr is = under-test (is_legal bits) bits attr (Status INVALID_PARAMETER) (λ found. is_legal found ≡ true) (λ can. can) is

pub is-there : (handle : ℕ) (name : List ℕ) (found : ℕ × ℕ) (w : State) → installed_interface handle name w ≡ Ok found → interface_of handle name w.soft.database ≡ Some found
is-there handle name found w is = by_found (interface_of handle name w.soft.database) is
  where
    by_found : (item : Option (ℕ × ℕ)) → ok_or item (Status NOT_FOUND) ≡ Ok found → item ≡ Some found
    by_found None is = absurd cc
    by_found (Some one) is = cc

-- a line for each number of a range goes on, so each of them does
pub each-at : (line : ℕ → Result Unit Stop) (from n : ℕ) → each line (range_with_len from n) ≡ Ok tt → (i : ℕ) → from ≤ i → i < from + n → line i ≡ Ok tt
each-at line from zero is i low high = absurd (omega arith)
each-at line from (suc n) is i low high = by_line (line from) refl is (λ rest above. each-at line (from + 1) n rest i above (omega arith))
  where
    by_line : (first : Result Unit Stop) → line from ≡ first → ◌≡◌ {A = Result Unit Stop} (first >> each line (range_with_len (from + 1) n)) (Ok tt)
        → (each line (range_with_len (from + 1) n) ≡ Ok tt → from + 1 ≤ i → line i ≡ Ok tt) → line i ≡ Ok tt
    by_line (Err stop) here is later = absurd cc
    by_line (Ok done) here is later = elim (cases_lt from i) [
      | inl above ↦ later is (omega arith)
      | inr first ↦
          let same : i ≡ from = omega arith in
          rw same here
    ]

-- ---- why lines trap

-- a row, or some of its lines, traps only for `Memory`
abbrev pub TrapsByMemory : {B : Type 0} → Result B Stop → Type 0
TrapsByMemory {B} result = (cause : Cause) → result ≡ Err (Trap cause) → cause ≡ Memory

pub traps-end : {B : Type 0} (end : B) → TrapsByMemory (Ok end)
traps-end end cause is = absurd cc

pub traps-status : {B : Type 0} (status : StatusValue) → TrapsByMemory {B = B} (Err (Status status))
traps-status status cause is = absurd cc

pub traps-memory : {B : Type 0} → TrapsByMemory {B = B} (Err (Trap Memory))
traps-memory cause is = cc

pub traps-after : {B : Type 0} (line : Result Unit Stop) (rest : Result B Stop) → TrapsByMemory line → TrapsByMemory rest → TrapsByMemory (line >> rest)
traps-after (Ok done) rest here later cause is = later cause is
traps-after (Err stop) rest here later cause is = here cause cc

pub traps-found : {A B : Type 0} (line : Result A Stop) (rest : A → Result B Stop) → TrapsByMemory line → ((found : A) → TrapsByMemory (rest found)) → TrapsByMemory (line >>= rest)
traps-found (Ok found) rest here later cause is = later found cause is
traps-found (Err stop) rest here later cause is = here cause cc

pub traps-if : {B : Type 0} (test : Bool) (one other : Result B Stop) → TrapsByMemory one → TrapsByMemory other → TrapsByMemory (if test then one else other)
traps-if true one other holds_one holds_other = holds_one
traps-if false one other holds_one holds_other = holds_other

pub traps-unread : {A : Type 0} (found : Option A) → TrapsByMemory (ok_or found (Trap Memory))
traps-unread None = traps-memory
traps-unread (Some found) = traps-end found

pub traps-missing : {A : Type 0} (found : Option A) (status : StatusValue) → TrapsByMemory (ok_or found (Status status))
traps-missing None status = traps-status status
traps-missing (Some found) status = traps-end found

pub traps-each : (line : ℕ → Result Unit Stop) (numbers : List ℕ) → ((i : ℕ) → TrapsByMemory (line i)) → TrapsByMemory (each line numbers)
traps-each line [] here = traps-end tt
traps-each line (i ∷ rest) here = traps-after (line i) (each line rest) (here i) (traps-each line rest here)
