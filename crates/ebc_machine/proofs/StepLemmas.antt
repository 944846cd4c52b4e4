-- How a step ends, and the laws that follow.
use Rattle.std.proofs.Common.{◌≡◌, ℕ, ◌%◌, ◌+◌, ◌-◌, ◌≤◌, Bool, true, false, nat_eq, nat_le, ◌&&◌, List, [], ◌∷◌, length, find, Option, Some, None, Result, Ok, Err, ◌⊎◌, inl, inr, refl, ap, subst, cond, arith}
use Rattle.std.proofs.lemmas.Bool.Decides.{nat_tests}
use Rattle.byteorder.specs.Endian.{little_bytes}
use Rattle.byteorder.specs.Numbers.{length-bytes_low_first}
use Rattle.ebc_decode.specs.Sizes.{byte_count}
use Rattle.ebc_decode.specs.Spelling.{decoding}
use Rattle.ebc_decode.specs.declared.instr.Instr.{Instr}
use Rattle.ebc_decode.specs.declared.size.Size.{Size}
use Rattle.ebc_decode.specs.declared.size.Size.TheVariants.{Byte, Word, Doubleword, Quadword}
use Rattle.fw_types.specs.declared.event.Cause.{Cause}
use Rattle.guest_memory.specs.GuestMemory.{image_code, answer_in, write_answer, written}
use Rattle.guest_memory.specs.Segment.{has_bytes, is_writable, with_number}
use Rattle.guest_memory.specs.declared.guest.MemRefusal.{MemRefusal}
use Rattle.guest_memory.specs.declared.guest.MemRefusal.TheVariants.{ReadOnly}
use Rattle.guest_memory.specs.declared.segment.Segment.{Segment}
use Rattle.guest_memory.specs.declared.segment.SegKind.{SegKind}
use Rattle.guest_memory.specs.declared.segment.SegKind.TheVariants.{Image, Pool, Firmware, Stack, Table}
use Rattle.ebc_machine.specs.Operands.{above}
use Rattle.ebc_machine.specs.Outcome.{outcome}
use Rattle.ebc_machine.specs.Plan.{Plan}
use Rattle.ebc_machine.specs.Step.{Stepped, trapped, stored, ended, carried_out, plan_of, stepped}
use Rattle.ebc_machine.specs.StepLaws.{is_jump, sets_flags, IsWritten, ChangesOneRange}
use Rattle.ebc_machine.specs.declared.cpu.Cpu.{Cpu}
use Rattle.ebc_machine.specs.declared.cpu.Request.{Request}
use Rattle.ebc_machine.specs.declared.cpu.Request.TheVariants.{Nothing, Native, MakeThunk}
use Rattle.ebc_machine.specs.declared.cpu.StepOut.TheVariants.{Next, Done, Trap, Native as CallNative, MakeThunk as WantThunk}
use Rattle.ebc_machine.specs.declared.cpu.Store.{Store}
use Rattle.ebc_machine.proofs.PlanLemmas.{IsPlanned, plan_is}
use Rattle.guest_memory.specs.declared.address_map.TheConstants.{EXIT}

-- no request ends a step with a trap
outcome-no_trap : (request : Request) (cause : Cause) → outcome request ≡ Trap cause → ⊥
outcome-no_trap Nothing cause e = cc
outcome-no_trap (Native target) cause e = cc
outcome-no_trap (MakeThunk place) cause e = cc

-- ---- how a step ends

same_number : (m n : ℕ) → nat_eq m n ≡ true → m ≡ n
same_number m n e = grind (arith, nat_tests)

abbrev exited : Cpu → List Segment → Stepped
exited cpu segments = record { out = Done; cpu = cpu; segments = segments }

abbrev quiet : List Segment → Plan → Stepped
quiet segments plan = record { out = outcome plan.request; cpu = plan.cpu; segments = segments }

abbrev wrote : List Segment → Plan → Store → Stepped
wrote segments plan store =
    record { out = outcome plan.request; cpu = plan.cpu; segments = written segments store.at (byte_count store.size) store.value }

-- what holds of a step if it holds at the exit address, of a trap, and of an instruction that is done,
-- with no write or with one
module _ (cpu : Cpu) (segments : List Segment) (P : Stepped → Type 0) where
  pub record Ends : Type 1 where
    pub at_exit : cpu.ip ≡ EXIT → P (exited cpu segments)
    pub trap : (cause : Cause) → P (trapped cpu segments cause)
    pub no_write : (plan : Plan) → IsPlanned cpu segments plan → P (quiet segments plan)
    pub write : (plan : Plan) (store : Store) → IsPlanned cpu segments plan → plan.store ≡ Some store → write_answer segments store.at (byte_count store.size) ≡ Ok tt → P (wrote segments plan store)

  stored-ends : Ends → (plan : Plan) (store : Store) (answer : Result Unit MemRefusal) → IsPlanned cpu segments plan → plan.store ≡ Some store → write_answer segments store.at (byte_count store.size) ≡ answer
      → P (stored cpu segments plan store answer)
  stored-ends ends plan store (Ok done) is there answer = ends.write plan store is there answer
  stored-ends ends plan store (Err refusal) is there answer = ends.trap _

  ended-ends : Ends → (plan : Plan) (store : Option Store) → IsPlanned cpu segments plan → plan.store ≡ store → P (ended cpu segments plan store)
  ended-ends ends plan None is there = ends.no_write plan is
  ended-ends ends plan (Some store) is there = stored-ends ends plan store (write_answer segments store.at (byte_count store.size)) is there refl

  carried_out-ends : Ends → (plan : Result Plan Cause) → plan_of cpu segments ≡ plan → P (carried_out cpu segments plan)
  carried_out-ends ends (Ok plan) is = ended-ends ends plan plan.store (plan_is cpu segments plan is) refl
  carried_out-ends ends (Err cause) is = ends.trap cause

  at_exit-ends : Ends → (exit : Bool) → nat_eq cpu.ip EXIT ≡ exit → P (cond exit (exited cpu segments) (carried_out cpu segments (plan_of cpu segments)))
  at_exit-ends ends true at = ends.at_exit (same_number cpu.ip EXIT at)
  at_exit-ends ends false at = carried_out-ends ends (plan_of cpu segments) refl

  pub step-ends : Ends → P (stepped cpu segments)
  step-ends ends = at_exit-ends ends (nat_eq cpu.ip EXIT) refl

-- ---- what a write changes

kind_is : (kind : SegKind) → is_writable kind ≡ true → IsWritten kind
kind_is Image e = inl refl
kind_is Pool e = inr (inl refl)
kind_is Firmware e = absurd cc
kind_is Stack e = inr (inr refl)
kind_is Table e = absurd cc

allowed : (b : Bool) → ◌≡◌ {A = Result Unit MemRefusal} (cond b (Ok tt) (Err ReadOnly)) (Ok tt) → b ≡ true
allowed true e = refl
allowed false e = absurd cc

fits : (base at n len : ℕ) → nat_le base at && nat_le (at + n) (base + len) ≡ true → at - base + n ≤ len
fits base at n len e = grind (arith, nat_tests)

module _ (at n value : ℕ) (few : n ≤ 8) where
  abbrev has : Segment → Bool
  has segment = has_bytes segment at n

  written-at : (segment : Segment) (segments : List Segment) (b : Bool) → has segment ≡ b
      → (answer_in (find has segments) ≡ Ok tt → ChangesOneRange segments (written segments at n value))
      → answer_in (cond b (Some segment) (find has segments)) ≡ Ok tt
      → ChangesOneRange (segment ∷ segments) (cond b (with_number segment at n value ∷ segments) (segment ∷ written segments at n value))
  written-at segment segments true is later answer =
      let len : length (little_bytes n value) ≡ n = length-bytes_low_first 0 n value in
      let room : at - segment.base + n ≤ length segment.bytes = fits segment.base at n (length segment.bytes) is in
      record {
        front = [];
        segment = segment;
        back = segments;
        offset = at - segment.base;
        bytes = little_bytes n value;
        is_there = refl;
        kind = kind_is segment.kind (allowed (is_writable segment.kind) answer);
        few = omega arith;
        within = omega arith;
        changes = refl;
      }
  written-at segment segments false is later answer =
      let rest = later answer in
      record {
        front = segment ∷ rest.front;
        segment = rest.segment;
        back = rest.back;
        offset = rest.offset;
        bytes = rest.bytes;
        is_there = ap (λ (l : List Segment). segment ∷ l) rest.is_there;
        kind = rest.kind;
        few = rest.few;
        within = rest.within;
        changes = ap (λ (l : List Segment). segment ∷ l) rest.changes;
      }

  pub written-range : (segments : List Segment) → answer_in (find has segments) ≡ Ok tt → ChangesOneRange segments (written segments at n value)
  written-range [] answer = absurd cc
  written-range (segment ∷ segments) answer = written-at segment segments (has segment) refl (written-range segments) answer

size_few : (size : Size) → byte_count size ≤ 8
size_few Byte = omega arith
size_few Word = omega arith
size_few Doubleword = omega arith
size_few Quadword = omega arith

-- ---- the laws

module _ (cpu : Cpu) (segments : List Segment) where
  pub trap-keeps : (cause : Cause) → (stepped cpu segments).out ≡ Trap cause → ((stepped cpu segments).cpu ≡ cpu) × ((stepped cpu segments).segments ≡ segments)
  trap-keeps cause = step-ends cpu segments (λ after. after.out ≡ Trap cause → (after.cpu ≡ cpu) × (after.segments ≡ segments)) (record {
    at_exit = λ at e. absurd cc;
    trap = λ other e. (refl, refl);
    no_write = λ plan is e. absurd (outcome-no_trap plan.request cause e);
    write = λ plan store is there answer e. absurd (outcome-no_trap plan.request cause e);
  })

  pub step-range : ((stepped cpu segments).segments ≡ segments) ⊎ ChangesOneRange segments (stepped cpu segments).segments
  step-range = step-ends cpu segments (λ after. (after.segments ≡ segments) ⊎ ChangesOneRange segments after.segments) (record {
    at_exit = λ at. inl refl;
    trap = λ cause. inl refl;
    no_write = λ plan is. inl refl;
    write = λ plan store is there answer. inr (written-range store.at (byte_count store.size) store.value (size_few store.size) segments answer);
  })

  abbrev FlagsBy : Stepped → Type 0
  FlagsBy after = (after.cpu.flags ≡ cpu.flags) ⊎ ((instr : Instr) × (n : ℕ) × (decoding (image_code segments cpu.ip) ≡ Ok (instr, n)) × (sets_flags instr.op ≡ true))

  flags-by : (plan : Plan) → IsPlanned cpu segments plan → (plan.cpu.flags ≡ cpu.flags) ⊎ ((instr : Instr) × (n : ℕ) × (decoding (image_code segments cpu.ip) ≡ Ok (instr, n)) × (sets_flags instr.op ≡ true))
  flags-by plan is = elim is.orderly.flags [ inl sets ↦ inr (is.instr, is.n, is.spelled, sets) | inr same ↦ inl same ]

  pub step-flags : FlagsBy (stepped cpu segments)
  step-flags = step-ends cpu segments FlagsBy (record {
    at_exit = λ at. inl refl;
    trap = λ cause. inl refl;
    no_write = λ plan is. flags-by plan is;
    write = λ plan store is there answer. flags-by plan is;
  })

  -- an instruction with a write asks for nothing more
  quiet-write : (plan : Plan) (store : Store) → IsPlanned cpu segments plan → plan.store ≡ Some store → plan.request ≡ Nothing
  quiet-write plan store is there = elim is.orderly.request [ inl nothing ↦ nothing | inr none ↦ absurd cc ]

  pub native-keeps : (target : ℕ) → (stepped cpu segments).out ≡ CallNative target → (stepped cpu segments).segments ≡ segments
  native-keeps target = step-ends cpu segments (λ after. after.out ≡ CallNative target → after.segments ≡ segments) (record {
    at_exit = λ at e. absurd cc;
    trap = λ cause e. absurd cc;
    no_write = λ plan is e. refl;
    write = λ plan store is there answer e. absurd (let next : outcome plan.request ≡ Next = ap outcome (quiet-write plan store is there) in cc);
  })

  pub thunk-keeps : (place : ℕ) → (stepped cpu segments).out ≡ WantThunk place → (stepped cpu segments).segments ≡ segments
  thunk-keeps place = step-ends cpu segments (λ after. after.out ≡ WantThunk place → after.segments ≡ segments) (record {
    at_exit = λ at e. absurd cc;
    trap = λ cause e. absurd cc;
    no_write = λ plan is e. refl;
    write = λ plan store is there answer e. absurd (let next : outcome plan.request ≡ Next = ap outcome (quiet-write plan store is there) in cc);
  })

  -- an even sum of even numbers
  even-above : (a n : ℕ) → a % 2 ≡ 0 → n % 2 ≡ 0 → above a n % 2 ≡ 0
  even-above a n e f = omega arith

  even-by : ((bytes : List ℕ) (instr : Instr) (n : ℕ) → decoding bytes ≡ Ok (instr, n) → n % 2 ≡ 0) → cpu.ip % 2 ≡ 0 → (plan : Plan) → IsPlanned cpu segments plan → plan.cpu.ip % 2 ≡ 0
  even-by lengths even plan is = elim is.orderly.even [
    | inl next ↦ rw next (even-above cpu.ip is.n even (lengths (image_code segments cpu.ip) is.instr is.n is.spelled))
    | inr even ↦ even
  ]

  pub step-even : ((bytes : List ℕ) (instr : Instr) (n : ℕ) → decoding bytes ≡ Ok (instr, n) → n % 2 ≡ 0) → cpu.ip % 2 ≡ 0 → (stepped cpu segments).cpu.ip % 2 ≡ 0
  step-even lengths even = step-ends cpu segments (λ after. after.cpu.ip % 2 ≡ 0) (record {
    at_exit = λ at. even;
    trap = λ cause. even;
    no_write = λ plan is. even-by lengths even plan is;
    write = λ plan store is there answer. even-by lengths even plan is;
  })

  -- the instruction at IP is the one that is planned
  same-instr : (instr other : Instr) (n m : ℕ) → decoding (image_code segments cpu.ip) ≡ Ok (instr, n) → decoding (image_code segments cpu.ip) ≡ Ok (other, m) → (instr ≡ other) × (n ≡ m)
  same-instr instr other n m a b =
      let e : ◌≡◌ {A = Instr × ℕ} (instr, n) (other, m) = cc in
      (ap (λ (p : Instr × ℕ). p.0) e, ap (λ (p : Instr × ℕ). p.1) e)

  next-by : (instr : Instr) (n : ℕ) → decoding (image_code segments cpu.ip) ≡ Ok (instr, n) → is_jump instr.op ≡ false → (plan : Plan) → IsPlanned cpu segments plan → plan.cpu.ip ≡ above cpu.ip n
  next-by instr n spelled other plan is =
      let same = same-instr instr is.instr n is.n spelled is.spelled in
      let no_jump : is_jump is.instr.op ≡ false = subst (λ (i : Instr). is_jump i.op ≡ false) same.0 other in
      elim is.orderly.ip [ inl jumps ↦ absurd cc | inr next ↦ rw same.1 next ]

  pub step-next : (instr : Instr) (n : ℕ) → (cpu.ip ≡ EXIT → ⊥) → decoding (image_code segments cpu.ip) ≡ Ok (instr, n) → is_jump instr.op ≡ false
      → ((cause : Cause) → (stepped cpu segments).out ≡ Trap cause → ⊥) → (stepped cpu segments).cpu.ip ≡ above cpu.ip n
  step-next instr n no_exit spelled other = step-ends cpu segments (λ after. ((cause : Cause) → after.out ≡ Trap cause → ⊥) → after.cpu.ip ≡ above cpu.ip n) (record {
    at_exit = λ at. absurd (no_exit at);
    trap = λ cause no_trap. absurd (no_trap cause refl);
    no_write = λ plan is no_trap. next-by instr n spelled other plan is;
    write = λ plan store is there answer no_trap. next-by instr n spelled other plan is;
  })
