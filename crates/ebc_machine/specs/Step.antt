-- One step of EBC's virtual machine: UEFI 2.8, chapter 22 'EFI Byte Code Virtual Machine'.
use Rattle.std.specs.Prelude.{ℕ, nat_eq, List, Option, Some, None, Result, Ok, Err, if◌then◌else◌}
use Rattle.ebc_decode.specs.Spelling.{decoding}
use Rattle.ebc_decode.specs.declared.instr.Instr.{Instr}
use Rattle.ebc_decode.specs.declared.instr.DecodeRefusal.{DecodeRefusal}
use Rattle.ebc_decode.specs.declared.instr.DecodeRefusal.TheVariants.{Short, Illegal as NoInstruction}
use Rattle.fw_types.specs.declared.event.Cause.{Cause}
use Rattle.fw_types.specs.declared.event.Cause.TheVariants.{Illegal, Fetch, Memory}
use Rattle.guest_memory.specs.GuestMemory.{image_code, write_answer, written}
use Rattle.guest_memory.specs.declared.guest.MemRefusal.{MemRefusal}
use Rattle.guest_memory.specs.declared.segment.Segment.{Segment}
use Rattle.ebc_machine.specs.Effects.{plan_of_instr}
use Rattle.ebc_machine.specs.Outcome.{outcome}
use Rattle.ebc_machine.specs.Operands.{above}
use Rattle.ebc_decode.specs.Sizes.{byte_count}
use Rattle.ebc_machine.specs.declared.cpu.Cpu.{Cpu}
use Rattle.ebc_machine.specs.Plan.{Plan}
use Rattle.ebc_machine.specs.declared.cpu.Store.{Store}
use Rattle.ebc_machine.specs.declared.cpu.StepOut.{StepOut}
use Rattle.ebc_machine.specs.declared.cpu.StepOut.TheVariants.{Done, Trap}
use Rattle.guest_memory.specs.declared.address_map.TheConstants.{EXIT}

-- the outcome of a step, with the registers and the memory after it
pub record Stepped : Type 0 where
  pub out : StepOut
  pub cpu : Cpu
  pub segments : List Segment

-- a trap leaves registers and memory as they were
abbrev pub trapped : Cpu → List Segment → Cause → Stepped
trapped cpu segments cause = record { out = Trap cause; cpu = cpu; segments = segments }

-- an instruction ends with its write, which may be refused
abbrev pub stored : Cpu → List Segment → Plan → Store → Result Unit MemRefusal → Stepped
stored cpu segments plan store (Ok done) =
    record { out = outcome plan.request; cpu = plan.cpu; segments = written segments store.at (byte_count store.size) store.value }
stored cpu segments plan store (Err refusal) = trapped cpu segments Memory

abbrev pub ended : Cpu → List Segment → Plan → Option Store → Stepped
ended cpu segments plan None = record { out = outcome plan.request; cpu = plan.cpu; segments = segments }
ended cpu segments plan (Some store) =
    stored cpu segments plan store (write_answer segments store.at (byte_count store.size))

abbrev pub carried_out : Cpu → List Segment → Result Plan Cause → Stepped
carried_out cpu segments (Ok plan) = ended cpu segments plan plan.store
carried_out cpu segments (Err cause) = trapped cpu segments cause

-- the plan of the instruction that the bytes at IP spell
abbrev pub plan_by : Cpu → List Segment → Result (Instr × ℕ) DecodeRefusal → Result Plan Cause
plan_by cpu segments (Ok found) = plan_of_instr cpu segments found.0 (above cpu.ip found.1)
plan_by cpu segments (Err Short) = Err Fetch
plan_by cpu segments (Err NoInstruction) = Err Illegal

abbrev pub plan_of : Cpu → List Segment → Result Plan Cause
plan_of cpu segments = plan_by cpu segments (decoding (image_code segments cpu.ip))

-- a step: nothing at the exit address, otherwise the instruction at IP
abbrev pub stepped : Cpu → List Segment → Stepped
stepped cpu segments =
    if nat_eq cpu.ip EXIT then record { out = Done; cpu = cpu; segments = segments }
    else carried_out cpu segments (plan_of cpu segments)
