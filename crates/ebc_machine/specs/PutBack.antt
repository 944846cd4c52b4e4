-- The registers that an instruction has changed before its write, put back.
use Rattle.std.specs.Prelude.{ℕ, slice_set}
use Rattle.ebc_machine.specs.declared.cpu.Cpu.{Cpu}

-- registers with IP and R0 as they were
abbrev pub put_back : Cpu → ℕ → ℕ → Cpu
put_back cpu ip top = record { r = slice_set cpu.r 0 top; flags = cpu.flags; ip = ip }
