use Rattle.std.proofs.Common.{◌-◌, ◌≤◌, vec_len}
use Rattle.std.specs.Io.KnownBytes.{Consumes}
use Rattle.fw_shelf.specs.declared.dir_shelf.TheConstants.{TOO_MANY}
use Rattle.fw_shelf.proofs.dir_shelf.read_bytes.Given as goal

-- the bytes are what the reader had, without what it has left
abbrev pub invariant-chunks : goal.invariant-chunks
invariant-chunks g l = record {
  within : vec_len l.bytes ≤ TOO_MANY;
  read : Consumes (g.F.Read.remaining l.initial.file) (g.F.Read.remaining l.file) l.bytes.items;
}

abbrev pub decreases-chunks : goal.decreases-chunks
decreases-chunks g l = TOO_MANY - vec_len l.bytes
