-- No row so far is the instruction's, so the first that is, is among the rest.
use Rattle.std.proofs.Common.{◌≡◌, drop, find, map}
use Rattle.ebc_names.specs.Names.{goes_by, row_name}
use Rattle.ebc_names.proofs.names.first_by_instr.Given as goal

abbrev pub invariant-loop-row : goal.invariant-loop-row
invariant-loop-row l = find (goes_by l.instr) (map row_name l.rows) ≡ find (goes_by l.instr) (map row_name (drop l.row-index l.rows))
