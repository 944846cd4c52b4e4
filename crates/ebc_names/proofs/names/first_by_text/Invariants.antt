-- No row so far has the text, so the first that has it is among the rest.
use Rattle.std.proofs.Common.{◌≡◌, bytes_eq, drop, find, map}
use Rattle.ebc_names.specs.Names.{row_name}
use Rattle.ebc_names.proofs.names.first_by_text.Given as goal

abbrev pub invariant-loop-row : goal.invariant-loop-row
invariant-loop-row l = find (λ name. bytes_eq name.text l.text) (map row_name l.rows) ≡ find (λ name. bytes_eq name.text l.text) (map row_name (drop l.row-index l.rows))
