-- No label so far has the name and an earlier line.
use Rattle.std.proofs.Common.{◌≡◌, Some, drop, map}
use Rattle.ebc_asm.specs.Assembly.{is_repeated, label_view}
use Rattle.ebc_asm.proofs.labels.is_before.Given as goal

abbrev pub invariant-loop-label : goal.invariant-loop-label
invariant-loop-label l = is_repeated (map label_view l.labels) l.line (Some l.name) ≡ is_repeated (map label_view (drop l.label-index l.labels)) l.line (Some l.name)
