-- No label so far has the name.
use Rattle.std.proofs.Common.{◌≡◌, drop, map}
use Rattle.ebc_asm.specs.Assembly.{label_by, label_view}
use Rattle.ebc_asm.proofs.labels.place_in.Given as goal

abbrev pub invariant-loop-label : goal.invariant-loop-label
invariant-loop-label l = label_by (map label_view l.labels) l.name ≡ label_by (map label_view (drop l.label-index l.labels)) l.name
