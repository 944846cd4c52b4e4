use Rattle.std.proofs.Common.{◌≡◌, ◌++◌, ◌∷◌, take, string_bytes}
use Rattle.std.specs.List.{flat_map}
use Rattle.std.specs.Fmt.{decimal}
use Rattle.report_text.proofs.lines.write_handles.Given as goal

-- the handles so far were written
abbrev pub invariant-loop-handle : goal.invariant-loop-handle
invariant-loop-handle l = string_bytes l.out ≡ string_bytes l.initial.out ++ flat_map (λ handle. 32 ∷ decimal handle) (take l.handle-index l.handles)
