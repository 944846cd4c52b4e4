use Rattle.std.proofs.Common.{◌≡◌, ◌++◌, take}
use Rattle.std.specs.Prelude.{flat_map}
use Rattle.bind_engine.specs.Dump.{handle_lines}
use Rattle.bind_engine.proofs.dump.add_handles.Given as goal

-- the lines of the handles so far come after the earlier lines
abbrev pub invariant-loop-handle : goal.invariant-loop-handle
invariant-loop-handle l = l.lines.items ≡ l.fn.lines.items ++ flat_map (handle_lines l.world.now.soft) (take l.handle-index l.handles)
