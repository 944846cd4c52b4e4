use Rattle.std.proofs.Common.{◌≡◌, ◌++◌, take, refl, inl, le_refl}
use Rattle.fw_shelf.proofs.mem_sink.MemSinkSink.write.Goals as goal

-- the bytes grew by what the write took
pub returns-clause-becomes : goal.returns-clause-becomes
returns-clause-becomes c =
    let bytes = c.self.inside.bytes.items in
    let share = take c.min-share.result c.args.piece.now in
    let grown : c.extend_from_slice.new.self.items ≡ bytes ++ share = rw c.unwrap.ensures at c.extend_from_slice.ensures.items in
    rw (← c.self.view_is) (record { bytes = (share, grown); room = refl; step = refl; failing_writes = refl; not_fallen = le_refl _; faults = λ _. inl refl })
