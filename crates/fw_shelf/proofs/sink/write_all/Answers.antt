use Rattle.std.proofs.Common.{◌-◌, take, drop, length, length-take, length-drop, arith, ap, ◌∙◌}
use Rattle.fw_shelf.specs.Sink.{with_bytes, with_bytes-again}
use Rattle.fw_shelf.proofs.PrefixLemmas.{take-append-take}
use Rattle.fw_shelf.proofs.sink.write_all.Goals as goal

-- what was taken before and in this write is a longer prefix
pub loop-done-preserved : goal.loop-done-preserved
loop-done-preserved g c =
    let piece = c.args.piece.now in
    let done = c.loop-done.done in
    let count = c.in_ok-count.count in
    let wrote = c.in_ok-count.ensures in
    let before = c.loop-done.invariant in
    let share = take count (take (length piece - done) (drop done piece)) in
    record {
      within = omega (arith, wrote.within, length-take (length piece - done) (drop done piece), length-drop done piece);
      taken = wrote.taken ∙ ap (λ taken. with_bytes taken share) before.taken ∙ with_bytes-again _ _ _ ∙ ap (with_bytes (g.K.Sink.taken c.args.sink.now)) (take-append-take piece done count);
      becomes = g.met.K.Sink.becomes_again c.args.sink.now c.loop-done.sink c.write.new.self before.becomes wrote.becomes;
      faults = omega (arith, wrote.faults);
      empty = λ none. absurd (omega (arith, none));
    }
