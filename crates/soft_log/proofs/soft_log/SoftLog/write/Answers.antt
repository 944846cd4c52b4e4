use Rattle.std.proofs.Common.{◌≡◌, List, take, ap, ◌∙◌}
use Rattle.std.specs.Prelude.{Ok}
use Rattle.guest_memory.specs.declared.segment.Segment.{Segment}
use Rattle.guest_memory.specs.GuestMemory.{bytes_of, write_answer, written}
use Rattle.world_model.specs.declared.change.Change.{Change}
use Rattle.world_model.specs.declared.change.Change.TheVariants.{Write}
use Rattle.world_model.specs.World.{Soft, with_memory}
use Rattle.world_model.specs.UndoLaws.{IsNoted}
use Rattle.world_model.proofs.UndoNoted.{write_is_noted}
use Rattle.soft_log.specs.Keeping.{MarkedSoft, merged}
use Rattle.soft_log.proofs.Merged.{noted_here}
use Rattle.soft_log.proofs.Noting.{kept_noted, readable_written}
use Rattle.soft_log.proofs.soft_log.SoftLog.write.Goals as goal

pub invariant_of-self-2 : goal.invariant_of-self-2
invariant_of-self-2 c =
    let inside = c.self.inside in
    let change : Change = Write c.args.at c.args.n c.word-before.result in
    let done : write_answer inside.soft.memory c.args.at c.args.n ≡ Ok tt = c.in_ok-write.ensures.answer in
    let after : c.write.new.self ≡ with_memory (written inside.soft.memory c.args.at c.args.n c.args.value) inside.soft =
    c.in_ok-write.ensures.rest ∙ ap (λ (memory : List Segment). with_memory memory inside.soft) c.in_ok-write.ensures.bytes in
    let before : take c.args.n c.word-before.result ≡ bytes_of inside.soft.memory c.args.at c.args.n = c.word-before.ensures (readable_written inside.soft.memory c.args.at c.args.n done) in
    let is : IsNoted change inside.soft c.write.new.self = rw after (write_is_noted inside.soft c.args.at c.args.n c.args.value c.word-before.result c.is_kept.ensures done before) in
    rw (c.note.ensures, c.reserve.ensures.marks) (noted_here inside.log.marks change inside.soft c.write.new.self inside.records c.is_kept.ensures c.is_kept-2.ensures is (ap (λ (s : Soft). s.database) after) c.self.invariant)

pub returns-clause-marks : goal.returns-clause-marks
returns-clause-marks c =
    let inside = c.self.inside in
    let change : Change = Write c.args.at c.args.n c.word-before.result in
    let done : write_answer inside.soft.memory c.args.at c.args.n ≡ Ok tt = c.in_ok-write.ensures.answer in
    let after : c.write.new.self ≡ with_memory (written inside.soft.memory c.args.at c.args.n c.args.value) inside.soft =
    c.in_ok-write.ensures.rest ∙ ap (λ (memory : List Segment). with_memory memory inside.soft) c.in_ok-write.ensures.bytes in
    let before : take c.args.n c.word-before.result ≡ bytes_of inside.soft.memory c.args.at c.args.n = c.word-before.ensures (readable_written inside.soft.memory c.args.at c.args.n done) in
    let is : IsNoted change inside.soft c.write.new.self = rw after (write_is_noted inside.soft c.args.at c.args.n c.args.value c.word-before.result c.is_kept.ensures done before) in
    rw (c.note.ensures, c.reserve.ensures.marks) (ap (merged inside.records.marks) (kept_noted inside.log.marks change inside.soft c.write.new.self c.is_kept.ensures c.is_kept-2.ensures is))
    ∙ ap (λ (v : MarkedSoft). v.marks) c.self.view_is
