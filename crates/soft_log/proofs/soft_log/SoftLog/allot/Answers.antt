use Rattle.std.proofs.Common.{◌≡◌, ℕ, List, length, ap, sym, ◌∙◌}
use Rattle.world_model.specs.declared.change.Change.{Change}
use Rattle.world_model.specs.declared.change.Change.TheVariants.{Allot}
use Rattle.world_model.specs.Blocks.{is_block_full}
use Rattle.world_model.specs.UndoLaws.{IsNoted}
use Rattle.world_model.specs.World.{Soft}
use Rattle.world_model.proofs.UndoNoted.{allot_is_noted}
use Rattle.soft_log.specs.Keeping.{MarkedSoft, merged}
use Rattle.soft_log.proofs.Merged.{noted_here}
use Rattle.soft_log.proofs.Noting.{kept_noted, made_at}
use Rattle.soft_log.proofs.soft_log.SoftLog.allot.Goals as goal

pub invariant_of-self-2 : goal.invariant_of-self-2
invariant_of-self-2 c =
    let inside = c.self.inside in
    let change : Change = Allot c.in_ok-at.at in
    let bytes : List ℕ = c.args.bytes.items in
    let at : c.in_ok-at.at ≡ inside.soft.next_block = sym (made_at (is_block_full (length bytes) inside.soft) inside.soft.next_block c.in_ok-at.at c.in_ok-at.ensures.answer) in
    let is : IsNoted change inside.soft c.allot.new.self = rw (at, c.in_ok-at.ensures.ok) (allot_is_noted inside.soft bytes c.args.kind c.is_kept.ensures c.requires) in
    rw (c.note.ensures, c.reserve.ensures.marks) (noted_here inside.log.marks change inside.soft c.allot.new.self inside.records c.is_kept.ensures c.is_kept-2.ensures is (ap (λ (s : Soft). s.database) c.in_ok-at.ensures.ok) c.self.invariant)

pub returns-clause-marks : goal.returns-clause-marks
returns-clause-marks c =
    let inside = c.self.inside in
    let change : Change = Allot c.in_ok-at.at in
    let bytes : List ℕ = c.args.bytes.items in
    let at : c.in_ok-at.at ≡ inside.soft.next_block = sym (made_at (is_block_full (length bytes) inside.soft) inside.soft.next_block c.in_ok-at.at c.in_ok-at.ensures.answer) in
    let is : IsNoted change inside.soft c.allot.new.self = rw (at, c.in_ok-at.ensures.ok) (allot_is_noted inside.soft bytes c.args.kind c.is_kept.ensures c.requires) in
    rw (c.note.ensures, c.reserve.ensures.marks) (ap (merged inside.records.marks) (kept_noted inside.log.marks change inside.soft c.allot.new.self c.is_kept.ensures c.is_kept-2.ensures is))
    ∙ ap (λ (v : MarkedSoft). v.marks) c.self.view_is
