use Rattle.std.proofs.Common.{◌≡◌, ℕ, true, List, length, replicate, ap, sym, subst, ◌∙◌}
use Rattle.std.proofs.lemmas.List.{length-replicate}
use Rattle.guest_memory.specs.GuestMemory.{bytes_of, is_writable_range, put_bytes}
use Rattle.world_model.specs.declared.change.Change.{Change}
use Rattle.world_model.specs.declared.change.Change.TheVariants.{Put}
use Rattle.world_model.specs.World.{Soft, with_memory}
use Rattle.world_model.specs.UndoLaws.{IsNoted}
use Rattle.world_model.proofs.UndoNoted.{put_is_noted}
use Rattle.soft_log.specs.Keeping.{MarkedSoft, merged}
use Rattle.soft_log.proofs.Merged.{noted_here}
use Rattle.soft_log.proofs.Noting.{kept_noted}
use Rattle.soft_log.proofs.soft_log.SoftLog.fill.Goals as goal

pub invariant_of-self-2 : goal.invariant_of-self-2
invariant_of-self-2 c =
    let inside = c.self.inside in
    let change : Change = Put c.args.at c.in_ok-before.before in
    let bytes : List ℕ = replicate c.args.n c.args.byte in
    let size : length bytes ≡ c.args.n = length-replicate c.args.n c.args.byte in
    let can : is_writable_range inside.soft.memory c.args.at (length bytes) ≡ true = ap (is_writable_range inside.soft.memory c.args.at) size ∙ ap (λ (v : MarkedSoft). is_writable_range v.now.memory c.args.at c.args.n) c.self.view_is ∙ c.requires in
    let same : bytes_of inside.soft.memory c.args.at (length bytes) ≡ c.in_ok-before.before = ap (bytes_of inside.soft.memory c.args.at) size ∙ sym c.in_ok-before.ensures in
    let base = put_is_noted inside.soft c.args.at bytes c.is_kept.ensures can in
    let is : IsNoted change inside.soft c.fill.new.self = rw c.fill.ensures (subst (λ (before : List ℕ). IsNoted (Put c.args.at before) inside.soft (with_memory (put_bytes inside.soft.memory c.args.at bytes) inside.soft)) same base) in
    rw (c.note.ensures, c.reserve.ensures.marks) (noted_here inside.log.marks change inside.soft c.fill.new.self inside.records c.is_kept.ensures c.is_kept-2.ensures is (ap (λ (s : Soft). s.database) c.fill.ensures) c.self.invariant)

pub returns-clause-marks : goal.returns-clause-marks
returns-clause-marks c =
    let inside = c.self.inside in
    let change : Change = Put c.args.at c.in_ok-before.before in
    let bytes : List ℕ = replicate c.args.n c.args.byte in
    let size : length bytes ≡ c.args.n = length-replicate c.args.n c.args.byte in
    let can : is_writable_range inside.soft.memory c.args.at (length bytes) ≡ true = ap (is_writable_range inside.soft.memory c.args.at) size ∙ ap (λ (v : MarkedSoft). is_writable_range v.now.memory c.args.at c.args.n) c.self.view_is ∙ c.requires in
    let same : bytes_of inside.soft.memory c.args.at (length bytes) ≡ c.in_ok-before.before = ap (bytes_of inside.soft.memory c.args.at) size ∙ sym c.in_ok-before.ensures in
    let base = put_is_noted inside.soft c.args.at bytes c.is_kept.ensures can in
    let is : IsNoted change inside.soft c.fill.new.self = rw c.fill.ensures (subst (λ (before : List ℕ). IsNoted (Put c.args.at before) inside.soft (with_memory (put_bytes inside.soft.memory c.args.at bytes) inside.soft)) same base) in
    rw (c.note.ensures, c.reserve.ensures.marks) (ap (merged inside.records.marks) (kept_noted inside.log.marks change inside.soft c.fill.new.self c.is_kept.ensures c.is_kept-2.ensures is))
    ∙ ap (λ (v : MarkedSoft). v.marks) c.self.view_is
