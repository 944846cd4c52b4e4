use Rattle.std.proofs.Common.{◌≡◌, ◌<◌, ℕ, List, [], ◌∷◌, length, ap, sym, subst, ◌∙◌}
use Rattle.fw_types.specs.declared.limits.TheConstants.{MOST_MARKS}
use Rattle.undo_log.specs.Log.{LogView, marked}
use Rattle.world_model.specs.declared.change.Change.{Change}
use Rattle.world_model.specs.World.{Soft}
use Rattle.soft_log.specs.declared.moment.Moment.{Moment}
use Rattle.soft_log.specs.Keeping.{IsInside, IsMomentOf, MarkedSoft, kept_from, merged}
use Rattle.soft_log.proofs.TakingBack.{are_marked, kept_marked, length-kept_from}
use Rattle.soft_log.proofs.Merged.{length-softs, length-tables}
use Rattle.soft_log.proofs.soft_log.SoftLog.mark.Goals as goal

pub mark-soft-requires : goal.mark-soft-requires
mark-soft-requires c =
    let inside = c.self.inside in
    let count : length c.args.self.now.marks ≡ length inside.log.marks =
    ap (λ (v : MarkedSoft). length v.marks) (sym c.self.view_is) ∙ length-softs inside.records.marks (kept_from [] inside.log.marks inside.soft) c.self.invariant.older ∙ length-kept_from [] inside.log.marks inside.soft in
    subst (λ (n : ℕ). n < MOST_MARKS) count c.requires

pub mark-records-requires : goal.mark-records-requires
mark-records-requires c =
    let inside = c.self.inside in
    let count : length c.args.self.now.marks ≡ length inside.records.marks =
    ap (λ (v : MarkedSoft). length v.marks) (sym c.self.view_is) ∙ length-tables inside.records.marks (kept_from [] inside.log.marks inside.soft) c.self.invariant.older in
    subst (λ (n : ℕ). n < MOST_MARKS) count c.requires

-- what the new mark keeps is the soft part now
newest_kept : (c : goal.After-mark-records) → kept_from [] c.mark-soft.new.self.marks c.self.inside.soft ≡ c.self.inside.soft ∷ kept_from [] c.self.inside.log.marks c.self.inside.soft
newest_kept c =
    let inside = c.self.inside in
    let moment : Moment = record { levels = c.levels-levels.result; next_block = c.next_block-next_block.result } in
    let is : IsMomentOf moment inside.soft = record { levels = c.levels-levels.ensures; next_block = c.next_block-next_block.ensures } in
    let marks_are : c.mark-soft.new.self.marks ≡ marked moment inside.log.marks = ap (λ (log : LogView Change Moment). log.marks) c.mark-soft.ensures.now in
    rw marks_are (kept_marked inside.log.marks moment inside.soft c.is_kept.ensures is)

newest_inside : (c : goal.After-mark-records) → IsInside c.self.inside.soft c.mark-soft.new.self.marks c.mark-records.new.self
newest_inside c =
    let inside = c.self.inside in
    let moment : Moment = record { levels = c.levels-levels.result; next_block = c.next_block-next_block.result } in
    let is : IsMomentOf moment inside.soft = record { levels = c.levels-levels.ensures; next_block = c.next_block-next_block.ensures } in
    let marks_are : c.mark-soft.new.self.marks ≡ marked moment inside.log.marks = ap (λ (log : LogView Change Moment). log.marks) c.mark-soft.ensures.now in
    record {
      part = rw marks_are (are_marked inside.log.marks moment inside.soft c.is_kept.ensures is c.self.invariant.part);
      now = rw c.mark-records.ensures.now c.self.invariant.now;
      older = rw (c.mark-records.ensures.now, newest_kept c) (c.self.invariant.now, c.self.invariant.older);
    }

pub invariant_of-self : goal.invariant_of-self
invariant_of-self c = newest_inside c

pub invariant_of-result : goal.invariant_of-result
invariant_of-result c =
    let inside = c.self.inside in
    let tables : length c.mark-records.new.self.marks ≡ length c.mark-soft.new.self.marks =
    sym (length-tables c.mark-records.new.self.marks (kept_from [] c.mark-soft.new.self.marks inside.soft) (newest_inside c).older)
    ∙ length-softs c.mark-records.new.self.marks (kept_from [] c.mark-soft.new.self.marks inside.soft) (newest_inside c).older ∙ length-kept_from [] c.mark-soft.new.self.marks inside.soft in
    c.mark-records.ensures.mark ∙ tables ∙ sym c.mark-soft.ensures.mark

pub returns-clause-mark : goal.returns-clause-mark
returns-clause-mark c =
    let inside = c.self.inside in
    c.mark-soft.ensures.mark ∙ sym (length-softs c.mark-records.new.self.marks (kept_from [] c.mark-soft.new.self.marks inside.soft) (newest_inside c).older ∙ length-kept_from [] c.mark-soft.new.self.marks inside.soft)

pub returns-clause-now : goal.returns-clause-now
returns-clause-now c =
    let inside = c.self.inside in
    rw (c.mark-records.ensures.now)
    (ap (λ (softs : List Soft). record { now = record inside.soft { records = inside.records.now }; marks = merged (inside.records.now ∷ inside.records.marks) softs }) (newest_kept c)
    ∙ ap (λ (v : MarkedSoft). record v { marks = v.now ∷ v.marks }) c.self.view_is)
