use Rattle.std.proofs.Common.{◌≡◌, true, ap, sym, ◌∙◌}
use Rattle.std.specs.Prelude.{is_some}
use Rattle.fw_types.specs.Attr.{is_legal}
use Rattle.handle_db.specs.Database.{interface_of, is_live}
use Rattle.open_records.specs.OpenRecords.{records_of}
use Rattle.open_records.specs.Verdicts.{judge, may_enter}
use Rattle.world_model.specs.Records.{is_none_or_live}
use Rattle.soft_log.specs.Keeping.{MarkedSoft}
use Rattle.soft_log.proofs.Merged.{entered_inside}
use Rattle.soft_log.proofs.soft_log.SoftLog.enter.Goals as goal

pub invariant_of-self : goal.invariant_of-self
invariant_of-self c =
    let inside = c.self.inside in
    let handle = c.args.handle in
    let guid = c.args.guid in
    let agent = c.args.agent in
    let controller = c.args.controller in
    let attr = c.args.attr in
    let there : is_some (interface_of handle guid inside.soft.database) ≡ true = ap (λ (v : MarkedSoft). is_some (interface_of handle guid v.now.database)) c.self.view_is ∙ c.requires.there in
    let live : is_live agent inside.soft.database ≡ true = ap (λ (v : MarkedSoft). is_live agent v.now.database) c.self.view_is ∙ c.requires.agent in
    let none : is_none_or_live controller inside.soft.database ≡ true = ap (λ (v : MarkedSoft). is_none_or_live controller v.now.database) c.self.view_is ∙ c.requires.controller in
    let enters : may_enter (judge (records_of inside.records.now.entries handle guid) agent controller attr) ≡ true =
    ap (λ (v : MarkedSoft). may_enter (judge (records_of v.now.records.entries handle guid) agent controller attr)) c.self.view_is ∙ c.requires.verdict in
    let legal : is_legal attr ≡ true = ap is_legal (sym c.bits.ensures.value) ∙ c.bits.ensures.legal in
    entered_inside c.enter.result inside.soft inside.log.marks inside.records c.enter.new.self handle guid agent controller attr c.is_kept.ensures c.self.invariant there live none enters legal c.enter.ensures.answer c.enter.ensures.now c.enter.ensures.marks c.enter.ensures.err
