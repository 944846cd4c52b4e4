use Rattle.std.proofs.Common.{sym, ◌∙◌}
use Rattle.bind_parts.proofs.Removable.{clears, is_gone}
use Rattle.bind_parts.proofs.uninstalling.handle_to_clear.Goals as goal

pub returns-then-is_still_there-clause-lasting : goal.returns-then-is_still_there-clause-lasting
returns-then-is_still_there-clause-lasting c =
    is_gone c.images_do_not_last.ensures c.args.remover c.args.i.now c.args.world.now.now.soft c.is_kept.ensures c.requires (sym c.is_still_there.ensures ∙ c.if-is_still_there.true)

pub returns-then-is_still_there-clause-answer : goal.returns-then-is_still_there-clause-answer
returns-then-is_still_there-clause-answer c =
    clears c.args.remover c.args.i.now.handle c.args.i.now.guid c.args.i.now.interface c.args.world.now.now.soft (sym c.is_still_there.ensures ∙ c.if-is_still_there.true)
