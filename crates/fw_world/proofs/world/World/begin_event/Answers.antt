use Rattle.std.proofs.Common.{◌≡◌, ◌+◌, length, ◌∙◌, arith}
use Rattle.fw_types.specs.declared.event.Event.{Event}
use Rattle.world_model.specs.Events.{pending_outcome}
use Rattle.fw_world.proofs.Numbers.{numbered-push}
use Rattle.fw_world.proofs.world.World.begin_event.Goals as goal

pub invariant_of-self-2 : goal.invariant_of-self-2
invariant_of-self-2 c =
    let events = c.self.inside.events in
    let new : Event = record { serial = c.len.result + 1; parent = c.args.parent; kind = c.args.kind; driver = c.args.driver; controller = c.args.controller; extra = c.args.extra; result = pending_outcome } in
    let count : c.len.result ≡ length events.items = c.len.ensures ∙ events.ok.0 in
    rw c.in_ok-push.ensures.items (numbered-push 1 events.items new c.self.invariant (omega arith))
