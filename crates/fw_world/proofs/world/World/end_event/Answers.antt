use Rattle.std.proofs.Common.{◌≡◌, ◌<◌, ℕ, ◌+◌, ◌-◌, List, length, map, set, ap, sym, ◌∙◌, arith}
use Rattle.fw_types.specs.declared.event.Event.{Event}
use Rattle.world_model.specs.World.{WorldView, on_hard}
use Rattle.world_model.specs.Boards.{roms_in}
use Rattle.world_model.specs.Events.{event_ended, with_result}
use Rattle.fw_world.proofs.Numbers.{ended_at, numbered-ended}
use Rattle.fw_world.proofs.world.World.end_event.Goals as goal

-- the events after the event has ended
ended : (c : goal.After-self-1) → set c.self.inside.events.items (c.args.serial - 1) (record c.index_mut-event.result.now { result = c.args.outcome }) ≡ map (with_result c.args.serial c.args.outcome) c.self.inside.events.items
ended c =
    let events = c.self.inside.events.items in
    let event = c.index_mut-event.result.now in
    let place = c.args.serial - 1 in
    let count : length c.args.self.now.now.hard.events ≡ length events = sym (ap (λ (w : WorldView). length w.now.hard.events) c.self.view_is) in
    let within : place < length events = omega (arith, c.requires.from, c.requires.to) in
    let number : 1 + place ≡ c.args.serial = omega (arith, c.requires.from) in
    ap (λ (e : Event). set events place (record e { result = c.args.outcome })) c.index_mut-event.ensures.value
    ∙ ended_at 1 place c.args.outcome events event c.self.invariant within
    ∙ ap (λ (n : ℕ). map (with_result n c.args.outcome) events) number

pub invariant_of-self : goal.invariant_of-self
invariant_of-self c = rw (ended c) (numbered-ended 1 c.args.serial c.args.outcome c.self.inside.events.items ∙ c.self.invariant)

pub returns-clause-now : goal.returns-clause-now
returns-clause-now c =
    ap (λ (events : List Event). record { soft = c.self.inside.soft.now; hard = record { units = c.self.inside.units; events = events; board = c.self.inside.board; roms = roms_in c.self.inside.roms.items } }) (ended c)
    ∙ ap (λ (w : WorldView). on_hard (event_ended c.args.serial c.args.outcome) w.now) c.self.view_is
