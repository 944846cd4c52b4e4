use Rattle.std.proofs.Common.{◌≡◌, ◌+◌, ◌-◌, ◌<◌, List, ◌∷◌, Some, sym, ap, ◌∙◌, arith, rules, true, false, nat_eq, nat_lt}
use Rattle.std.proofs.lemmas.Bool.Decides.{nat_tests}
use Rattle.fw_types.specs.declared.limits.TheConstants.{CALL_PRICE}
use Rattle.fw_types.specs.declared.status.TheConstants.Status.{SUCCESS}
use Rattle.guest_memory.specs.declared.address_map.TheConstants.{EXIT}
use Rattle.service_model.specs.declared.call.HandleInterface.{HandleInterface}
use Rattle.driver_model.specs.Moves.{changed, pays, plain}
use Rattle.driver_model.specs.BusChildren.{interfaces_to_go, is_child_of}
use Rattle.driver_model.specs.BusDriver.{blocks_freed, bus_stopped, roms_processed}
use Rattle.driver_model.specs.UninstallWithReconnection.{each_uninstalled}
use Rattle.driver_model.specs.declared.request.Remover.TheVariants.{ADriver, TheFirmware}
use Rattle.driver_model.specs.declared.bus_driver.TheConstants.{CHILD_PRICE}
use Rattle.driver_model.specs.Levels.{level_with}
use Rattle.engine.specs.AtLevel.{level_at, level_below}
use Rattle.world_model.specs.BusChildren.{with_bus_list}
use Rattle.world_model.specs.Levels.{has_marks}
use Rattle.world_model.specs.Marks.{stacks}
use Rattle.world_model.specs.World.{State, WorldView, on_soft}
use Rattle.engine.proofs.BusDrivers.{below_none, below_some, images_all, images_next, no_child, one_child, rom_files, rom_none, roms_all, roms_next, stop_other, stop_paid, stop_short, stop_taken, stops_all}
use Rattle.engine.proofs.Loads.{free_after_laying, on_ok, stacks_after_laying, stacks_of_mark}
use Rattle.engine.proofs.Searches.{asked_all, asked_no, asked_yes, visited_all, visited_next}
use Rattle.engine.proofs.Stops.{disconnected_is, turns_all, turns_next}
use Rattle.engine.proofs.Turns.{through, thunk_is, thunk_nests, turn_taken}
use Rattle.engine.proofs.Uninstalls.{absent_first, after_place, all_went, each_all, each_ends, each_next, from_place, kept_first, refused, refused_later, succeeded, uninstalled_first}
use Rattle.engine.proofs.+engine.Goals.{uninstallation::uninstall_first-then-not-is_first_there-via-then-not-is_first_there, uninstallation::uninstall_first-then-not-is_first_there-via-else-not-is_first_there+then-is_kept_from}
use Rattle.engine.proofs.+engine.Goals as goal

-- ---- driver calls

pub driver_call::call_driver-mark-mark-requires : goal.driver_call::call_driver-mark-mark-requires
driver_call::call_driver-mark-mark-requires t c = (c.marks_suffice.ensures.call c.args.room c.args.world.now.now.soft c.args.world.now.marks c.requires.marks).1

-- ---- runs

pub thunk_call::call_thunk-returns-clause-turn : goal.thunk_call::call_thunk-returns-clause-turn
thunk_call::call_thunk-returns-clause-turn t c =
    let enough : nat_lt c.args.world.now.now.hard.units CALL_PRICE ≡ false = grind (arith, nat_tests, c.left.ensures, c.if-left-lt-CALL_PRICE.false) in
    let paying : c.spend.new.self.now ≡ changed (pays CALL_PRICE) c.args.world.now.now = search rules in
    through c.enter_thunk.result _ _ _
    (thunk_is c.args.settings.now c.args.room c.args.scope c.args.entry c.args.cpu.now c.args.world.now.now c.spend.new.self.now (omega (arith, c.if-room-eq0.false)) enough paying)
    c.enter_thunk.ensures.turn

pub guest_run::take_turn-returns-clause-turn : goal.guest_run::take_turn-returns-clause-turn
guest_run::take_turn-returns-clause-turn t c =
    let elsewhere : nat_eq c.args.cpu.now.ip EXIT ≡ false = grind (arith, nat_tests) in
    let some : nat_eq c.args.world.now.now.hard.units 0 ≡ false = grind (arith, nat_tests, c.spend.ensures.enough) in
    let paid : c.spend.new.self.now ≡ changed (pays 1) c.args.world.now.now = rw c.if-not-spend.false at c.spend.ensures.now in
    through c.act.result _ _ _
    (turn_taken c.args.settings.now (level_below c.args.settings.now c.args.room) c.args.scope (level_with c.args.room) c.args.cpu.now c.args.world.now.now c.spend.new.self.now
    c.in_ok-out.out c.take_step.new.cpu c.take_step.new.world.now elsewhere some paid c.in_ok-out.ensures.out c.in_ok-out.ensures.cpu c.in_ok-out.ensures.now)
    c.act.ensures.turn

pub thunk_call::call_thunk-returns-then-room-eq0-clause-turn : goal.thunk_call::call_thunk-returns-then-room-eq0-clause-turn
thunk_call::call_thunk-returns-then-room-eq0-clause-turn t c =
    let enough : nat_lt c.args.world.now.now.hard.units CALL_PRICE ≡ false = grind (arith, nat_tests, c.left.ensures, c.if-left-lt-CALL_PRICE.false) in
    let paying : c.spend.new.self.now ≡ changed (pays CALL_PRICE) c.args.world.now.now = search rules in
    rw c.trapped-then-room-eq0.ensures
    (thunk_nests c.args.settings.now c.args.room c.args.scope c.args.entry c.args.cpu.now c.args.world.now.now c.spend.new.self.now c.if-room-eq0.true enough paying)

-- ---- searches

pub search::ask-returns-then-is_success-clause-now : goal.search::ask-returns-then-is_success-clause-now
search::ask-returns-then-is_success-clause-now t c =
    sym c.loop-block.invariant.rest
    ∙ asked_yes (level_at c.args.settings.now c.args.room) c.args.scope c.args.c.now c.args.blocks.now c.loop-block.block-index c.block-item.result c.loop-block.world.now c.call_driver.new.world.now c.in_ok-outcome.outcome
    c.loop-block-test.true c.block-item.is (rw (← c.driver_call-call.ensures) c.in_ok-outcome.ensures.now) (sym c.is_success.ensures ∙ c.if-is_success.true)

pub search::ask-loop-block-preserved : goal.search::ask-loop-block-preserved
search::ask-loop-block-preserved t c = record {
  rest =
      sym (asked_no (level_at c.args.settings.now c.args.room) c.args.scope c.args.c.now c.args.blocks.now c.loop-block.block-index c.block-item.result c.loop-block.world.now c.call_driver.new.world.now c.in_ok-outcome.outcome
      c.loop-block-test.true c.block-item.is (rw (← c.driver_call-call.ensures) c.in_ok-outcome.ensures.now) (sym c.is_success.ensures ∙ c.if-is_success.false))
      ∙ c.loop-block.invariant.rest;
  marks = c.in_ok-outcome.ensures.marks ∙ c.loop-block.invariant.marks;
  stacks = c.in_ok-outcome.ensures.stacks ∙ c.loop-block.invariant.stacks;
  units = omega (arith, c.in_ok-outcome.ensures.units, c.loop-block.invariant.units);
  events = omega (arith, c.in_ok-outcome.ensures.events, c.loop-block.invariant.events);
}

pub search::ask-returns-clause-now : goal.search::ask-returns-clause-now
search::ask-returns-clause-now t c = sym c.loop-block.invariant.rest ∙ asked_all _ _ _ _ _ _ c.loop-block-test.false

pub search::search-searches-smaller : goal.search::search-searches-smaller
search::search-searches-smaller t c =
    let cheap : c.find.new.world.now.hard.units < c.searches.world.now.hard.units =
    c.searches_go_on.ensures.costs c.args.settings.now c.args.room c.args.scope c.args.c.now c.args.context.now c.searches.marked c.searches.world.now c.find.new.world.now c.in-Some.block c.requires.room
    (rw (← c.in-Some.is) c.in_ok-found.ensures.now) in
    omega (arith, cheap, c.in_ok-outcome.ensures.units)

-- ---- children

pub connection::visit_children-loop-child-preserved : goal.connection::visit_children-loop-child-preserved
connection::visit_children-loop-child-preserved t c = record {
  rest = sym (visited_next _ _ _ _ _ _ _ c.loop-child-test.true c.child-item.is c.in_ok-visit_child.ensures.now) ∙ c.loop-child.invariant.rest;
  marks = c.in_ok-visit_child.ensures.marks ∙ c.loop-child.invariant.marks;
  stacks = c.in_ok-visit_child.ensures.stacks ∙ c.loop-child.invariant.stacks;
  units = omega (arith, c.in_ok-visit_child.ensures.units, c.loop-child.invariant.units);
  events = omega (arith, c.in_ok-visit_child.ensures.events, c.loop-child.invariant.events);
}

pub connection::visit_children-returns-clause-now : goal.connection::visit_children-returns-clause-now
connection::visit_children-returns-clause-now t c = sym c.loop-child.invariant.rest ∙ visited_all _ _ _ _ _ c.loop-child-test.false

-- ---- disconnects

pub disconnection::stop_drivers-loop-agent-preserved : goal.disconnection::stop_drivers-loop-agent-preserved
disconnection::stop_drivers-loop-agent-preserved t c = record {
  rest =
      sym (turns_next _ _ _ _ _ (c.loop-agent.failed, c.loop-agent.stopped.items) (c.note.new.failed, c.note.new.stopped.items) c.in_ok-turn.turn c.loop-agent.world.now c.take_stop_turn.new.world.now
      c.loop-agent-test.true c.in_ok-turn.ensures.now c.in_ok-note.ensures)
      ∙ c.loop-agent.invariant.rest;
  marks = c.in_ok-turn.ensures.marks ∙ c.loop-agent.invariant.marks;
  stacks = c.in_ok-turn.ensures.stacks ∙ c.loop-agent.invariant.stacks;
  units = omega (arith, c.in_ok-turn.ensures.units, c.loop-agent.invariant.units);
  events = omega (arith, c.in_ok-turn.ensures.events, c.loop-agent.invariant.events);
}

pub disconnection::stop_drivers-returns-clause-now : goal.disconnection::stop_drivers-returns-clause-now
disconnection::stop_drivers-returns-clause-now t c =
    through c.conclude.result _ _ _
    (turns_all (level_at c.args.settings.now c.args.room) c.args.scope c.args.d.now c.args.agents.now c.loop-agent.agent-index (c.loop-agent.failed, c.loop-agent.stopped.items) c.args.world.now.now c.loop-agent.world.now
    c.loop-agent-test.false (sym c.loop-agent.invariant.rest))
    (rw (c.deref.ensures.value) at c.conclude.ensures)

pub disconnection::disconnect_in_event-returns-clause-now : goal.disconnection::disconnect_in_event-returns-clause-now
disconnection::disconnect_in_event-returns-clause-now t c =
    through c.stop_drivers.result _ _ _
    (disconnected_is c.args.settings.now c.args.room c.args.scope c.args.d.now c.in-Some.controller (Some c.deref.result.now) c.args.world.now.now (omega (arith, c.if-room-eq0.false))
    (sym c.controller_of.ensures ∙ c.in-Some.is) (rw (c.deref.ensures.value) (rw (c.in-Some-2.is) at c.in_ok-agents.ensures)))
    c.stop_drivers.ensures.now

-- ---- uninstalls

pub uninstallation::uninstall_each-returns-then-ne-clause-now : goal.uninstallation::uninstall_each-returns-then-ne-clause-now
uninstallation::uninstall_each-returns-then-ne-clause-now t c =
    sym c.loop-i.invariant.rest
    ∙ each_ends c.args.settings.now (level_below c.args.settings.now c.args.room) c.args.scope c.args.remover c.args.interfaces.now c.loop-i.i-index c.i-item.result c.loop-i.world.now c.uninstall.new.world.now c.in_ok-status.status
    c.loop-i-test.true c.i-item.is c.in_ok-status.ensures.now
    (refused (nat_eq c.in_ok-status.status.0 SUCCESS.0) c.ne.result c.ne.ensures c.if-ne.true)

pub uninstallation::uninstall_each-loop-i-preserved : goal.uninstallation::uninstall_each-loop-i-preserved
uninstallation::uninstall_each-loop-i-preserved t c = record {
  rest =
      sym (each_next c.args.settings.now (level_below c.args.settings.now c.args.room) c.args.scope c.args.remover c.args.interfaces.now c.loop-i.i-index c.i-item.result c.loop-i.world.now c.uninstall.new.world.now c.in_ok-status.status
      c.loop-i-test.true c.i-item.is c.in_ok-status.ensures.now
      (succeeded (nat_eq c.in_ok-status.status.0 SUCCESS.0) c.ne.result c.ne.ensures c.if-ne.false))
      ∙ c.loop-i.invariant.rest;
  marks = c.in_ok-status.ensures.marks ∙ c.loop-i.invariant.marks;
  stacks = c.in_ok-status.ensures.stacks ∙ c.loop-i.invariant.stacks;
  units = omega (arith, c.in_ok-status.ensures.units, c.loop-i.invariant.units);
  events = omega (arith, c.in_ok-status.ensures.events, c.loop-i.invariant.events);
}

pub uninstallation::uninstall_each-returns-clause-now : goal.uninstallation::uninstall_each-returns-clause-now
uninstallation::uninstall_each-returns-clause-now t c = sym c.loop-i.invariant.rest ∙ each_all _ _ _ _ _ _ _ c.loop-i-test.false

pub uninstallation::uninstall_first-returns-then-not-is_first_there-clause-now : goal.uninstallation::uninstall_first-returns-then-not-is_first_there-clause-now
uninstallation::uninstall_first-returns-then-not-is_first_there-clause-now t c = elim c.then-not-is_first_there.branch [
  | uninstallation::uninstall_first-then-not-is_first_there-via-then-not-is_first_there o ↦
      absent_first c.args.settings.now (level_below c.args.settings.now c.args.room) c.args.scope c.args.interfaces.now c.index-interfaces-0.result c.args.world.now.now c.requires.some c.index-interfaces-0.is
      (sym c.is_first_there.ensures ∙ o.if-not-is_first_there.true)
  | uninstallation::uninstall_first-then-not-is_first_there-via-else-not-is_first_there+then-is_kept_from o ↦
      kept_first c.args.settings.now (level_below c.args.settings.now c.args.room) c.args.scope c.args.interfaces.now c.index-interfaces-0.result c.args.world.now.now c.requires.some c.index-interfaces-0.is
      (sym c.is_first_there.ensures ∙ o.if-not-is_first_there.false)
      (sym o.is_kept_from.ensures ∙ o.if-is_kept_from.true)
]

pub uninstallation::uninstall_first-returns-then-is_refused_early-clause-now : goal.uninstallation::uninstall_first-returns-then-is_refused_early-clause-now
uninstallation::uninstall_first-returns-then-is_refused_early-clause-now t c =
    refused_later c.args.settings.now (level_below c.args.settings.now c.args.room) c.args.scope c.args.interfaces.now c.index-interfaces-0.result c.args.world.now.now c.requires.some c.index-interfaces-0.is
    c.release.new.world.now c.in_ok-status.status
    (sym c.is_first_there.ensures ∙ c.if-not-is_first_there.false) (sym c.is_kept_from.ensures ∙ c.if-is_kept_from.false) c.in_ok-status.ensures.now
    c.late_refusals_change_the_soft_part_alone.ensures c.is_kept.ensures
    (sym c.is_refused_early.ensures ∙ c.if-is_refused_early.true)

pub uninstallation::uninstall_first-returns-clause-now : goal.uninstallation::uninstall_first-returns-clause-now
uninstallation::uninstall_first-returns-clause-now t c =
    uninstalled_first c.args.settings.now (level_below c.args.settings.now c.args.room) c.args.scope c.args.interfaces.now c.index-interfaces-0.result c.args.world.now.now c.requires.some c.index-interfaces-0.is
    c.release.new.world.now c.in_ok-status.status
    (sym c.is_first_there.ensures ∙ c.if-not-is_first_there.false) (sym c.is_kept_from.ensures ∙ c.if-is_kept_from.false) c.in_ok-status.ensures.now
    c.in_ok-last.last c.uninstall_released.new.world.now c.eq.result c.in_ok-last.ensures.now c.eq.ensures

pub uninstallation::uninstall_all-loop-at-preserved : goal.uninstallation::uninstall_all-loop-at-preserved
uninstallation::uninstall_all-loop-at-preserved t c = record {
  rest =
      ap (λ (list : List HandleInterface). each_uninstalled plain c.args.settings.now (level_below c.args.settings.now c.args.room) c.args.scope ADriver list c.uninstall_first.new.world.now)
      (sym (after_place c.loop-at.at c.args.interfaces.now))
      ∙ sym (c.in_ok-uninstall_first.ensures.now.goes_on c.if-not-branch.false)
      ∙ ap (λ (list : List HandleInterface). each_uninstalled plain c.args.settings.now (level_below c.args.settings.now c.args.room) c.args.scope ADriver list c.loop-at.world.now)
      (from_place c.loop-at.at c.args.interfaces.now)
      ∙ c.loop-at.invariant.rest;
  marks = c.in_ok-uninstall_first.ensures.marks ∙ c.loop-at.invariant.marks;
  stacks = c.in_ok-uninstall_first.ensures.stacks ∙ c.loop-at.invariant.stacks;
  units = omega (arith, c.in_ok-uninstall_first.ensures.units, c.loop-at.invariant.units);
  events = omega (arith, c.in_ok-uninstall_first.ensures.events, c.loop-at.invariant.events);
}

pub uninstallation::uninstall_all-returns-clause-now : goal.uninstallation::uninstall_all-returns-clause-now
uninstallation::uninstall_all-returns-clause-now t c =
    all_went (each_uninstalled plain c.args.settings.now (level_below c.args.settings.now c.args.room) c.args.scope ADriver c.args.interfaces.now c.args.world.now.now) c.loop-at.world.now
    (sym c.loop-at.invariant.rest ∙ each_all _ _ _ _ _ _ _ c.loop-at-test.false)

pub uninstallation::uninstall_many-returns-then-is_refused_early-clause-now : goal.uninstallation::uninstall_many-returns-then-is_refused_early-clause-now
uninstallation::uninstall_many-returns-then-is_refused_early-clause-now t c =
    c.early_refusals_change_nothing.ensures c.args.settings.now (level_below c.args.settings.now c.args.room) c.args.scope c.args.interfaces.now c.args.world.now.now c.is_kept.ensures
    (sym c.is_refused_early.ensures ∙ c.if-is_refused_early.true)

pub uninstallation::uninstall_many-mark-mark-requires : goal.uninstallation::uninstall_many-mark-mark-requires
uninstallation::uninstall_many-mark-mark-requires t c = (c.marks_suffice.ensures.spare c.args.room c.args.world.now.now.soft c.args.world.now.marks c.requires.marks).1

-- ---- loads

pub image_load::lay_and_enter-mark-mark-requires : goal.image_load::lay_and_enter-mark-mark-requires
image_load::lay_and_enter-mark-mark-requires t c = (c.marks_suffice.ensures.spare (c.args.room + 1) c.args.world.now.now.soft c.args.world.now.marks c.requires.marks).1

pub image_load::lay_and_enter-call_driver-requires : goal.image_load::lay_and_enter-call_driver-requires
image_load::lay_and_enter-call_driver-requires t c =
    let marking : c.lay_image.new.w.marks ≡ c.args.world.now.now.soft ∷ c.args.world.now.marks = c.in_ok-image.ensures.marks ∙ ap (λ (w : WorldView). w.marks) c.mark-mark.ensures.marked in
    let free = free_after_laying (c.args.room + 1) c.args.world.now c.mark-mark.new.self c.lay_image.new.w c.levels_are_free.ensures.marking c.requires.free c.mark-mark.ensures.marked c.in_ok-image.ensures.marks
    (stacks_after_laying c.args.world.now c.mark-mark.new.self c.lay_image.new.w c.args.view.now c.args.device c.stacks_stand.ensures.adding c.mark-mark.ensures.marked c.in_ok-image.ensures.now) in
    let marks : has_marks 0 (c.args.room + 1) c.lay_image.new.w.marks ≡ true = rw marking (c.marks_suffice.ensures.spare (c.args.room + 1) c.args.world.now.now.soft c.args.world.now.marks c.requires.marks).0 in
    (search rules, (c.requires.room, (free, (marks, omega arith))))

pub image_load::lay_and_enter-settle_load-requires-clause-stacks : goal.image_load::lay_and_enter-settle_load-requires-clause-stacks
image_load::lay_and_enter-settle_load-requires-clause-stacks t c =
    stacks_of_mark c.args.world.now c.mark-mark.new.self c.lay_image.new.w c.call_driver.new.world c.mark-mark.ensures.marked c.in_ok-image.ensures.marks c.in_ok-outcome.ensures.marks
    (c.in_ok-outcome.ensures.stacks
    ∙ stacks_after_laying c.args.world.now c.mark-mark.new.self c.lay_image.new.w c.args.view.now c.args.device c.stacks_stand.ensures.adding c.mark-mark.ensures.marked c.in_ok-image.ensures.now)

pub image_load::lay_and_enter-returns-clause-stacks : goal.image_load::lay_and_enter-returns-clause-stacks
image_load::lay_and_enter-returns-clause-stacks t c =
    on_ok c.settle_load.result
    (λ (settled : stacks c.settle_load.new.world.now.soft ≡ stacks c.call_driver.new.world.now.soft).
    settled ∙ c.in_ok-outcome.ensures.stacks
    ∙ stacks_after_laying c.args.world.now c.mark-mark.new.self c.lay_image.new.w c.args.view.now c.args.device c.stacks_stand.ensures.adding c.mark-mark.ensures.marked c.in_ok-image.ensures.now)
    c.settle_load.ensures.stacks

-- ---- the bus driver

pub bus_driver::process_roms-loop-new_child-preserved : goal.bus_driver::process_roms-loop-new_child-preserved
bus_driver::process_roms-loop-new_child-preserved t c = record {
  rest =
      sym (roms_next (level_at c.args.settings.now c.args.room) c.args.scope c.args.children.now c.loop-new_child.new_child-index c.new_child-item.result c.loop-new_child.world.now c.process_rom.new.world.now
      c.loop-new_child-test.true c.new_child-item.is c.in_ok-process_rom.ensures.now)
      ∙ c.loop-new_child.invariant.rest;
  marks = c.in_ok-process_rom.ensures.marks ∙ c.loop-new_child.invariant.marks;
  stacks = c.in_ok-process_rom.ensures.stacks ∙ c.loop-new_child.invariant.stacks;
  units = omega (arith, c.in_ok-process_rom.ensures.units, c.loop-new_child.invariant.units);
  events = omega (arith, c.in_ok-process_rom.ensures.events, c.loop-new_child.invariant.events);
}

pub bus_driver::process_roms-returns-clause-now : goal.bus_driver::process_roms-returns-clause-now
bus_driver::process_roms-returns-clause-now t c = sym c.loop-new_child.invariant.rest ∙ roms_all _ _ _ _ _ c.loop-new_child-test.false

pub bus_driver::process_below_last-returns-then-room-eq0-clause-now : goal.bus_driver::process_below_last-returns-then-room-eq0-clause-now
bus_driver::process_below_last-returns-then-room-eq0-clause-now t c =
    below_none c.args.settings.now c.args.room c.args.scope c.args.children.now c.args.world.now.now c.if-room-eq0.true

pub bus_driver::process_below_last-returns-clause-now : goal.bus_driver::process_below_last-returns-clause-now
bus_driver::process_below_last-returns-clause-now t c =
    on_ok c.process_roms.result
    (λ (is : roms_processed plain (level_at c.args.settings.now (c.args.room - 1)) c.args.scope c.args.children.now c.args.world.now.now ≡ c.process_roms.new.world.now).
    below_some c.args.settings.now c.args.room c.args.scope c.args.children.now c.args.world.now.now (omega (arith, c.if-room-eq0.false)) ∙ is)
    c.process_roms.ensures.now

pub bus_driver::process_rom-returns-in_default-clause-now : goal.bus_driver::process_rom-returns-in_default-clause-now
bus_driver::process_rom-returns-in_default-clause-now t c =
    rom_none (level_at c.args.settings.now c.args.room) c.args.scope c.args.child.now c.args.world.now.now (sym c.in_ok-files.ensures ∙ c.in_default.is)

pub bus_driver::process_rom-returns-clause-now : goal.bus_driver::process_rom-returns-clause-now
bus_driver::process_rom-returns-clause-now t c =
    on_ok c.set_bus_list.result
    (λ (lists : c.set_bus_list.new.self.now ≡ on_soft (with_bus_list c.args.child.now.function c.in_ok-images.images.items) c.load_drivers.new.world.now).
    rom_files (level_at c.args.settings.now c.args.room) c.args.scope c.args.child.now c.in-Some.files c.args.world.now.now c.load_drivers.new.world.now c.in_ok-images.images.items
    (sym c.in_ok-files.ensures ∙ c.in-Some.is) (rw (c.as_slice.ensures) at c.in_ok-images.ensures.now)
    ∙ sym lists)
    c.set_bus_list.ensures.now

pub bus_driver::load_drivers-loop-file-preserved : goal.bus_driver::load_drivers-loop-file-preserved
bus_driver::load_drivers-loop-file-preserved t c = record {
  rest =
      sym (images_next (level_at c.args.settings.now c.args.room) c.args.scope c.args.device c.args.files.now c.loop-file.file-index c.file-item.result c.loop-file.images.items c.add_loaded.new.images.items
      c.in_ok-load.load.note c.in_ok-load.load.status c.loop-file.world.now c.load_image.new.world.now
      c.loop-file-test.true c.file-item.is (rw (c.as_slice.ensures, c.get.ensures.value) at c.in_ok-load.ensures.now) c.in_ok-add_loaded.ensures)
      ∙ c.loop-file.invariant.rest;
  marks = c.in_ok-load.ensures.marks ∙ c.loop-file.invariant.marks;
  stacks = c.in_ok-load.ensures.stacks ∙ c.loop-file.invariant.stacks;
  units = omega (arith, c.in_ok-load.ensures.units, c.loop-file.invariant.units);
  events = omega (arith, c.in_ok-load.ensures.events, c.loop-file.invariant.events);
}

pub bus_driver::load_drivers-returns-clause-now : goal.bus_driver::load_drivers-returns-clause-now
bus_driver::load_drivers-returns-clause-now t c = sym c.loop-file.invariant.rest ∙ images_all _ _ _ _ _ _ _ c.loop-file-test.false

pub bus_driver::take_child-returns-then-left-lt-CHILD_PRICE-clause-now : goal.bus_driver::take_child-returns-then-left-lt-CHILD_PRICE-clause-now
bus_driver::take_child-returns-then-left-lt-CHILD_PRICE-clause-now t c children =
    let short : nat_lt c.args.world.now.now.hard.units CHILD_PRICE ≡ true = grind (arith, nat_tests, c.left.ensures, c.if-left-lt-CHILD_PRICE.true) in
    stop_short c.args.settings.now (level_below c.args.settings.now c.args.room) c.args.scope c.args.controller c.args.child children c.args.world.now.now short

pub bus_driver::take_child-returns-in_default-clause-now : goal.bus_driver::take_child-returns-in_default-clause-now
bus_driver::take_child-returns-in_default-clause-now t c children =
    let enough : nat_lt c.args.world.now.now.hard.units CHILD_PRICE ≡ false = grind (arith, nat_tests, c.left.ensures, c.if-left-lt-CHILD_PRICE.false) in
    let paying : c.spend.new.self.now ≡ changed (pays CHILD_PRICE) c.args.world.now.now = search rules in
    let paid =
    stop_paid c.args.settings.now (level_below c.args.settings.now c.args.room) c.args.scope c.args.controller c.args.child children c.args.world.now.now c.spend.new.self.now enough paying in
    paid
    ∙ stop_other c.args.settings.now (level_below c.args.settings.now c.args.room) c.args.scope c.args.controller
    (bus_stopped plain c.args.settings.now (level_below c.args.settings.now c.args.room) c.args.scope c.args.controller children) c.args.child c.spend.new.self.now
    (no_child (is_child_of c.args.controller c.args.child c.spend.new.self.now) c.args.child (sym c.child_of_root.ensures ∙ c.in_default.is))

pub bus_driver::take_child-returns-then-not-branch-clause-now : goal.bus_driver::take_child-returns-then-not-branch-clause-now
bus_driver::take_child-returns-then-not-branch-clause-now t c children =
    let enough : nat_lt c.args.world.now.now.hard.units CHILD_PRICE ≡ false = grind (arith, nat_tests, c.left.ensures, c.if-left-lt-CHILD_PRICE.false) in
    let paying : c.spend.new.self.now ≡ changed (pays CHILD_PRICE) c.args.world.now.now = search rules in
    let paid =
    stop_paid c.args.settings.now (level_below c.args.settings.now c.args.room) c.args.scope c.args.controller c.args.child children c.args.world.now.now c.spend.new.self.now enough paying in
    let found = one_child (is_child_of c.args.controller c.args.child c.spend.new.self.now) c.args.child c.in-Some.handle (sym c.child_of_root.ensures ∙ c.in-Some.is) in
    let list : c.in_ok-interfaces.interfaces.items ≡ interfaces_to_go c.args.child c.spend.new.self.now.soft =
    c.in_ok-interfaces.ensures.list ∙ ap (λ n. interfaces_to_go n c.spend.new.self.now.soft) found.1 in
    let takes : each_uninstalled plain c.args.settings.now (level_below c.args.settings.now c.args.room) c.args.scope TheFirmware (interfaces_to_go c.args.child c.spend.new.self.now.soft) c.spend.new.self.now
    ≡ (false, c.uninstall_each.new.world.now) =
    rw (← list, ← c.deref.ensures.value) (c.in_ok-uninstall_each.ensures.now ∙ ap (λ all. (all, c.uninstall_each.new.world.now)) c.if-not-branch.true) in
    paid
    ∙ stop_taken c.args.settings.now (level_below c.args.settings.now c.args.room) c.args.scope c.args.controller
    (bus_stopped plain c.args.settings.now (level_below c.args.settings.now c.args.room) c.args.scope c.args.controller children) c.args.child c.spend.new.self.now c.uninstall_each.new.world.now false found.0 takes

pub bus_driver::take_child-returns-clause-now : goal.bus_driver::take_child-returns-clause-now
bus_driver::take_child-returns-clause-now t c children =
    let enough : nat_lt c.args.world.now.now.hard.units CHILD_PRICE ≡ false = grind (arith, nat_tests, c.left.ensures, c.if-left-lt-CHILD_PRICE.false) in
    let paying : c.spend.new.self.now ≡ changed (pays CHILD_PRICE) c.args.world.now.now = search rules in
    let paid =
    stop_paid c.args.settings.now (level_below c.args.settings.now c.args.room) c.args.scope c.args.controller c.args.child children c.args.world.now.now c.spend.new.self.now enough paying in
    let found = one_child (is_child_of c.args.controller c.args.child c.spend.new.self.now) c.args.child c.in-Some.handle (sym c.child_of_root.ensures ∙ c.in-Some.is) in
    let list : c.in_ok-interfaces.interfaces.items ≡ interfaces_to_go c.args.child c.spend.new.self.now.soft =
    c.in_ok-interfaces.ensures.list ∙ ap (λ n. interfaces_to_go n c.spend.new.self.now.soft) found.1 in
    let takes : each_uninstalled plain c.args.settings.now (level_below c.args.settings.now c.args.room) c.args.scope TheFirmware (interfaces_to_go c.args.child c.spend.new.self.now.soft) c.spend.new.self.now
    ≡ (true, c.uninstall_each.new.world.now) =
    rw (← list, ← c.deref.ensures.value) (c.in_ok-uninstall_each.ensures.now ∙ ap (λ all. (all, c.uninstall_each.new.world.now)) c.if-not-branch.false) in
    let freed : blocks_freed plain (interfaces_to_go c.args.child c.spend.new.self.now.soft) c.uninstall_each.new.world.now ≡ c.free_blocks.new.world.now =
    rw (← list, ← c.deref-2.ensures.value) c.in_ok-free_blocks.ensures.now in
    paid
    ∙ stop_taken c.args.settings.now (level_below c.args.settings.now c.args.room) c.args.scope c.args.controller
    (bus_stopped plain c.args.settings.now (level_below c.args.settings.now c.args.room) c.args.scope c.args.controller children) c.args.child c.spend.new.self.now c.uninstall_each.new.world.now true found.0 takes
    ∙ ap (λ (w : State). bus_stopped plain c.args.settings.now (level_below c.args.settings.now c.args.room) c.args.scope c.args.controller children w) freed

pub bus_driver::stop_bus-returns-clause-now : goal.bus_driver::stop_bus-returns-clause-now
bus_driver::stop_bus-returns-clause-now t c = sym c.loop-child.invariant.rest ∙ stops_all _ _ _ _ _ _ _ c.loop-child-test.false
