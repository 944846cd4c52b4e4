use Rattle.std.proofs.Common.{◌≡◌, ℕ, true, false, List, sym, ap, subst, ◌∙◌}
use Rattle.std.specs.Prelude.{Ok, Result, is_some}
use Rattle.fw_types.specs.declared.status.Status.{Status}
use Rattle.world_model.specs.World.{State, on_soft}
use Rattle.world_model.specs.Boards.{root_bus}
use Rattle.driver_model.specs.Moves.{changed, opens_root}
use Rattle.driver_model.specs.BusChildren.{is_root_full, is_root_record_full, root_entered}
use Rattle.driver_model.specs.BusLaws.{CanBeOpened}
use Rattle.driver_model.specs.BusSupport.{chosen, functions_chosen}
use Rattle.bind_parts.proofs.BusStarts.{IsChosen, each_ok, is_chosen, some_path, some_root, started_full, started_made}
use Rattle.bind_parts.proofs.bus_start.open_and_make.Goals as goal

pub bus_start-requires-clause-root : goal.bus_start-requires-clause-root
bus_start-requires-clause-root c = some_root c.args.root c.args.path c.args.world.now.now (is_chosen c.args.root c.args.path c.args.world.now.now c.requires)

pub bus_start-requires-clause-path : goal.bus_start-requires-clause-path
bus_start-requires-clause-path c = some_path c.args.root c.args.path c.args.world.now.now (is_chosen c.args.root c.args.path c.args.world.now.now c.requires)

pub returns-then-is_root_record_full-clause-start : goal.returns-then-is_root_record_full-clause-start
returns-then-is_root_record_full-clause-start c =
    let is : IsChosen c.args.root c.args.path c.args.world.now.now = is_chosen c.args.root c.args.path c.args.world.now.now c.requires in
    let full : is_root_full c.args.root c.args.world.now.now.soft ≡ true =
    ap (λ (attr : ℕ). is_root_record_full c.args.root c.args.root attr c.args.world.now.now.soft) (sym c.by_driver.ensures) ∙ sym c.is_root_record_full.ensures ∙ c.if-is_root_record_full.true in
    λ below scope. started_full below scope c.args.root c.args.path c.args.world.now.now (chosen is.choice is.bus c.args.world.now.now.hard.board.lines) is.numbers full

pub open_root-requires-clause-can : goal.open_root-requires-clause-can
open_root-requires-clause-can c =
    let is : IsChosen c.args.root c.args.path c.args.world.now.now = is_chosen c.args.root c.args.path c.args.world.now.now c.requires in
    subst (λ (attr : ℕ). CanBeOpened c.args.root c.args.root attr c.args.world.now.now.soft) (sym c.by_driver-2.ensures)
    (c.roots_can_be_opened.ensures.open c.args.root c.args.world.now.now c.is_kept.ensures
    (c.roots_can_be_opened.ensures.supported c.args.root c.args.path c.args.world.now.now _ is.numbers))

pub make_children-requires : goal.make_children-requires
make_children-requires c =
    subst (λ (v : State). is_some (root_bus c.args.root v) ≡ true) (sym c.in_ok-open_root.ensures.now)
    (some_root c.args.root c.args.path c.args.world.now.now (is_chosen c.args.root c.args.path c.args.world.now.now c.requires))

pub returns-clause-start : goal.returns-clause-start
returns-clause-start c =
    let is : IsChosen c.args.root c.args.path c.args.world.now.now = is_chosen c.args.root c.args.path c.args.world.now.now c.requires in
    let room : is_root_full c.args.root c.args.world.now.now.soft ≡ false =
    ap (λ (attr : ℕ). is_root_record_full c.args.root c.args.root attr c.args.world.now.now.soft) (sym c.by_driver.ensures) ∙ sym c.is_root_record_full.ensures ∙ c.if-is_root_record_full.false in
    let these : c.as_slice.result.now ≡ chosen is.choice is.bus c.args.world.now.now.hard.board.lines =
    c.as_slice.ensures.value ∙ c.in_ok-numbers.ensures is.bus is.choice is.root is.path_is in
    let numbers : functions_chosen c.args.root c.args.path c.args.world.now.now ≡ Ok c.as_slice.result.now =
    is.numbers ∙ ap (λ (numbers : List ℕ). let r : Result (List ℕ) Status = Ok numbers in r) (sym these) in
    let opens : c.open_root.new.world.now ≡ changed (opens_root c.args.root) c.args.world.now.now =
    c.in_ok-open_root.ensures.now ∙ ap (λ (attr : ℕ). on_soft (root_entered c.args.root c.args.root attr) c.args.world.now.now) c.by_driver-2.ensures in
    λ below scope. each_ok c.make_children.result _ _
    (λ children makes. started_made below scope c.args.root c.args.path c.args.world.now.now c.as_slice.result.now children c.open_root.new.world.now c.make_children.new.world.now numbers room opens makes)
    c.make_children.ensures.now
