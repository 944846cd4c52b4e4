use Rattle.std.proofs.Common.{◌≡◌, ap, ◌∙◌, false}
use Rattle.world_model.specs.World.{Soft}
use Rattle.world_model.specs.Stacks.{has_stack}
use Rattle.world_model.proofs.KeepingStacks.{fitting, fitting_list, pushing}
use Rattle.soft_part.specs.Soft.{soft_of}
use Rattle.soft_part.proofs.soft_part.SoftPart.push_stack.Goals as goal

pub map_level-requires-clause-stack : goal.map_level-requires-clause-stack
map_level-requires-clause-stack c =
    let inside = c.self.inside in
    let soft : Soft = soft_of inside.memory inside.database inside.plain in
    let none : has_stack c.args.level inside.memory ≡ false = ap (λ (s : Soft). has_stack c.args.level s.memory) c.self.view_is ∙ c.requires.none in
    rw c.in_ok-stack.ensures (fitting soft c.args.level c.args.slots.now c.self.invariant c.requires.from c.requires.to c.told-slots none)

pub map_level-requires-clause-list : goal.map_level-requires-clause-list
map_level-requires-clause-list c =
    let inside = c.self.inside in
    let soft : Soft = soft_of inside.memory inside.database inside.plain in
    let none : has_stack c.args.level inside.memory ≡ false = ap (λ (s : Soft). has_stack c.args.level s.memory) c.self.view_is ∙ c.requires.none in
    rw c.in_ok-stack.ensures (fitting_list soft c.args.level c.args.slots.now c.args.list.now c.self.invariant c.requires.from c.requires.to c.told-slots none c.requires.few)

pub invariant_of-self-2 : goal.invariant_of-self-2
invariant_of-self-2 c =
    let inside = c.self.inside in
    let soft : Soft = soft_of inside.memory inside.database inside.plain in
    let none : has_stack c.args.level inside.memory ≡ false = ap (λ (s : Soft). has_stack c.args.level s.memory) c.self.view_is ∙ c.requires.none in
    rw (c.in_ok-map_level.ensures.ok, c.in_ok-stack.ensures) (pushing soft c.args.level c.args.slots.now c.args.list.now c.self.invariant c.requires.from c.requires.to c.told-slots none c.requires.few)
