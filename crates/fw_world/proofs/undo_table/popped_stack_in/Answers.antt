use Rattle.std.proofs.Common.{◌≡◌, ℕ, Bool, false, ◌||◌, List, ◌∷◌, nat_eq, ap, ◌∙◌}
use Rattle.std.specs.List.{list_any}
use Rattle.world_model.specs.Stacks.{has_stack, is_marked_stack, stack_base}
use Rattle.world_model.specs.World.{Soft, WorldView}
use Rattle.fw_world.proofs.undo_table.popped_stack_in.Goals as goal

-- the one mark keeps a soft part with no stack
pub write_on_stack-requires-clause-older : goal.write_on_stack-requires-clause-older
write_on_stack-requires-clause-older g c =
    let before : Soft = c.parts_in.new.world.now.soft in
    let none : has_stack 1 before.memory ≡ false =
    c.stacks_stand.ensures.level before 1
    ∙ ap (λ (bases : List ℕ). list_any (λ (base : ℕ). nat_eq base (stack_base 1)) bases) (c.in_ok-parts.ensures.stacks ∙ c.requires.stacks) in
    ap (λ (w : WorldView). is_marked_stack 1 w.marks) c.mark-outer.ensures.marked
    ∙ ap (λ (marks : List Soft). is_marked_stack 1 (before ∷ marks)) (c.in_ok-parts.ensures.marks ∙ c.requires.marks)
    ∙ ap (λ (b : Bool). b || false) none
