use Rattle.world_model.proofs.UndoNoted.{noted_beside_stacks, taken_beside_stacks, undoing_leaves_stacks}
use Rattle.world_model.proofs.UndoStacks.{left_stack_is_there, none_is_left_out, popped_is_left_out, pushed_is_left_out}
use Rattle.world_model.proofs.laws.marks_keep.Goals as goal

pub returns : goal.returns
returns c = record {
  noted = noted_beside_stacks;
  taken = taken_beside_stacks;
  pushed = pushed_is_left_out;
  popped = popped_is_left_out;
  none = none_is_left_out;
  left = left_stack_is_there;
  undone = undoing_leaves_stacks;
}
