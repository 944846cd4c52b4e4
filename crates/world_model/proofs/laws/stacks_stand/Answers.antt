use Rattle.world_model.proofs.StackLaws.{adding, allotting, dropping, freeing, popping_undoes_push, popping, pushed_stack_is_there, pushing, putting, stack_of_level, sweeping, writing}
use Rattle.world_model.proofs.laws.stacks_stand.Goals as goal

pub returns : goal.returns
returns c = record {
  level = stack_of_level;
  writing = writing;
  putting = putting;
  allotting = allotting;
  freeing = freeing;
  adding = adding;
  dropping = dropping;
  sweeping = sweeping;
  pushing = pushing;
  popping = popping;
  there = pushed_stack_is_there;
  undone = popping_undoes_push;
}
