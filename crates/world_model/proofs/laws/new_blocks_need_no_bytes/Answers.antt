use Rattle.world_model.proofs.BlockBytes.{emptied_beside_stacks, empty_free_is_noted, emptying_keeps, undone_without_bytes}
use Rattle.world_model.proofs.laws.new_blocks_need_no_bytes.Goals as goal

pub returns : goal.returns
returns c = record {
  keeps = emptying_keeps;
  free = empty_free_is_noted;
  stacks = emptied_beside_stacks;
  undone = undone_without_bytes;
}
