use Rattle.world_model.proofs.CommandPath.{clearing, clearing_keeps_stacks, clearing_leaves_none, fitting, set_is_alone, setting, setting_keeps_stacks}
use Rattle.world_model.proofs.RootLaws.{opening_has_none}
use Rattle.world_model.proofs.laws.command_paths_fit.Goals as goal

pub returns : goal.returns
returns c = record {
  fits = fitting;
  setting = setting;
  clearing = clearing;
  setting_stacks = setting_keeps_stacks;
  clearing_stacks = clearing_keeps_stacks;
  opening = opening_has_none;
  alone = set_is_alone;
  none = clearing_leaves_none;
}
