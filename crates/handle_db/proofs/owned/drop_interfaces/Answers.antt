use Rattle.std.proofs.Common.{rules, ap, List}
use Rattle.std.proofs.lemmas.Fn.{filter_same}
use Rattle.handle_db.specs.declared.handle_entry.Interface.{Interface}
use Rattle.handle_db.proofs.owned.drop_interfaces.Goals as goal

pub returns : goal.returns
returns c = ap (λ (interfaces : List Interface). record c.args.entry.now { interfaces = interfaces }) (filter_same _ _ _ (λ x b f' k. search rules) _ _ c.retain.ensures)
