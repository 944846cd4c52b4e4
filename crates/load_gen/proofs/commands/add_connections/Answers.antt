use Rattle.std.proofs.Common.{◌++◌, List, ap, ◌∙◌, append_assoc, add-one}
use Rattle.std.specs.List.{flat_map, range_with_len}
use Rattle.fw_types.specs.declared.command.Command.{Command}
use Rattle.load_gen.specs.GeneratedLoad.{connection_lines}
use Rattle.load_gen.proofs.CommandLemmas.{connections-more}
use Rattle.load_gen.proofs.commands.add_connections.Goals as goal

pub loop-number-preserved : goal.loop-number-preserved
loop-number-preserved c =
    let number = c.loop-number._number in
    let before : List Command = c.args.commands.now.items in
    let others : List Command = flat_map (λ n. connection_lines) (range_with_len 0 number) in
    rw (add-one number, connections-more 0 number)
    (c.in_ok-add_connection.ensures ∙ ap (λ (commands : List Command). commands ++ connection_lines) c.loop-number.invariant ∙ append_assoc before others connection_lines)
