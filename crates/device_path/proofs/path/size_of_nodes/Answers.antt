use Rattle.std.proofs.Common.{◌≡◌, ◌≤◌, List, ℕ, length, arith, Ok, Some, sym, ap, subst, ◌∙◌}
use Rattle.std.proofs.lemmas.Grind.{common_steps}
use Rattle.std.proofs.lemmas.List.{take_rest}
use Rattle.std.proofs.lemmas.Result.{err_from_is_err_and}
use Rattle.device_path.specs.Steps.{first_size}
use Rattle.device_path.proofs.PathLemmas.{IsRest, all_nodes, refused_nodes, rest_after}
use Rattle.device_path.proofs.path.size_of_nodes.Goals as goal

-- a bad node
pub returns-in_err-size : goal.returns-in_err-size
returns-in_err-size c =
    let exit = err_from_is_err_and c.from_residual.result c.from_residual.ensures.1 in
    rw (exit.1, exit.2) (refused_nodes c.args.path.now c.nodes.rest.now _ c.nodes.invariant (sym c.first_size.ensures.size ∙ c.in_err-size.was))

-- a node, and the path after it
pub nodes-preserved : goal.nodes-preserved
nodes-preserved c =
    let rest = c.nodes.rest.now in
    let size = c.in-Some.size in
    let first : first_size rest ≡ Ok (Some size) = sym c.first_size.ensures.size ∙ c.in_ok-size.was ∙ ap (λ (o : _). Ok o) c.in-Some.is in
    let fits : size ≤ length rest = grind (arith, common_steps) in
    subst (λ (r : List ℕ). IsRest c.args.path.now r) (sym (take_rest rest size)) (rest_after c.args.path.now rest size c.nodes.invariant first fits)

-- the End node
pub returns : goal.returns
returns c = all_nodes c.args.path.now c.nodes.rest.now c.nodes.invariant (sym c.first_size.ensures.size ∙ c.in_ok-size.was ∙ ap (λ (o : _). Ok o) c.in_default.is)
