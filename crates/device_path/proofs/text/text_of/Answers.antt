use Rattle.std.proofs.Common.{◌≡◌, List, [], ◌∷◌, take, drop, ℕ, Ok, None, Some, string_bytes, refl, sym, ap, ◌∙◌, rules}
use Rattle.std.proofs.lemmas.List.{take_rest}
use Rattle.std.proofs.lemmas.Result.{err_from_is_err_and}
use Rattle.device_path.specs.DevicePath.{path_in}
use Rattle.device_path.specs.PathText.{known_node}
use Rattle.device_path.specs.Steps.{first_size}
use Rattle.device_path.proofs.PathLemmas.{RefusesAs-same}
use Rattle.device_path.proofs.TextLemmas.{text_after, text_after-end, text_after-known, text_after-nothing, text_after-refused, text_after-unknown}
use Rattle.device_path.proofs.text.text_of.Goals as goal

pub nodes-init : goal.nodes-init
nodes-init c = (
  ([], (refl, refl)),
  text_after-nothing (path_in c.args.path.now) ∙ ap (λ (xs : List ℕ). text_after xs [] (path_in c.args.path.now)) (sym c.new-text.ensures.bytes),
)

-- a bad node
pub returns-in_err-size : goal.returns-in_err-size
returns-in_err-size c =
    let exit = err_from_is_err_and c.from_residual.result c.from_residual.ensures.1 in
    let refused = c.nodes.invariant.1 ∙ text_after-refused (string_bytes c.nodes.text) c.nodes.separator.now c.nodes.rest.now _ (sym c.first_size.ensures.size ∙ c.in_err-size.was) in
    rw (exit.1, exit.2) (RefusesAs-same _ _ refused)

-- a node with no text
pub returns-in_default-known_node : goal.returns-in_default-known_node
returns-in_default-known_node c =
    let rest = c.nodes.rest.now in
    let size = c.in-Some.size in
    let first : first_size rest ≡ Ok (Some size) = sym c.first_size.ensures.size ∙ c.in_ok-size.was ∙ ap (λ (o : _). Ok o) c.in-Some.is in
    let none : known_node (take size rest) ≡ None = sym c.known_node.ensures ∙ c.in_default-known_node.is in
    c.nodes.invariant.1 ∙ text_after-unknown (string_bytes c.nodes.text) c.nodes.separator.now rest size first none

-- the text so far with that of one more node
pub nodes-preserved : goal.nodes-preserved
nodes-preserved c =
    let rest = c.nodes.rest.now in
    let size = c.in-Some.size in
    let node = c.in-Some-known_node.known in
    let first : first_size rest ≡ Ok (Some size) = sym c.first_size.ensures.size ∙ c.in_ok-size.was ∙ ap (λ (o : _). Ok o) c.in-Some.is in
    let known : known_node (take size rest) ≡ Some node = sym c.known_node.ensures ∙ c.in-Some-known_node.is in (
      search rules,
      c.nodes.invariant.1 ∙ text_after-known (string_bytes c.nodes.text) c.nodes.separator.now rest size node first known
          ∙ ap (λ (xs : List ℕ). text_after xs (47 ∷ []) (path_in (drop size rest))) (sym c.in_ok-write_known.ensures)
          ∙ ap (λ (xs : List ℕ). text_after (string_bytes c.write_known.new.text) (47 ∷ []) (path_in xs)) (sym (take_rest rest size)),
    )

-- the end
pub returns : goal.returns
returns c = c.nodes.invariant.1 ∙ text_after-end (string_bytes c.nodes.text) c.nodes.separator.now c.nodes.rest.now (sym c.first_size.ensures.size ∙ c.in_ok-size.was ∙ ap (λ (o : _). Ok o) c.in_default.is)
