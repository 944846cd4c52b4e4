use Rattle.std.proofs.Common.{ℕ, List, ◌++◌, replicate, ap, ◌∙◌}
use Rattle.std.specs.Prelude.{flat_map}
use Rattle.byteorder.specs.Endian.{little_bytes}
use Rattle.guest_memory.specs.declared.address_map.TheConstants.{EXIT}
use Rattle.world_model.specs.Stacks.{stack_bytes}
use Rattle.soft_pieces.proofs.stack.stack_bytes.Goals as goal

pub returns : goal.returns
unfolding stack_bytes
returns c =
    let zeros = c.in_ok-add_zeros.ensures ∙ ap (λ (bytes : List ℕ). bytes ++ replicate 65392 0) c.in_ok-bytes.ensures.items in
    let exit = c.in_ok-add_number.ensures ∙ ap (λ (bytes : List ℕ). bytes ++ little_bytes 8 EXIT) zeros in
    let gap = c.in_ok-add_zeros-2.ensures ∙ ap (λ (bytes : List ℕ). bytes ++ replicate 8 0) exit in
    c.in_ok-add_numbers.ensures ∙ ap (λ (bytes : List ℕ). bytes ++ flat_map (little_bytes 8) c.args.slots.now) gap
