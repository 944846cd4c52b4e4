-- The commands of a load.
use Rattle.std.proofs.Common.{◌≡◌, ◌+◌, ◌*◌, ℕ, zero, suc, true, List, ◌++◌, length, replicate, refl, ap, arith, length-append}
use Rattle.std.specs.List.{flat_map, list_all, range_with_len}
use Rattle.std.proofs.lemmas.List.{length-replicate}
use Rattle.fw_types.specs.Commands.{has_legal_budgets}
use Rattle.fw_types.specs.declared.command.Command.{Command}
use Rattle.load_gen.specs.GeneratedLoad.{commands, connection_lines, load_line}

-- one more connection
pub connections-more : (first count : ℕ) → flat_map (λ (number : ℕ). connection_lines) (range_with_len first (suc count)) ≡ flat_map (λ (number : ℕ). connection_lines) (range_with_len first count) ++ connection_lines
connections-more first zero = refl
connections-more first (suc count) = ap (λ (later : List Command). connection_lines ++ later) (connections-more (first + 1) count)

connections-length : (first count : ℕ) → length (flat_map (λ (number : ℕ). connection_lines) (range_with_len first count)) ≡ 2 * count
connections-length first zero = refl
connections-length first (suc count) = omega (arith, connections-length (first + 1) count)

pub commands_length : (size : ℕ) → length (commands size) ≡ 3 * size
commands_length size =
    let loads = length-replicate size load_line in
    let others = connections-length 0 size in
    omega (arith, length-append (replicate size load_line) (flat_map (λ (number : ℕ). connection_lines) (range_with_len 0 size)))

-- no command of a load sets a budget
connections-legal : (first count : ℕ) → list_all has_legal_budgets (flat_map (λ (number : ℕ). connection_lines) (range_with_len first count)) ≡ true
connections-legal first zero = refl
connections-legal first (suc count) = connections-legal (first + 1) count

legal_from : (count : ℕ) (others : List Command) → list_all has_legal_budgets others ≡ true → list_all has_legal_budgets (replicate count load_line ++ others) ≡ true
legal_from zero others h = h
legal_from (suc count) others h = legal_from count others h

pub commands_legal : (size : ℕ) → list_all has_legal_budgets (commands size) ≡ true
commands_legal size = legal_from size (flat_map (λ (number : ℕ). connection_lines) (range_with_len 0 size)) (connections-legal 0 size)
