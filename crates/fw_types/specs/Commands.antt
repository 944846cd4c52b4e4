-- What a machine is asked for.
use Rattle.std.specs.Prelude.{ℕ, Bool, true, ◌&&◌, nat_le}
use Rattle.fw_types.specs.declared.command.Command.{Command}
use Rattle.fw_types.specs.declared.command.Command.TheVariants.{Budget}
use Rattle.fw_types.specs.declared.limits.TheConstants.{LEAST_CALL_BUDGET, LEAST_COMMAND_BUDGET, MOST_BUDGET}

-- from the least to the most
abbrev pub is_between : ℕ → ℕ → ℕ → Bool
is_between least most n = nat_le least n && nat_le n most

-- whether a machine may be given the budgets of a command
abbrev pub has_legal_budgets : Command → Bool
has_legal_budgets (Budget command call) = is_between LEAST_COMMAND_BUDGET MOST_BUDGET command && is_between LEAST_CALL_BUDGET MOST_BUDGET call
has_legal_budgets _ = true
