-- How the replies of a script are added up, over a shelf that never fails.
use Rattle.std.proofs.Common.{inl, inr, ◌≡◌, ◌≢◌, ℕ, zero, suc, ◌+◌, ◌*◌, ◌≤◌, Bool, true, false, ◌&&◌, List, [], ◌∷◌, length, drop, refl, sym, ap, subst, ◌∙◌, arith, add-one}
use Rattle.std.specs.Prelude.{sum_by, if◌then◌else◌}
use Rattle.std.specs.List.{list_all}
use Rattle.std.proofs.lemmas.List.Sums.{sum_by-cons}
use Rattle.std.proofs.lemmas.Bool.Decides.{nat_tests}
use Rattle.fw_types.specs.Commands.{has_legal_budgets, is_between}
use Rattle.fw_types.specs.declared.command.Command.{Command}
use Rattle.fw_types.specs.declared.command.Command.TheVariants.{Platform, Budget}
use Rattle.fw_types.specs.declared.limits.TheConstants.{LEAST_CALL_BUDGET, LEAST_COMMAND_BUDGET, MOST_BUDGET}
use Rattle.fw_types.specs.declared.reply.Reply.{Reply}
use Rattle.fw_shelf.specs.Faults.{Rose}
use Rattle.fw_shelf.specs.MemShelf.{IsLater, ShelfInMemory}
use Rattle.fw_shelf.specs.Shelf.{Files}
use Rattle.bind_engine.specs.declared.machine.ExecFault.{ExecFault}
use Rattle.bind_engine.specs.declared.machine.ExecFault.TheVariants.{ShelfFailed, OutOfMemory}
use Rattle.bind_engine.specs.Machine.{MachineView}
use Rattle.bind_engine.specs.Commands.{exec}
use Rattle.replay_shell.specs.declared.summary.Totals.{Totals}
use Rattle.replay_shell.specs.declared.replay.Stop.{Stop}
use Rattle.replay_shell.specs.declared.replay.Stop.TheVariants.{Shelf, Sink, Memory}
use Rattle.replay_shell.specs.Headline.{machine_after, replies, totals_of}
use Rattle.replay_shell.proofs.ReplayLemmas.{IsAt}

-- ---- a shelf that never fails

pub record IsCalm (shelf : ShelfInMemory) : Type 0 where
  pub failing_reads : shelf.failing_reads ≡ []
  pub faults : shelf.faults ≡ 0

-- such a shelf does not fail
none_rises : (old new : ShelfInMemory) → IsCalm old → IsLater old new → Rose old.faults new.faults → ⊥
none_rises old new calm later rose =
    let same : new.faults ≡ old.faults = later.faults calm.failing_reads in
    let none : old.faults ≡ 0 = calm.faults in
    elim rose [ inl more ↦ omega arith | inr last ↦ omega arith ]

-- and it stays one that never fails
pub calm_later : (old new : ShelfInMemory) → IsCalm old → IsLater old new → IsCalm new
calm_later old new calm later = record { failing_reads = later.failing_reads ∙ calm.failing_reads; faults = later.faults calm.failing_reads ∙ calm.faults }

-- the only fault is that memory runs out
pub only_memory : (fault : ExecFault) (old new : ShelfInMemory) → IsCalm old → IsLater old new → (fault ≡ ShelfFailed → Rose old.faults new.faults) → fault ≡ OutOfMemory
only_memory ShelfFailed old new calm later failed = absurd (none_rises old new calm later (failed refl))
only_memory OutOfMemory old new calm later failed = refl

pub memory_alone : (stop : Stop) (old new : ShelfInMemory) → IsCalm old → IsLater old new → stop ≢ Sink → (stop ≡ Shelf → Rose old.faults new.faults) → stop ≡ Memory
memory_alone Shelf old new calm later other failed = absurd (none_rises old new calm later (failed refl))
memory_alone Sink old new calm later other failed = absurd (other refl)
memory_alone Memory old new calm later other failed = refl

-- ---- the budget of a command never passes the largest one

most-between : (least most n : ℕ) → is_between least most n ≡ true → n ≤ most
most-between least most n h = grind (arith, nat_tests)

and-first : (a b : Bool) → a && b ≡ true → a ≡ true
and-first true b h = refl
and-first false b h = h

and-second : (a b : Bool) → a && b ≡ true → b ≡ true
and-second true b h = h
and-second false b h = absurd cc

platform-budget : (live : Bool) (first second : Reply × MachineView) (most : ℕ) → first.1.command_budget ≤ most → second.1.command_budget ≤ most → (if live then first else second).1.command_budget ≤ most
platform-budget true first second most h k = h
platform-budget false first second most h k = k

exec-budget : (command : Command) (files : Files) (machine : MachineView) → has_legal_budgets command ≡ true → machine.command_budget ≤ MOST_BUDGET → (exec command files machine).1.command_budget ≤ MOST_BUDGET
exec-budget (Platform controller drivers) files machine legal h = platform-budget _ _ _ MOST_BUDGET h h
exec-budget (Budget command call) files machine legal h =
    most-between LEAST_COMMAND_BUDGET MOST_BUDGET command (and-first (is_between LEAST_COMMAND_BUDGET MOST_BUDGET command) (is_between LEAST_CALL_BUDGET MOST_BUDGET call) legal)
exec-budget _ files machine legal h = h

-- ---- the sums

-- After the first commands the machine comes to the same end as the first machine. The sums of the replies so far and
-- of those that are left are the sums of all replies, and they are not large.
pub record AddedUp (files : Files) (first : MachineView) (commands : List Command) (done : ℕ) (machine : MachineView) (totals : Totals) : Type 0 where
  pub last : machine_after files machine (drop done commands) ≡ machine_after files first commands
  pub commands_are : totals.commands + length (replies files machine (drop done commands)) ≡ length (replies files first commands)
  pub units_are : totals.units + sum_by (λ (reply : Reply). reply.units) (replies files machine (drop done commands)) ≡ sum_by (λ (reply : Reply). reply.units) (replies files first commands)
  pub events_are : totals.events + sum_by (λ (reply : Reply). length reply.events) (replies files machine (drop done commands)) ≡ sum_by (λ (reply : Reply). length reply.events) (replies files first commands)
  pub count : totals.commands ≡ done
  pub few_units : totals.units ≤ done * MOST_BUDGET
  pub few_events : 64 * totals.events ≤ totals.units
  pub budget : machine.command_budget ≤ MOST_BUDGET

pub nothing_added : (files : Files) (first : MachineView) (commands : List Command) → first.command_budget ≤ MOST_BUDGET → AddedUp files first commands 0 first (record { commands = 0; units = 0; events = 0 })
nothing_added files first commands budget = record {
  last = refl;
  commands_are = omega arith;
  units_are = omega arith;
  events_are = omega arith;
  count = refl;
  few_units = omega arith;
  few_events = omega arith;
  budget = budget;
}

-- each command of a list has legal budgets
pub legal-at : (commands rest : List Command) (i : ℕ) (command : Command) → list_all has_legal_budgets commands ≡ true → drop i commands ≡ command ∷ rest → has_legal_budgets command ≡ true
legal-at [] rest zero command legal here = absurd (cc)
legal-at [] rest (suc i) command legal here = absurd (cc)
legal-at (x ∷ xs) rest zero command legal here =
    let same : x ≡ command = cc in
    ap has_legal_budgets (sym same) ∙ and-first (has_legal_budgets x) (list_all has_legal_budgets xs) legal
legal-at (x ∷ xs) rest (suc i) command legal here = legal-at xs rest i command (and-second (has_legal_budgets x) (list_all has_legal_budgets xs) legal) here

-- one more command
pub AddedUp-more : (files : Files) (first : MachineView) (commands : List Command) (i : ℕ) (machine next : MachineView) (totals : Totals) (command : Command) (reply : Reply)
    → AddedUp files first commands i machine totals → IsAt commands i command → list_all has_legal_budgets commands ≡ true → exec command files machine ≡ (reply, next)
    → reply.units ≤ machine.command_budget → 64 * length reply.events ≤ reply.units
    → AddedUp files first commands (i + 1) next (record { commands = totals.commands + 1; units = totals.units + reply.units; events = totals.events + length reply.events })
AddedUp-more files first commands i machine next totals command reply so_far there legal did few short =
    let rest = drop (suc i) commands in
    let legal_here : has_legal_budgets command ≡ true = legal-at commands rest i command legal there.here in
    let later : replies files machine (drop i commands) ≡ reply ∷ replies files next rest =
    ap (replies files machine) there.here ∙ ap (λ (after : Reply × MachineView). after.0 ∷ replies files after.1 rest) did in
    let last : machine_after files machine (drop i commands) ≡ machine_after files next rest =
    ap (machine_after files machine) there.here ∙ ap (λ (after : Reply × MachineView). machine_after files after.1 rest) did in
    let left = replies files next rest in
    let count : length (replies files machine (drop i commands)) ≡ suc (length left) = ap length later in
    let units = ap (λ (xs : List Reply). sum_by (λ (reply : Reply). reply.units) xs) later ∙ sum_by-cons (λ (reply : Reply). reply.units) reply left in
    let events = ap (λ (xs : List Reply). sum_by (λ (reply : Reply). length reply.events) xs) later ∙ sum_by-cons (λ (reply : Reply). length reply.events) reply left in
    let budget : next.command_budget ≤ MOST_BUDGET =
    subst (λ (after : Reply × MachineView). after.1.command_budget ≤ MOST_BUDGET) did (exec-budget command files machine legal_here so_far.budget) in
    rw (add-one i) (record {
      last = sym last ∙ so_far.last;
      commands_are = omega (arith, count, so_far.commands_are);
      units_are = omega (arith, units, so_far.units_are);
      events_are = omega (arith, events, so_far.events_are);
      count = omega (arith, so_far.count);
      few_units = omega (arith, so_far.few_units, so_far.budget, few);
      few_events = omega (arith, so_far.few_events, short);
      budget = budget;
    })

-- the end of all commands
pub record AllAddedUp (files : Files) (first : MachineView) (commands : List Command) (machine : MachineView) (totals : Totals) : Type 0 where
  pub last : machine ≡ machine_after files first commands
  pub totals_are : totals ≡ totals_of (replies files first commands)

pub AddedUp-end : (files : Files) (first : MachineView) (commands : List Command) (i : ℕ) (machine : MachineView) (totals : Totals) → drop i commands ≡ [] → AddedUp files first commands i machine totals → AllAddedUp files first commands machine totals
AddedUp-end files first commands i machine totals gone so_far =
    let all = replies files first commands in
    let none : replies files machine (drop i commands) ≡ [] = ap (replies files machine) gone in
    let a : totals.commands ≡ length all = omega (arith, so_far.commands_are, ap length none) in
    let b : totals.units ≡ sum_by (λ (reply : Reply). reply.units) all = omega (arith, so_far.units_are, ap (λ (xs : List Reply). sum_by (λ (reply : Reply). reply.units) xs) none) in
    let c : totals.events ≡ sum_by (λ (reply : Reply). length reply.events) all = omega (arith, so_far.events_are, ap (λ (xs : List Reply). sum_by (λ (reply : Reply). length reply.events) xs) none) in
    record {
      last = sym (ap (machine_after files machine) gone) ∙ so_far.last;
      totals_are = ap (λ (n : ℕ). record totals { commands = n }) a ∙ ap (λ (n : ℕ). record totals { commands = length all; units = n }) b ∙ ap (λ (n : ℕ). record totals { commands = length all; units = sum_by (λ (reply : Reply). reply.units) all; events = n }) c;
    }
