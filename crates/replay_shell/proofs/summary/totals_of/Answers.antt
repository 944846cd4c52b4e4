use Rattle.std.proofs.Common.{◌≡◌, refl, ap, sym, ◌∙◌}
use Rattle.fw_shelf.specs.Shelf.{Files}
use Rattle.bind_engine.specs.Commands.{exec}
use Rattle.replay_shell.proofs.ReplayLemmas.{drop-past, is_at}
use Rattle.replay_shell.proofs.SummaryLemmas.{AddedUp-end, AddedUp-more, calm_later, nothing_added}
use Rattle.replay_shell.proofs.summary.totals_of.Goals as goal

pub loop-command-init : goal.loop-command-init
loop-command-init c = record {
  so_far = nothing_added c.args.shelf.now.files c.args.first c.args.commands.now c.requires.budget;
  files = refl;
  calm = record { failing_reads = c.requires.calm.0; faults = c.requires.calm.1 };
}

pub loop-command-preserved : goal.loop-command-preserved
loop-command-preserved c =
    let files = c.args.shelf.now.files in
    let commands = c.args.commands.now in
    let i = c.loop-command.command-index in
    let machine = c.loop-command.machine in
    let command = c.command-item.result in
    let before = c.loop-command.invariant in
    let there = is_at commands i command c.loop-command-test.true c.command-item.is in
    let did : exec command files machine ≡ (c.in_ok-next.reply, c.in_ok-next.next) =
    ap (λ (f : Files). exec command f machine) (sym before.files) ∙ c.in_ok-next.ensures.done c.loop-command.shelf.files refl in
    rw c.as_slice.ensures (record {
      so_far = AddedUp-more files c.args.first commands i machine c.in_ok-next.next c.loop-command.totals command c.in_ok-next.reply before.so_far there c.requires.budgets did c.in_ok-next.ensures.units c.in_ok-next.ensures.events;
      files = c.exec.ensures.becomes.files ∙ before.files;
      calm = calm_later c.loop-command.shelf c.exec.new.shelf before.calm c.exec.ensures.becomes;
    })

pub returns : goal.returns
returns c =
    let before = c.loop-command.invariant in
    let gone = drop-past c.args.commands.now c.loop-command.command-index c.loop-command-test.false in
    let all = AddedUp-end c.args.shelf.now.files c.args.first c.args.commands.now c.loop-command.command-index c.loop-command.machine c.loop-command.totals gone before.so_far in
    record {
      machine = all.last;
      totals = all.totals_are;
      memory = tt;
      files = before.files;
      still_calm = (before.calm.failing_reads, before.calm.faults);
    }
