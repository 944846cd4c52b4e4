-- How a replay of a script may end, and what the sink took by then.
use Rattle.std.specs.Prelude.{◌≡◌, true, List, ℕ, take, Option, Result, Ok, Err}
use Rattle.std.specs.List.{concat}
use Rattle.fw_types.specs.declared.command.Command.{Command}
use Rattle.fw_shelf.specs.Shelf.{Files}
use Rattle.fw_shelf.specs.Sink.{with_bytes, TakesProperPrefix}
use Rattle.script_text.specs.declared.script.Script.{Script}
use Rattle.report_text.specs.Report.{reply_text}
use Rattle.bind_engine.specs.Machine.{MachineView}
use Rattle.bind_engine.specs.Commands.{exec, reads_file}
use Rattle.bind_engine.specs.declared.machine.ExecFault.{ExecFault}
use Rattle.bind_engine.specs.declared.machine.ExecFault.TheVariants.{ShelfFailed, OutOfMemory}
use Rattle.replay_shell.specs.declared.replay.Stop.{Stop}
use Rattle.replay_shell.specs.declared.replay.Stop.TheVariants.{Shelf, Sink, Memory}
use Rattle.replay_shell.specs.Endings.{StopsAtRead, TakesPrefix, reads_at}
use Rattle.replay_shell.specs.Headline.{report, texts}

-- the stop that a fault of the machine leads to
abbrev pub stop_of : ExecFault → Stop
stop_of ShelfFailed = Shelf
stop_of OutOfMemory = Memory

-- the text of one command
abbrev pub text_of : Files → MachineView → Command → List ℕ
text_of files machine command = reply_text command (exec command files machine).0

-- one command: its whole text was taken; or the program stopped, and nothing of the text was taken, or only a part if
-- the sink failed
abbrev pub TakesTurn : Files → MachineView → Command → Result MachineView Stop → Option (List ℕ) → Option (List ℕ) → Type 0
TakesTurn files machine command (Ok next) old new = (next ≡ (exec command files machine).1) × (new ≡ with_bytes old (text_of files machine command))
TakesTurn files machine command (Err Shelf) old new = (reads_file command ≡ true) × (new ≡ old)
TakesTurn files machine command (Err Sink) old new = TakesProperPrefix old (text_of files machine command) new
TakesTurn files machine command (Err Memory) old new = new ≡ old

-- all commands, beginning with a machine
abbrev pub TakesTurns : Files → MachineView → List Command → Result (Unit {0}) Stop → Option (List ℕ) → Option (List ℕ) → Type 0
TakesTurns files machine commands (Ok done) old new = new ≡ with_bytes old (concat (texts files machine commands))
TakesTurns files machine commands (Err Shelf) old new = (k : ℕ) × (reads_at commands k ≡ true) × (new ≡ with_bytes old (concat (take k (texts files machine commands))))
TakesTurns files machine commands (Err Sink) old new = TakesProperPrefix old (concat (texts files machine commands)) new
TakesTurns files machine commands (Err Memory) old new = TakesPrefix old (concat (texts files machine commands)) new

-- the whole script
abbrev pub Replays : Files → Script → Result (Unit {0}) Stop → Option (List ℕ) → Option (List ℕ) → Type 0
Replays files script (Ok done) old new = new ≡ with_bytes old (report files script)
Replays files script (Err Shelf) old new = StopsAtRead files script old new
Replays files script (Err Sink) old new = TakesProperPrefix old (report files script) new
Replays files script (Err Memory) old new = TakesPrefix old (report files script) new
