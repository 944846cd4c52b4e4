use Rattle.std.proofs.Common.{Err}
use Rattle.replay_shell.specs.declared.replay.Stop.TheVariants.{Memory, Shelf, Sink}
use Rattle.replay_shell.specs.Endings.{Ends}
use Rattle.replay_shell.specs.Headline.{words_in}
use Rattle.replay_shell.proofs.top.top.Goals as goal

pub returns-in-Err-Shelf-clause-shelf_cuts : goal.returns-in-Err-Shelf-clause-shelf_cuts
returns-in-Err-Shelf-clause-shelf_cuts g c = λ files known e.
    let ends : Ends files (words_in c.args.words.now.items) (Err Shelf) (g.K.Sink.taken c.args.sink.now) (g.K.Sink.taken c.respond.new.sink) = rw c.in-Err-Shelf.field-0-is at (c.in-Err-Shelf.ensures.taken files known) in
    ends

pub returns-in-Err-Sink-clause-sink_cuts : goal.returns-in-Err-Sink-clause-sink_cuts
returns-in-Err-Sink-clause-sink_cuts g c = λ files known e.
    let ends : Ends files (words_in c.args.words.now.items) (Err Sink) (g.K.Sink.taken c.args.sink.now) (g.K.Sink.taken c.respond.new.sink) = rw c.in-Err-Sink.field-0-is at (c.in-Err-Sink.ensures.taken files known) in
    ends

pub returns-in-Err-Memory-clause-memory_cuts : goal.returns-in-Err-Memory-clause-memory_cuts
returns-in-Err-Memory-clause-memory_cuts g c = λ files known e.
    let ends : Ends files (words_in c.args.words.now.items) (Err Memory) (g.K.Sink.taken c.args.sink.now) (g.K.Sink.taken c.respond.new.sink) = rw c.in-Err-Memory.field-0-is at (c.in-Err-Memory.ensures.taken files known) in
    ends

-- the shelf has the same files afterwards, and no count of faults falls
pub returns-in-Ok-clause-same_files : goal.returns-in-Ok-clause-same_files
returns-in-Ok-clause-same_files g c = g.met.F.Shelf.becomes_files _ _ c.in-Ok.ensures.becomes.0

pub returns-in-Ok-clause-shelf_faults : goal.returns-in-Ok-clause-shelf_faults
returns-in-Ok-clause-shelf_faults g c = g.met.F.Shelf.becomes_faults _ _ c.in-Ok.ensures.becomes.0

pub returns-in-Ok-clause-sink_faults : goal.returns-in-Ok-clause-sink_faults
returns-in-Ok-clause-sink_faults g c = g.met.K.Sink.becomes_faults _ _ c.in-Ok.ensures.becomes.1

pub returns-in-Err-Shelf-clause-same_files : goal.returns-in-Err-Shelf-clause-same_files
returns-in-Err-Shelf-clause-same_files g c = g.met.F.Shelf.becomes_files _ _ c.in-Err-Shelf.ensures.becomes.0

pub returns-in-Err-Shelf-clause-shelf_faults : goal.returns-in-Err-Shelf-clause-shelf_faults
returns-in-Err-Shelf-clause-shelf_faults g c = g.met.F.Shelf.becomes_faults _ _ c.in-Err-Shelf.ensures.becomes.0

pub returns-in-Err-Shelf-clause-sink_faults : goal.returns-in-Err-Shelf-clause-sink_faults
returns-in-Err-Shelf-clause-sink_faults g c = g.met.K.Sink.becomes_faults _ _ c.in-Err-Shelf.ensures.becomes.1

pub returns-in-Err-Sink-clause-same_files : goal.returns-in-Err-Sink-clause-same_files
returns-in-Err-Sink-clause-same_files g c = g.met.F.Shelf.becomes_files _ _ c.in-Err-Sink.ensures.becomes.0

pub returns-in-Err-Sink-clause-shelf_faults : goal.returns-in-Err-Sink-clause-shelf_faults
returns-in-Err-Sink-clause-shelf_faults g c = g.met.F.Shelf.becomes_faults _ _ c.in-Err-Sink.ensures.becomes.0

pub returns-in-Err-Sink-clause-sink_faults : goal.returns-in-Err-Sink-clause-sink_faults
returns-in-Err-Sink-clause-sink_faults g c = g.met.K.Sink.becomes_faults _ _ c.in-Err-Sink.ensures.becomes.1

pub returns-in-Err-Memory-clause-same_files : goal.returns-in-Err-Memory-clause-same_files
returns-in-Err-Memory-clause-same_files g c = g.met.F.Shelf.becomes_files _ _ c.in-Err-Memory.ensures.becomes.0

pub returns-in-Err-Memory-clause-shelf_faults : goal.returns-in-Err-Memory-clause-shelf_faults
returns-in-Err-Memory-clause-shelf_faults g c = g.met.F.Shelf.becomes_faults _ _ c.in-Err-Memory.ensures.becomes.0

pub returns-in-Err-Memory-clause-sink_faults : goal.returns-in-Err-Memory-clause-sink_faults
returns-in-Err-Memory-clause-sink_faults g c = g.met.K.Sink.becomes_faults _ _ c.in-Err-Memory.ensures.becomes.1
