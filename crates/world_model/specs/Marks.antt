-- Marks: a mark keeps the soft part as it is, and an undo puts it back. Marks are nested.
use Rattle.std.specs.Prelude.{◌≡◌, ℕ, List, [], ◌∷◌, length}
use Rattle.guest_memory.specs.declared.segment.SegKind.TheVariants.{Stack}
use Rattle.world_model.specs.World.{WorldView, Soft, State, bases}

-- how many marks are open
abbrev pub depth : WorldView → ℕ
depth w = length w.marks

abbrev pub marked : WorldView → WorldView
marked w = record w { marks = w.now.soft ∷ w.marks }

-- the soft part that the newest mark keeps, if there is a mark
abbrev pub put_back : List Soft → State → State
put_back [] w = w
put_back (soft ∷ marks) w = record w { soft = soft }

-- what the older marks keep
abbrev pub older_marks : List Soft → List Soft
older_marks [] = []
older_marks (soft ∷ marks) = marks

-- the newest mark is spent, and the soft part is as it was when the mark was made
abbrev pub rolled_back : WorldView → WorldView
rolled_back w = record { now = put_back w.marks w.now; marks = older_marks w.marks }

-- the newest mark is spent, and the soft part stays
abbrev pub committed : WorldView → WorldView
committed w = record w { marks = older_marks w.marks }

-- the addresses of the stacks
abbrev pub stacks : Soft → List ℕ
stacks soft = bases Stack soft.memory

-- the addresses of the stacks when the newest mark was made, or now if no mark is open
abbrev pub marked_stacks : WorldView → List ℕ
marked_stacks w = stacks (put_back w.marks w.now).soft

-- ---- laws

-- Whatever was done since a mark was made, as long as no older mark keeps anything else: a rollback puts
-- the soft part back as it was then, and leaves the hard part.
abbrev pub RollbackPutsBack : Type 0
RollbackPutsBack =
    (before after : WorldView) → after.marks ≡ (marked before).marks
    → rolled_back after ≡ record { now = record after.now { soft = before.now.soft }; marks = before.marks }

-- and a commit leaves all but the mark
abbrev pub CommitSpendsMark : Type 0
CommitSpendsMark = (before after : WorldView) → after.marks ≡ (marked before).marks → committed after ≡ record after { marks = before.marks }
