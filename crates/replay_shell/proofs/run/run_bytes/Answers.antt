use Rattle.replay_shell.proofs.run.run_bytes.Goals as goal

pub returns-in-Ok-clause-taken : goal.returns-in-Ok-clause-taken
returns-in-Ok-clause-taken g c = λ files known. rw c.in-Ok.ensures.script (c.replay_script.ensures.taken files known)
