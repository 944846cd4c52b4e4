use Rattle.std.proofs.Common.{sym}
use Rattle.replay_shell.specs.Endings.{no_script}
use Rattle.replay_shell.proofs.respond.respond.Goals as goal

pub returns-in-Some-Run-clause-taken : goal.returns-in-Some-Run-clause-taken
returns-in-Some-Run-clause-taken g c = λ files known. rw (sym c.in-Some-Run.ensures.form, c.in-Some-Run.field-0-is) (c.run_script.ensures.taken files known)

pub returns-in-Some-Check-clause-taken : goal.returns-in-Some-Check-clause-taken
returns-in-Some-Check-clause-taken g c = λ files known. rw (sym c.in-Some-Check.ensures.form, c.in-Some-Check.field-0-is) (c.check_script.ensures.taken files known)

pub returns-in-Some-Selftest-clause-taken : goal.returns-in-Some-Selftest-clause-taken
returns-in-Some-Selftest-clause-taken g c = λ files known. rw (sym c.in-Some-Selftest.ensures.form, c.in-Some-Selftest.field-0-is) (c.say_summary.ensures.taken files)

pub returns-in-Some-Disasm-clause-taken : goal.returns-in-Some-Disasm-clause-taken
returns-in-Some-Disasm-clause-taken g c = λ files known. rw (sym c.in-Some-Disasm.ensures.form, c.in-Some-Disasm.field-0-is) (c.list_image.ensures.taken files known)

pub returns-in-None-clause-taken : goal.returns-in-None-clause-taken
returns-in-None-clause-taken g c = λ files known. rw (sym c.in-None.ensures.form) (c.say.ensures.taken files no_script)

pub returns-in-Some-Selftest-clause-alone : goal.returns-in-Some-Selftest-clause-alone
returns-in-Some-Selftest-clause-alone g c = λ none files. rw (sym c.in-Some-Selftest.ensures.form, c.in-Some-Selftest.field-0-is) (c.say_summary.ensures.taken files)

pub returns-in-None-clause-alone : goal.returns-in-None-clause-alone
returns-in-None-clause-alone g c = λ none files. rw (sym c.in-None.ensures.form) (c.say.ensures.taken files no_script)
