-- Each subcommand is read by its own function.
use Rattle.program_words.proofs.words.task_of.Goals as goal

pub returns-in-Init-clause-task : goal.returns-in-Init-clause-task
returns-in-Init-clause-task c = rw c.in-Init.is (c.init.ensures.task c.args.clock_time c.args.name.now)

pub returns-in-Enter-clause-task : goal.returns-in-Enter-clause-task
returns-in-Enter-clause-task c = rw c.in-Enter.is (c.enter.ensures.task c.args.clock_time c.args.name.now)

pub returns-in-Try-clause-task : goal.returns-in-Try-clause-task
returns-in-Try-clause-task c = rw c.in-Try.is (c.trial.ensures.task c.args.clock_time c.args.name.now)

pub returns-in-Ask-clause-task : goal.returns-in-Ask-clause-task
returns-in-Ask-clause-task c = rw c.in-Ask.is (c.ask.ensures.task c.args.name.now)

pub returns-in-Plain-clause-task : goal.returns-in-Plain-clause-task
returns-in-Plain-clause-task c = rw c.in-Plain.is (c.plain.ensures.task c.args.clock_time c.args.name.now)

pub returns-in-Strike-clause-task : goal.returns-in-Strike-clause-task
returns-in-Strike-clause-task c = rw c.in-Strike.is (c.strike.ensures.task c.args.name.now)

pub returns-in-Restore-clause-task : goal.returns-in-Restore-clause-task
returns-in-Restore-clause-task c = rw c.in-Restore.is (c.restore.ensures.task c.args.name.now)

pub returns-in-Struck-clause-task : goal.returns-in-Struck-clause-task
returns-in-Struck-clause-task c = rw c.in-Struck.is (c.struck.ensures.task c.args.name.now)

pub returns-in-Cases-clause-task : goal.returns-in-Cases-clause-task
returns-in-Cases-clause-task c = rw c.in-Cases.is (c.cases.ensures.task c.args.name.now)

pub returns-in-Rows-clause-task : goal.returns-in-Rows-clause-task
returns-in-Rows-clause-task c = rw c.in-Rows.is (c.rows.ensures.task c.args.name.now)

pub returns-in-Log-clause-task : goal.returns-in-Log-clause-task
returns-in-Log-clause-task c = rw c.in-Log.is (c.log.ensures.task c.args.name.now)

pub returns-in-Memo-clause-task : goal.returns-in-Memo-clause-task
returns-in-Memo-clause-task c = rw c.in-Memo.is (c.memo.ensures.task c.args.name.now)

pub returns-in-Sheet-clause-task : goal.returns-in-Sheet-clause-task
returns-in-Sheet-clause-task c = rw c.in-Sheet.is (c.sheet.ensures.task c.args.name.now)

pub returns-in-Case-clause-task : goal.returns-in-Case-clause-task
returns-in-Case-clause-task c = rw c.in-Case.is (c.one_case.ensures.task c.args.name.now)

pub returns-in-CourtCheck-clause-task : goal.returns-in-CourtCheck-clause-task
returns-in-CourtCheck-clause-task c = rw c.in-CourtCheck.is (c.check.ensures.task c.args.name.now)

pub returns-in-CourtWrite-clause-task : goal.returns-in-CourtWrite-clause-task
returns-in-CourtWrite-clause-task c = rw c.in-CourtWrite.is (c.write.ensures.task c.args.clock_time c.args.name.now)

pub returns-in-CourtUpdate-clause-task : goal.returns-in-CourtUpdate-clause-task
returns-in-CourtUpdate-clause-task c = rw c.in-CourtUpdate.is (c.update.ensures.task c.args.clock_time c.args.name.now)

pub returns-in-CourtChange-clause-task : goal.returns-in-CourtChange-clause-task
returns-in-CourtChange-clause-task c = rw c.in-CourtChange.is (c.change.ensures.task c.args.clock_time c.args.name.now)
