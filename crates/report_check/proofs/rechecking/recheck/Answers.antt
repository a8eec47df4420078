use Rattle.report_check.proofs.rechecking.recheck.Goals as goal

pub returns-clause-check : goal.returns-clause-check
returns-clause-check c = c.answer_of.ensures.check c.args.job.now c.args.report.now c.in_ok-replay.ensures.replayed
