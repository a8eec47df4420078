use Rattle.std.proofs.Common.{◌∙◌, [], sym}
use Rattle.report_laws.specs.Stands.{closing}
use Rattle.report_check.proofs.LastLines.{is_lawful, lawful_run, too_many}
use Rattle.report_check.proofs.rechecking.ended_at.Goals as goal

pub returns-in-None-clause-check : goal.returns-in-None-clause-check
returns-in-None-clause-check c = λ loaded run journal is at. is_lawful loaded c.args.report.now c.args.cursor run journal at c.in-None.ensures.none

pub returns-in-None-clause-run : goal.returns-in-None-clause-run
returns-in-None-clause-run c = λ lawful loaded run journal at. lawful_run loaded c.args.report.now c.args.cursor run journal at c.in-None.ensures.none

pub returns-in-Some-clause-check : goal.returns-in-Some-clause-check
returns-in-Some-clause-check c = λ loaded run journal is at.
    c.stuck_at.ensures.check loaded is (c.refuse.ensures.stuck loaded (closing run journal []) at (λ none. absurd (cc (sym none ∙ c.in-Some.ensures.some.first))) (too_many loaded c.args.report.now c.args.cursor run journal))
