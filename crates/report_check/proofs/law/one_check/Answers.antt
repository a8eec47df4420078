use Rattle.report_check.proofs.OneCheck.{one_answer}
use Rattle.report_check.proofs.law.one_check.Goals as goal

pub returns : goal.returns
returns c = λ loaded bytes one other is first second. one_answer loaded bytes one other is first second
