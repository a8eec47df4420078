use Rattle.report_laws.proofs.Deciding.{one_next}
use Rattle.report_laws.proofs.laws.one_stand.Goals as goal

pub returns : goal.returns
returns c = one_next
