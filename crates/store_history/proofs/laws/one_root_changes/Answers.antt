use Rattle.store_history.proofs.Histories.{root_own, root_other}
use Rattle.store_history.proofs.laws.one_root_changes.Goals as goal

pub returns-clause-own : goal.returns-clause-own
returns-clause-own g c = root_own

pub returns-clause-others : goal.returns-clause-others
returns-clause-others g c = root_other
