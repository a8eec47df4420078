use Rattle.state_past_laws.proofs.OfChanges.Acting.{keeps_others, never_given}
use Rattle.state_past_laws.proofs.changes.rows.actions_go_on.Goals as goal

pub returns-clause-others : goal.returns-clause-others
returns-clause-others c = keeps_others

pub returns-clause-never : goal.returns-clause-never
returns-clause-never c = never_given
