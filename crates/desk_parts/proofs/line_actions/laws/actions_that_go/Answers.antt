use Rattle.desk_parts.proofs.OfLineActions.Held.{gone_were_live, gone_named}
use Rattle.desk_parts.proofs.line_actions.laws.actions_that_go.Goals as goal

pub returns-clause-live : goal.returns-clause-live
returns-clause-live c = gone_were_live

pub returns-clause-named : goal.returns-clause-named
returns-clause-named c = gone_named
