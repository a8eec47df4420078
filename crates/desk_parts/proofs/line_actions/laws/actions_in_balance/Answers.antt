use Rattle.desk_parts.proofs.OfLineActions.Balance.{actions_balance}
use Rattle.desk_parts.proofs.line_actions.laws.actions_in_balance.Goals as goal

pub returns : goal.returns
returns c = actions_balance
