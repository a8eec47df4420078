use Rattle.state_past_laws.proofs.Edits.{add_changes, table_changes, filter_changes}
use Rattle.state_past_laws.proofs.Replaced.{replace_changes}
use Rattle.state_past_laws.proofs.slots.edits_change_slots.Goals as goal

pub returns-clause-added : goal.returns-clause-added
returns-clause-added c = add_changes

pub returns-clause-table : goal.returns-clause-table
returns-clause-table c = table_changes

pub returns-clause-one : goal.returns-clause-one
returns-clause-one c = filter_changes

pub returns-clause-replaced : goal.returns-clause-replaced
returns-clause-replaced c = replace_changes
