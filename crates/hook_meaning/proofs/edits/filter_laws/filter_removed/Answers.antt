use Rattle.hook_meaning.proofs.OfEdits.OneMask.{there_after, loses_after}
use Rattle.hook_meaning.proofs.edits.filter_laws.filter_removed.Goals as goal

pub returns-clause-there : goal.returns-clause-there
returns-clause-there c = there_after

pub returns-clause-leaves : goal.returns-clause-leaves
returns-clause-leaves c = loses_after
