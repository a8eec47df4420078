use Rattle.hook_meaning.proofs.Opening.{starts_empty, hook_opens}
use Rattle.hook_meaning.proofs.laws.opens_at_nothing.Goals as goal

pub returns-clause-empty : goal.returns-clause-empty
returns-clause-empty c = starts_empty

pub returns-clause-keeps : goal.returns-clause-keeps
returns-clause-keeps c = hook_opens
