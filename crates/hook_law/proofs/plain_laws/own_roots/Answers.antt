use Rattle.hook_law.proofs.Lists.{root_of_one, root_of_none}
use Rattle.hook_law.proofs.plain_laws.own_roots.Goals as goal

pub returns-clause-own : goal.returns-clause-own
returns-clause-own g c = root_of_one

pub returns-clause-others : goal.returns-clause-others
returns-clause-others g c = root_of_none
