use Rattle.root_pool_laws.proofs.Roots.{free_is_empty, empty_stays, unused_stays}
use Rattle.root_pool_laws.proofs.laws.roots_of_a_commit.Goals as goal

pub returns-clause-none : goal.returns-clause-none
returns-clause-none g c = free_is_empty g.T.Terms.meaning g.T.Terms.codec

pub returns-clause-empty : goal.returns-clause-empty
returns-clause-empty g c = empty_stays g.T.Terms.meaning g.T.Terms.codec

pub returns-clause-free : goal.returns-clause-free
returns-clause-free g c = unused_stays g.T.Terms.meaning g.T.Terms.codec
