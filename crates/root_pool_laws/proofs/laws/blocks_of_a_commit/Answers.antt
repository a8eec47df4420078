use Rattle.root_pool_laws.proofs.Blocks.{free_stays, one_root_stays, left_stays}
use Rattle.root_pool_laws.proofs.laws.blocks_of_a_commit.Goals as goal

pub returns-clause-free : goal.returns-clause-free
returns-clause-free g c = λ h commit given base low spends. free_stays h commit given spends base low

pub returns-clause-one_root : goal.returns-clause-one_root
returns-clause-one_root g c = λ h commit given base low spends. one_root_stays h commit given spends base low

pub returns-clause-left : goal.returns-clause-left
returns-clause-left g c = left_stays
