use Rattle.desk_pools.proofs.Steps.{pools_commit}
use Rattle.desk_pools.proofs.laws.pools_of_a_commit.Goals as goal

pub returns : goal.returns
returns c = pools_commit
