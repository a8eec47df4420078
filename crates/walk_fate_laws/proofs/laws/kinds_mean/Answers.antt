use Rattle.walk_fate_laws.proofs.Kinding.{steady_means, moved_means, between_means, mixed_means, open_means}
use Rattle.walk_fate_laws.proofs.Kinding.{found_means, all_looked_at}
use Rattle.walk_fate_laws.proofs.laws.kinds_mean.Goals as goal

pub returns-clause-steady : goal.returns-clause-steady
returns-clause-steady c = steady_means

pub returns-clause-moved : goal.returns-clause-moved
returns-clause-moved c = moved_means

pub returns-clause-between : goal.returns-clause-between
returns-clause-between c = between_means

pub returns-clause-mixed : goal.returns-clause-mixed
returns-clause-mixed c = mixed_means

pub returns-clause-left_open : goal.returns-clause-left_open
returns-clause-left_open c = open_means

pub returns-clause-found : goal.returns-clause-found
returns-clause-found c = found_means

pub returns-clause-all : goal.returns-clause-all
returns-clause-all c = all_looked_at
