use Rattle.walk_fate_laws.proofs.Pointed.{bounded_lawful, lawful_bounded}
use Rattle.walk_fate_laws.proofs.games.bounds_are_points.Goals as goal

pub returns-clause-lawful : goal.returns-clause-lawful
returns-clause-lawful c = λ start g ceiling low visits bounded. bounded_lawful g ceiling low visits bounded

pub returns-clause-bounded : goal.returns-clause-bounded
returns-clause-bounded c = λ start g ceiling low visits lawful. lawful_bounded g ceiling low visits lawful
