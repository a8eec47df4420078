use Rattle.std.proofs.Common.{arith}
use Rattle.worker_rounds.proofs.OfPoints.Orders.{above_head, never_falls}
use Rattle.worker_rounds.proofs.points.laws.points_never_fall.Goals as goal

pub returns-clause-head : goal.returns-clause-head
returns-clause-head c = λ old new hook answer point t. let is = t.pointed.is in omega (arith, is)

pub returns-clause-above : goal.returns-clause-above
returns-clause-above c = λ old new visits question answer point first has t at. above_head old new visits point has question answer first t at

pub returns-clause-thing : goal.returns-clause-thing
returns-clause-thing c = λ old new visits question answer point place early has t heads at same. never_falls old new visits point has question answer place early t heads at same
