use Rattle.worker_rounds.proofs.OfPoints.Follows.{visit_follows}
use Rattle.worker_rounds.proofs.points.laws.visits_follow.Goals as goal

pub returns-clause-more : goal.returns-clause-more
returns-clause-more c = visit_follows
