use Rattle.walk_rules.proofs.OfPoints.Pushing.{no_points, points_pushed}
use Rattle.walk_rules.proofs.points.laws.points_go_on.Goals as goal

pub returns-clause-none : goal.returns-clause-none
returns-clause-none c = no_points

pub returns-clause-more : goal.returns-clause-more
returns-clause-more c = points_pushed
