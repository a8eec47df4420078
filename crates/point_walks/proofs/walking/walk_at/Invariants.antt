use Rattle.std.proofs.Common.{length, ◌-◌, ◌≡◌, ◌≤◌, Some, true, take}
use Rattle.walk_rules.specs.Steps.{begun}
use Rattle.walk_steps.specs.Walking.{IsOnWay}
use Rattle.point_walks.specs.declared.at_points.Thing.{Thing}
use Rattle.point_walks.specs.Over.{stands_after}
use Rattle.point_walks.specs.Visits.{visits_over}
use Rattle.point_walks.specs.Latest.{latest_of, are_within}
use Rattle.point_walks.proofs.Falling.{NeverFall, highest}
use Rattle.point_walks.proofs.walking.walk_at.Given as goal

abbrev pub invariant-loop-place : goal.invariant-loop-place
invariant-loop-place g l = record {
  within : l.place ≤ length l.points;
  stands : stands_after (g.A.PointAnswers.answer l.answers) (begun l.fn.hook l.bytes) (take l.place l.points) ≡ Some l.walk.standing;
  going : IsOnWay l.walk.standing;
  never : NeverFall (visits_over (g.A.PointAnswers.answer l.answers) (begun l.fn.hook l.bytes) (take l.place l.points));
  latest : (thing : Thing) → latest_of l.latest thing ≡ highest thing (visits_over (g.A.PointAnswers.answer l.answers) (begun l.fn.hook l.bytes) (take l.place l.points));
  bounds : are_within l.fn.bounds l.points ≡ true;
}

abbrev pub decreases-loop-place : goal.decreases-loop-place
decreases-loop-place g l = length l.points - l.place
