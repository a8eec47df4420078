-- What contracts see of a walk.
use Rattle.walk_steps.specs.declared.course.Course.{Course}
use Rattle.walk_steps.specs.Walking.{Walking}
use Rattle.walk_steps.specs.Standings.{standing_of, actions_at}

abbrev pub walking_of : Course → Walking
walking_of c = record {
  standing = standing_of c;
  points = c.points;
  heads = c.heads.tables;
  actions = actions_at c.hit c.stage;
}
