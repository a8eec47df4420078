-- What contracts see of a walk.
use Rattle.std.specs.Prelude.{map}
use Rattle.walk_rules.specs.declared.verdict.Verdict.{Verdict}
use Rattle.walk_steps.specs.Told.{execution}
use Rattle.plain_walk.specs.declared.course.Course.{Course}
use Rattle.plain_walk.specs.Walked.{Walked}
use Rattle.plain_walk.specs.Courses.{edited_of}

abbrev pub walked_of : Course → Verdict → Walked
walked_of c verdict = record {
  verdict = verdict;
  edited = edited_of c;
  meta = c.frame.meta;
  executed = map execution c.executed;
}
