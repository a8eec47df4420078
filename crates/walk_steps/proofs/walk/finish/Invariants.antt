use Rattle.std.proofs.Common.{◌-◌, length}
use Rattle.walk_steps.specs.Standings.{IsCourse, IsKnown}
use Rattle.walk_steps.proofs.Running.{LeadsOn}
use Rattle.walk_steps.proofs.walk.finish.Given as goal

abbrev pub invariant-loop-course : goal.invariant-loop-course
invariant-loop-course g l = record {
  course : IsCourse l.course;
  known : IsKnown g.V.Visits.knows_mask g.V.Visits.knows_action l.visits l.course;
  leads : LeadsOn g.V.Visits.told l.fn.visits l.fn.course l.visits l.course;
}

abbrev pub decreases-loop-course : goal.decreases-loop-course
decreases-loop-course g l = 65536 - length l.course.points
