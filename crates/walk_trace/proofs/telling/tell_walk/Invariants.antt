use Rattle.std.proofs.Common.{◌≡◌, ◌≤◌, ◌+◌, ◌-◌, ◌++◌, length, None}
use Rattle.walk_rules.specs.declared.limits.TheConstants.{VISITS_MAX}
use Rattle.walk_rules.specs.Steps.{begun}
use Rattle.walk_steps.specs.Walking.{progress_of}
use Rattle.trace_lines.specs.Lines.{joined, walk_lines, decided_in}
use Rattle.walk_trace.specs.Points.{point_at}
use Rattle.walk_trace.specs.Traces.{steps_at, stands_behind}
use Rattle.walk_trace.proofs.Left.{IsLeft}
use Rattle.walk_trace.proofs.telling.tell_walk.Given as goal

abbrev pub invariant-loop-progress : goal.invariant-loop-progress
invariant-loop-progress g l = record {
  going : l.progress ≡ progress_of l.walk.standing;
  hook : l.walk.standing.hook ≡ l.fn.hook;
  most : l.visits ≤ VISITS_MAX;
  few : length l.decided.items ≤ length l.fn.decided.items + l.visits;
  left : IsLeft (g.A.PointAnswers.answer l.fn.answers) (point_at l.fn.points) l.fn.told (g.N.Naming.names l.fn.names)
      (l.fn.page ++ joined (walk_lines l.fn.told (g.N.Naming.names l.fn.names) None (steps_at (g.A.PointAnswers.answer l.fn.answers) l.fn.points l.fn.hook l.fn.bytes)))
      (l.fn.decided.items ++ decided_in (g.N.Naming.names l.fn.names) (steps_at (g.A.PointAnswers.answer l.fn.answers) l.fn.points l.fn.hook l.fn.bytes))
      (stands_behind (begun l.fn.hook l.fn.bytes) (steps_at (g.A.PointAnswers.answer l.fn.answers) l.fn.points l.fn.hook l.fn.bytes))
      l.walk.standing l.visits l.seen l.page l.decided.items;
}

abbrev pub decreases-loop-progress : goal.decreases-loop-progress
decreases-loop-progress g l = VISITS_MAX - l.visits
