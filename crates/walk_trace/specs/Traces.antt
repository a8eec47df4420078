-- A packet's walk as it is told (this project's own).
use Rattle.std.specs.Prelude.{ℕ, List, [], ◌∷◌}
use Rattle.tc_base.specs.declared.hook.Hook.{Hook}
use Rattle.walk_rules.specs.declared.limits.TheConstants.{VISITS_MAX}
use Rattle.walk_rules.specs.Steps.{Standing, begun, after}
use Rattle.point_walks.specs.Over.{Answering}
use Rattle.trace_lines.specs.Steps.{Step, steps_of}
use Rattle.walk_trace.specs.declared.points.Points.{Points}
use Rattle.walk_trace.specs.Points.{point_at}

-- THE STEPS OF A PACKET'S WALK at a hook
abbrev pub steps_at : Answering → Points → Hook → List ℕ → List Step
steps_at answers points hook bytes = steps_of answers (point_at points) VISITS_MAX (begun hook bytes)

-- where a walk stands behind steps
abbrev pub stands_behind : Standing → List Step → Standing
stands_behind st [] = st
stands_behind st (step ∷ steps) = stands_behind (after step.before step.answer) steps
