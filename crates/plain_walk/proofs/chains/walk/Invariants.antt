use Rattle.std.proofs.Common.{◌≡◌}
use Rattle.filter_state.specs.States.{State}
use Rattle.filter_lists.specs.Spells.{Spells}
use Rattle.walk_rules.specs.Heads.{heads_on}
use Rattle.walk_rules.specs.Plain.{chain_outcome, plain_walk}
use Rattle.plain_walk.specs.Courses.{carried_from, IsCourse}
use Rattle.plain_walk.proofs.chains.walk.Given as goal

-- the walk ends from this chain as it ends from its start
abbrev pub invariant-loop-verdict : goal.invariant-loop-verdict
invariant-loop-verdict l = record {
  course : IsCourse l.came l.course;
  leads : (s : State) → Spells l.lists s → plain_walk s l.hook l.came ≡ chain_outcome s (heads_on l.hook s) l.restarts l.chain l.course.left (carried_from l.came l.course);
}

abbrev pub decreases-loop-verdict : goal.decreases-loop-verdict
decreases-loop-verdict l = l.restarts
