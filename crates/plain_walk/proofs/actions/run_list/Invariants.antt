use Rattle.std.proofs.Common.{◌≡◌, false, length}
use Rattle.act_list.specs.declared.limits.TheConstants.{JUMPS_MAX}
use Rattle.filter_state.specs.States.{State}
use Rattle.filter_lists.specs.Spells.{Spells}
use Rattle.walk_rules.specs.Plain.{run_list}
use Rattle.plain_walk.specs.Courses.{carried_from, IsCourse}
use Rattle.plain_walk.proofs.actions.run_list.Given as goal

-- the list ends from here as it ends from its start
abbrev pub invariant-loop-course : goal.invariant-loop-course
invariant-loop-course l = record {
  course : IsCourse l.came l.course;
  going : l.run.ended ≡ false;
  whole : l.run.length ≡ length l.serials;
  leads : (s : State) → Spells l.lists s → run_list s l.serials l.fn.course.left (carried_from l.came l.fn.course) 0 JUMPS_MAX
      ≡ run_list s l.serials l.course.left (carried_from l.came l.course) l.run.at l.run.jumps;
}

abbrev pub decreases-loop-course : goal.decreases-loop-course
decreases-loop-course l = l.course.left
