use Rattle.std.proofs.Common.{◌≡◌, ℕ}
use Rattle.filter_state.specs.States.{State}
use Rattle.filter_lists.specs.Spells.{Spells}
use Rattle.walk_rules.specs.Walks.{Outcome}
use Rattle.walk_rules.specs.Heads.{heads_on}
use Rattle.walk_rules.specs.Plain.{Carried, tables_outcome}
use Rattle.plain_walk.specs.Courses.{carried_from, IsCourse}
use Rattle.plain_walk.proofs.Following.{heads_from}
use Rattle.plain_walk.proofs.chains.walk_chain.Given as goal

-- the tables from here on end as all of them
abbrev pub invariant-loop-table : goal.invariant-loop-table
invariant-loop-table l = record {
  course : IsCourse l.came l.course;
  leads : (s : State) → Spells l.lists s → (restart : ℕ → ℕ → Carried → Outcome) →
      tables_outcome s restart l.chain (heads_on l.fn.hook s) l.fn.course.left (carried_from l.came l.fn.course)
      ≡ tables_outcome s restart l.chain (heads_from l.table-index l.tables) l.course.left (carried_from l.came l.course);
}
