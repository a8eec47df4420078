use Rattle.std.proofs.Common.{◌≡◌, ◌≤◌, ◌-◌}
use Rattle.filter_state.specs.Journals.{state_at}
use Rattle.filter_lists.specs.Spells.{Spells}
use Rattle.report_check.proofs.walker.Walker.follow.Given as goal

abbrev pub invariant-loop-self : goal.invariant-loop-self
invariant-loop-self l = record {
  low : l.self.at ≤ l.point;
  spells : Spells l.self.lists (state_at l.self.at l.journal);
  seen : l.self.seen ≡ l.fn.self.seen;
}

abbrev pub decreases-loop-self : goal.decreases-loop-self
decreases-loop-self l = l.point - l.self.at
