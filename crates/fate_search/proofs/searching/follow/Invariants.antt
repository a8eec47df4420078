use Rattle.std.proofs.Common.{◌≡◌, ◌-◌, List}
use Rattle.walk_rules.specs.declared.limits.TheConstants.{VISITS_MAX}
use Rattle.walk_steps.specs.Walking.{progress_of}
use Rattle.fate_search.specs.Paths.{WalkWay, AreToCome}
use Rattle.fate_search.specs.Searched.{sought_by}
use Rattle.fate_search.specs.Turned.{points_to}
use Rattle.fate_search.proofs.Following.{IsAt, IsLonger}
use Rattle.fate_search.proofs.searching.follow.Given as goal

-- the same ways are still to come
abbrev pub invariant-loop-progress : goal.invariant-loop-progress
invariant-loop-progress g l = record {
  going : l.progress ≡ progress_of l.room.walk.standing;
  at : (ways : List WalkWay)
      → AreToCome (sought_by (g.A.PointAnswers.answer l.packet.answers.now) l.packet) l.fn.room.path.items l.fn.from ways
      → IsAt (sought_by (g.A.PointAnswers.answer l.packet.answers.now) l.packet) l.from l.room.path.items
      l.room.walk.standing l.room.bounds ways;
  longer : IsLonger l.room.path.items l.from (points_to l.fn.room.path.items l.fn.from);
}

abbrev pub decreases-loop-progress : goal.decreases-loop-progress
decreases-loop-progress g l = VISITS_MAX - l.room.walk.standing.visits
