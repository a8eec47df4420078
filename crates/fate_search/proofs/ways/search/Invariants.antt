use Rattle.std.proofs.Common.{◌+◌, ◌-◌}
use Rattle.walk_rules.specs.declared.limits.TheConstants.{VISITS_MAX}
use Rattle.fate_search.specs.Looking.{AreLooked}
use Rattle.fate_search.specs.Searched.{sought_by}
use Rattle.fate_search.specs.Turned.{weight_most, points_to, weight_of}
use Rattle.fate_search.proofs.ways.search.Given as goal

abbrev pub invariant-loop-now : goal.invariant-loop-now
invariant-loop-now g l = AreLooked (sought_by (g.A.PointAnswers.answer l.answers) l.packet) l.from l.room.path.items l.ways l.fates

abbrev pub decreases-loop-now : goal.decreases-loop-now
decreases-loop-now g l = weight_most (l.ceiling + 2) VISITS_MAX - weight_of l.ceiling (points_to l.room.path.items l.from)
