use Rattle.std.proofs.Common.{◌≡◌, take}
use Rattle.lawful_runs.specs.Points.{greatest}
use Rattle.report_check.proofs.packets.greatest.Given as goal

abbrev pub invariant-loop-point : goal.invariant-loop-point
invariant-loop-point l = l.most ≡ greatest (take l.point-index l.points)
