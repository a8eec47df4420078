use Rattle.std.proofs.Common.{◌≡◌, ◌++◌, take, codes}
use Rattle.std.specs.List.{flat_map}
use Rattle.walk_texts.specs.Texts.{counted}
use Rattle.report_check.proofs.reading.shown.push_points.Given as goal

abbrev pub invariant-loop-point : goal.invariant-loop-point
invariant-loop-point l = l.text.items ≡ l.initial.text.items ++ flat_map (λ point. counted (codes " ") point) (take l.point-index l.points)
