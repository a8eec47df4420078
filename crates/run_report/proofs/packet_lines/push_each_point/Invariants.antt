use Rattle.std.proofs.Common.{◌≡◌, ◌++◌, take, codes}
use Rattle.std.specs.List.{flat_map}
use Rattle.walk_texts.specs.Texts.{counted}
use Rattle.run_report.proofs.packet_lines.push_each_point.Given as goal

abbrev pub invariant-loop-point : goal.invariant-loop-point
invariant-loop-point l = l.out.items ≡ l.initial.out.items ++ flat_map (λ point. counted (codes " ") point) (take l.point-index l.points)
