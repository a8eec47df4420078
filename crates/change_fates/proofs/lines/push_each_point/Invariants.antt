use Rattle.std.proofs.Common.{◌≡◌, ◌++◌, take}
use Rattle.std.specs.Prelude.{codes}
use Rattle.std.specs.List.{flat_map}
use Rattle.walk_texts.specs.Texts.{counted}
use Rattle.change_fates.proofs.lines.push_each_point.Given as goal

abbrev pub invariant-loop-point : goal.invariant-loop-point
invariant-loop-point l = l.out.items
    ≡ l.fn.out.items ++ flat_map (λ point. counted (codes " ") point) (take l.point-index l.points)
