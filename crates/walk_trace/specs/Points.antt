-- At which points the visits of a walk are answered (this project's own).
use Rattle.std.specs.Prelude.{ℕ, get_or}
use Rattle.walk_trace.specs.declared.points.Points.{Points}
use Rattle.walk_trace.specs.declared.points.Points.TheVariants as points

-- the point of a visit, by the number of visits before it; behind the last of a list 0
abbrev pub point_at : Points → ℕ → ℕ
point_at (points.All point) visits = point
point_at (points.Each each) visits = get_or each.now visits 0
